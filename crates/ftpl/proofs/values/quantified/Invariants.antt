use Rattle.std.proofs.Common.{◌≡◌, ◌<◌, ℕ, eqb, length}
use Rattle.host.specs.Tables.{row_at}
use Rattle.ftpl.specs.Properties.{kind_number}
use Rattle.ftpl.proofs.Quantified.{Going}
use Rattle.ftpl.proofs.values.quantified.Given as goal

abbrev pub invariant-loop-place : goal.invariant-loop-place
invariant-loop-place g l =
    let t = g.H.Host.rows l.host in
    (f : ℕ → g.row.S.Denot) → ((p : ℕ) (x : g.row.S.Denot) → p < 256 → goal.F-post g l.value p x → x ≡ f p) → Going g.S.Scale.ops l.binder.quantifier (λ p. eqb (row_at t p).kind (kind_number l.binder.kind)) f (length t) l.place l.total
