use Rattle.std.proofs.Common.{◌≡◌, ℕ, ◌<◌, ◌≤◌, true, false, eqb, length, sym, ◌∙◌, arith}
use Rattle.host.specs.Tables.{row_at}
use Rattle.ftpl.specs.Properties.{kind_number}
use Rattle.ftpl.proofs.Quantified.{going_taken, going_left, going_all}
use Rattle.ftpl.proofs.values.quantified.Goals as goal
use Rattle.ftpl.proofs.values.quantified.Goals.{then-is_of_kind, else-is_of_kind}

pub loop-place-preserved : goal.loop-place-preserved
loop-place-preserved g c f h =
    let s = g.S.Scale.ops in
    let t = g.H.Host.rows c.args.host.now in
    let b = c.args.binder in
    let test = λ (p : ℕ). eqb (row_at t p).kind (kind_number b.kind) in
    let here : c.loop-place.place < length t = omega arith in
    let before = c.loop-place.invariant f h in
    elim c.if-is_of_kind.branch [
      | then-is_of_kind w ↦
          (let met : test c.loop-place.place ≡ true = sym c.is_of_kind.ensures ∙ w.if-is_of_kind.true in
          going_taken g.S.Scale.laws b.quantifier test f (length t) c.loop-place.place c.loop-place.total c.if-is_of_kind.total _ here met before (h c.loop-place.place _ (omega arith) w.value.ensures) (w.total-is ∙ w.joined-total.ensures))
      | else-is_of_kind w ↦
          (let unmet : test c.loop-place.place ≡ false = sym c.is_of_kind.ensures ∙ w.if-is_of_kind.false in
          going_left g.S.Scale.laws b.quantifier test f (length t) c.loop-place.place c.loop-place.total c.if-is_of_kind.total here unmet before w.total-is)
    ]

pub returns : goal.returns
returns g c f h =
    let s = g.S.Scale.ops in
    let t = g.H.Host.rows c.args.host.now in
    let b = c.args.binder in
    let all : length t ≤ c.loop-place.place = omega arith in
    going_all g.S.Scale.laws b.quantifier (λ (p : ℕ). eqb (row_at t p).kind (kind_number b.kind)) f (length t) c.loop-place.place c.loop-place.total all (c.loop-place.invariant f h)
