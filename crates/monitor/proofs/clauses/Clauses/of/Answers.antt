use Rattle.std.proofs.Common.{◌≡◌, ℕ}
use Rattle.monitor.specs.Layout.{set_of}
use Rattle.monitor.proofs.Masks.{filled}
use Rattle.monitor.proofs.Arrays.{from_fn_each}
use Rattle.monitor.proofs.clauses.Clauses.of.Goals as goal

pub returns : goal.returns
returns g c f h =
    let s = g.S.Scale.ops in
    filled s c.from_fn.result f (λ k l. from_fn_each (λ (i : ℕ) (x : g.row.S.Denot). x ≡ f (set_of i)) c.from_fn.ensures.items (λ i y q m e. (λ j. (e.met.0 j, record {}), e.met.1 f h)) k s.top l)
