use Rattle.std.proofs.Common.{◌≡◌, ℕ, suc, ◌+◌, ◌<◌, List, vec_items, sym, ap, ◌∙◌, subst, arith}
use Rattle.ftpl.specs.Properties.{numbered_value}
use Rattle.monitor.specs.Boards.{Serves, Ready}
use Rattle.monitor.proofs.Arrays.{from_fn_each}
use Rattle.monitor.proofs.Filled.{filled_all}
use Rattle.monitor.proofs.working.fill.Goals as goal

pub returns : goal.returns
returns g c =
    let s = g.S.Scale.ops in
    let t = g.H.Host.rows c.args.host.now in
    let ps = vec_items c.args.book.now.properties in
    let fs = vec_items c.args.book.now.formulas in
    let found = λ (k : ℕ) (l : k < 64). from_fn_each (λ (i : ℕ) (u : g.row.S.Denot). Serves s t ps fs (suc i) u) c.from_fn-needed.ensures.items
    (λ i y q m e. (λ j. (e.met.0.0 j, e.met.0.1 j, record {}), λ n f j st h. let next : i + 1 ≡ suc i = omega arith in e.met.1 n f j st (h ∙ sym next) ∙ ap (numbered_value s t ps) next)) k s.bottom l in
    subst (λ (xs : List g.row.S.Denot). Ready s t ps fs xs) (sym c.copy_from_slice.ensures.after) (filled_all s t ps fs c.from_fn-needed.result c.from_fn-needed.ensures.items.long found)
