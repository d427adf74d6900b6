use Rattle.std.proofs.Common.{rules}
use Rattle.std.proofs.lemmas.Iterator.{first_from_find, YieldsList-from_slice}
use Rattle.std.proofs.lemmas.Iterator.Consumers.{YieldsList-from_copied}
use Rattle.table.specs.Rules.{Keeps}
use Rattle.table.proofs.Order.{in_order, wrong_from_first}
use Rattle.table.proofs.rules.wrong_at.Goals as goal

pub returns : goal.returns
returns g c =
    let t = g.H.Host.rows c.args.host.now in
    wrong_from_first t c.args.place c.find.result
    (first_from_find _ _ c.find.result (λ k. Keeps k t c.args.place → ⊥) (λ k. Keeps k t c.args.place) c.find.ensures.ran (YieldsList-from_copied (YieldsList-from_slice in_order cc)) (λ x q k. search rules) (λ x q k. search rules))
