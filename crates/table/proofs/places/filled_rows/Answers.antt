use Rattle.std.proofs.Common.{not, nat_eq, ◌∙◌, arith, rules}
use Rattle.std.proofs.lemmas.Iterator.{YieldsList-from_range}
use Rattle.std.proofs.lemmas.Iterator.Consumers.{YieldsList-from_filter, count_from_yields_List}
use Rattle.host.specs.Tables.{row_at, empty_row}
use Rattle.table.proofs.Finding.{length-filter-places}
use Rattle.table.proofs.places.filled_rows.Goals as goal

pub returns : goal.returns
returns g c =
    let t = g.H.Host.rows c.args.host.now in
    let n = c.capacity.result in
    count_from_yields_List _ _ c.count.ensures.ran
    (YieldsList-from_filter _ (λ q. not (nat_eq (row_at t q).kind 0)) (YieldsList-from_range 0 n n c.filter.ensures.source (omega arith)) c.filter.ensures.closure (λ x r q k. search rules))
    ∙ length-filter-places (λ row. not (nat_eq row.kind 0)) empty_row t n c.capacity.ensures
