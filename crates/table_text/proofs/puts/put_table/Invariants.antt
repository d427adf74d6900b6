use Rattle.std.proofs.Common.{◌≡◌, ◌++◌, map, drop}
use Rattle.std.specs.List.{range_with_len}
use Rattle.host.specs.Tables.{row_at}
use Rattle.table_text.proofs.puts.put_table.Given as goal

abbrev pub invariant-loop-place : goal.invariant-loop-place
invariant-loop-place g l =
    (g.H.Host.rows l.host ≡ map (row_at l.table) (range_with_len 0 l.place) ++ drop l.place (g.H.Host.rows l.initial.host)) × g.H.Host.held l.initial.host l.host
