use Rattle.std.proofs.Common.{sym, ◌∙◌, arith}
use Rattle.host.proofs.Written.{length_rows, read_row_lem, room_inside}
use Rattle.host.proofs.packed.read_packed.Goals as goal

pub unpack_row-requires : goal.unpack_row-requires
unpack_row-requires c = room_inside c.args.words.now c.args.place (omega (arith, length_rows c.args.words.now))

pub returns-then-place-rows_in : goal.returns-then-place-rows_in
returns-then-place-rows_in c = (omega arith, c.unpack_row.ensures ∙ sym (read_row_lem c.args.words.now c.args.place _ (omega (arith, length_rows c.args.words.now))))
