use Rattle.std.proofs.Common.{◌<◌, get_or, sym, ap, ◌∙◌, subst, arith, rules}
use Rattle.host.specs.Packing.{rows_in, room, Spared}
use Rattle.host.proofs.Written.{Fits, length_rows, room_inside, rows_put, others_put, spared_put, put_is}
use Rattle.host.proofs.packed.write_packed.Goals as goal

pub slice_bounds-copy_from_slice-end : goal.slice_bounds-copy_from_slice-end
slice_bounds-copy_from_slice-end c = let h = room_inside c.args.words.now c.args.place (omega (arith, length_rows c.args.words.now)) in search rules

pub returns-then-place-rows_in : goal.returns-then-place-rows_in
returns-then-place-rows_in c =
    let ws = c.args.words.now in
    let p = c.args.place in
    let r = c.args.row in
    let h : p < room ws = omega (arith, length_rows ws) in
    let f : Fits r = record { kind = search rules; owner = search rules; link = search rules; lo = search rules; hi = search rules; value = search rules } in
    let e = put_is ws c.copy_from_slice.new.self p r (c.copy_from_slice.ensures.after ∙ c.pack_row.ensures) in
    record {
      told = omega (arith, length_rows ws);
      rows = ap rows_in e ∙ rows_put ws p r h f;
      others = λ k away. ap (λ vs. get_or vs k 0) e ∙ others_put ws p r h k away;
      spared = subst (Spared ws) (sym e) (spared_put ws p r h);
    }
