use Rattle.std.proofs.Common.{◌+◌, ◌++◌, length, take, sym, refl, ap, ◌∙◌, arith}
use Rattle.std.proofs.lemmas.Slice.{take-put_mid, drop-put_mid}
use Rattle.table_text.proofs.writes.put_bytes.Goals as goal

pub returns : goal.returns
returns c =
    let b = c.args.buf.now in
    let at = c.args.at in
    let ys = c.copy_from_slice.new.self in
    let e = c.copy_from_slice.ensures.after in
    record {
      puts = record { ends = refl; written = take-put_mid at _ b ys (at + length c.args.bytes.now) (ap (λ xs. at + length xs) (sym e)) (omega arith) ∙ ap (λ xs. take at b ++ xs) e };
      rest = drop-put_mid at _ b ys (at + length c.args.bytes.now) (omega arith) (omega arith) (ap length e ∙ omega arith);
    }
