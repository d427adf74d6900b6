use Rattle.std.proofs.Common.{[], ◌∷◌, refl, arith}
use borrow.Author.Differences.{ints}
use Rattle.table_text.proofs.reads.sample_line.Goals as goal

pub returns : goal.returns
returns c = record {
  rises = omega arith;
  inside = c.requires;
  row = record {
    filled = omega arith;
    kind = omega arith;
    name = (97 ∷ [], record { some = omega arith; few = omega arith; plain = (refl, tt) }, refl);
    owner = omega arith;
    link = omega arith;
    up = omega arith;
    lo = (omega (arith, ints), omega (arith, ints));
    hi = (omega (arith, ints), omega (arith, ints));
    value = (omega (arith, ints), omega (arith, ints));
  };
}
