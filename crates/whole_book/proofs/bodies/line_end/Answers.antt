use Rattle.std.proofs.Common.{◌≡◌, ◌≢◌, ◌+◌, ◌-◌, length, codes, sym, refl, subst, inl, inr, arith, rules, tests}
use Rattle.std.proofs.lemmas.Iterator.{IsFirst-from_position, YieldsList-from_slice}
use Rattle.std.proofs.lemmas.Option.{MatchOption-at_none, MatchOption-at_some}
use Rattle.std.specs.List.{AllWithin}
use Rattle.book_words.specs.Cuts.{words_of, part}
use Rattle.book_words.proofs.Parting.{length_part}
use Rattle.book_text.proofs.Steps.{as_long}
use Rattle.whole_book.specs.Took.{NoEnd}
use Rattle.whole_book.proofs.Ending.{no_end, end_there}
use Rattle.whole_book.proofs.bodies.line_end.Goals as goal

pub returns-in-Some : goal.returns-in-Some
returns-in-Some c =
    let ts = c.args.tokens.now in
    let a = c.args.at in
    let n = c.in-Some.n in
    let first = MatchOption-at_some _ _ _ c.in-Some.is (IsFirst-from_position _ _ _ (λ t. t.word.now ≡ codes "\n") (λ t. t.word.now ≢ codes "\n") c.position.ensures.ran (YieldsList-from_slice _ c.iter.ensures.rest) (λ x q k. search (rules, tests)) (λ x q k. search (rules, tests))) in
    let l = length_part ts a (length ts) (omega arith) in
    record {
      ahead = omega arith;
      inside = omega (arith, first.0, l);
      ends = inr (a + n, omega arith, omega (arith, first.0, l, as_long ts), refl, end_there ts a n (omega (arith, first.0, l)) first.1, no_end ts a n (omega (arith, first.0, l)) first.2);
    }

pub returns-in-None : goal.returns-in-None
returns-in-None c =
    let ts = c.args.tokens.now in
    let a = c.args.at in
    let none = MatchOption-at_none _ _ c.in-None.is (IsFirst-from_position _ _ _ (λ t. t.word.now ≡ codes "\n") (λ t. t.word.now ≢ codes "\n") c.position.ensures.ran (YieldsList-from_slice _ c.iter.ensures.rest) (λ x q k. search (rules, tests)) (λ x q k. search (rules, tests))) in
    let l = length_part ts a (length ts) (omega arith) in
    let m : a + (length ts - a) ≡ length ts = omega (arith, c.requires) in
    record {
      ahead = c.requires;
      inside = omega arith;
      ends = inl (sym (as_long ts), subst (NoEnd (words_of ts) a) m (no_end ts a (length ts - a) (omega arith) (subst (AllWithin (λ t. t.word.now ≢ codes "\n") (part ts a (length ts)) 0) l none)));
    }
