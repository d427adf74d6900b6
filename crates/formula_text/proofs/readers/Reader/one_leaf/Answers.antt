use Rattle.std.proofs.Common.{◌≡◌, ◌+◌, ◌-◌, [], get_or, Some, sym, ap, ◌∙◌, arith, rules}
use Rattle.std.proofs.lemmas.Option.{MatchOption-at_none, MatchOption-at_some}
use Rattle.book_text.specs.declared.parts.Stop.TheVariants.{Wrong}
use Rattle.book_text.proofs.Moves.{stops_with}
use Rattle.formula_text.specs.Spots.{place_of}
use Rattle.formula_text.specs.Words.{leaf_word_of, rule_words}
use Rattle.formula_text.specs.Took.{put_leaf}
use Rattle.formula_text.proofs.Steps.{rule_long}
use Rattle.formula_text.proofs.Traced.{no_leaf, no_number, took_leaf}
use Rattle.formula_text.proofs.readers.Reader.one_leaf.Goals as goal

pub returns-in_err-word : goal.returns-in_err-word
returns-in_err-word c = λ b.
    let n = c.args.self.most in
    let x = c.args.spot in
    stops_with _ _ c.from_residual.result (Wrong x.cursor.at) (search rules)
    (no_leaf n x.depth (8 - x.depth) b (rule_words x.cursor.tokens.now) (place_of x) c.args.self.some x.few (omega (arith, rule_long x.cursor.tokens.now, x.cursor.inside)) c.requires (ap leaf_word_of (sym c.rule_word.ensures) ∙ sym c.as_leaf.ensures ∙ c.in_err-word.ensures.ok_part))

pub returns-in_err-number : goal.returns-in_err-number
returns-in_err-number c = λ b.
    let n = c.args.self.most in
    let x = c.args.spot in
    let s = rule_words x.cursor.tokens.now in
    let o : leaf_word_of (get_or s x.cursor.at []) ≡ Some c.in_ok-word.word = ap leaf_word_of (sym c.rule_word.ensures) ∙ sym c.as_leaf.ensures ∙ c.in_ok-word.ensures.ok_part in
    let none = MatchOption-at_none _ _ c.in_err-number.ensures.ok_part c.natural_between.ensures in
    stops_with _ _ c.from_residual-in_err-number.result (Wrong (x.cursor.at + 1)) (search rules)
    (no_number n x.depth (8 - x.depth) b s (place_of x) c.args.self.some x.few c.in_ok-word.word o (λ m h l q. none m h l (c.rule_word-number.ensures ∙ q)))

pub returns : goal.returns
returns c = λ b.
    let n = c.args.self.most in
    let x = c.args.spot in
    let s = rule_words x.cursor.tokens.now in
    let o : leaf_word_of (get_or s x.cursor.at []) ≡ Some c.in_ok-word.word = ap leaf_word_of (sym c.rule_word.ensures) ∙ sym c.as_leaf.ensures ∙ c.in_ok-word.ensures.ok_part in
    let r = MatchOption-at_some _ _ _ c.in_ok-number.ensures.ok_part c.natural_between.ensures in
    took_leaf n x.depth (8 - x.depth) b s (place_of x) c.args.self.some x.few c.in_ok-word.word o
    (omega arith) c.in_ok-number.number r.0 r.1 (sym c.rule_word-number.ensures ∙ r.2) c.slot_at.result c.put_leaf.result c.slot_at.ensures (c.put_leaf.ensures ∙ ap (put_leaf x.leaves x.count) c.leaf_of.ensures)
