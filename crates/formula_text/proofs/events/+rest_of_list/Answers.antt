use Rattle.std.proofs.Common.{◌≡◌, ◌+◌, length, [], get_or, codes, Some, sym, ap, ◌∙◌, subst, arith, rules}
use Rattle.std.specs.Str.{bytes_eq}
use Rattle.std.proofs.lemmas.Option.{MatchOption-at_none, MatchOption-at_some}
use Rattle.std.proofs.lemmas.Result.{MatchResult-weaker}
use Rattle.std.proofs.lemmas.Slice.Eq.{text_from_reads}
use Rattle.book_text.specs.declared.parts.Stop.TheVariants.{Wrong}
use Rattle.book_text.proofs.Moves.{stops_with, read_at}
use Rattle.formula_text.specs.Words.{event_of, rule_words}
use Rattle.formula_text.specs.States.{operation}
use Rattle.formula_text.specs.Took.{Lists, EventsTook, Failed}
use Rattle.formula_text.proofs.Moves.{as_stop}
use Rattle.formula_text.proofs.Steps.{rule_long, not_sign}
use Rattle.formula_text.proofs.Listed.{no_operation, no_saying, no_sign, last_took, more_took, more_stuck}
use Rattle.formula_text.proofs.events.+rest_of_list.Goals.{in_default-via-then-rule_word-lt1, in_default-via-else-rule_word-lt1+then-this-lt2+in_default-1, in_default-via-else-rule_word-lt1+else-this-lt2}
use Rattle.formula_text.proofs.events.+rest_of_list.Goals as goal

pub returns-in_err-operation : goal.returns-in_err-operation
returns-in_err-operation t c = λ n st.
    let x = c.args.cursor in
    let none = MatchOption-at_none _ _ c.in_err-operation.ensures.ok_part c.natural_between.ensures in
    stops_with _ _ c.from_residual.result (Wrong x.at) (search rules)
    (no_operation n st c.args.list (rule_words x.tokens.now) x.at (omega (arith, rule_long x.tokens.now, x.inside)) (λ k h l e. none k h l (c.rule_word.ensures ∙ e)))

pub returns-in_err-word : goal.returns-in_err-word
returns-in_err-word t c = λ n st.
    let x = c.args.cursor in
    let r = MatchOption-at_some _ _ _ c.in_ok-operation.ensures.ok_part c.natural_between.ensures in
    stops_with _ _ c.from_residual-in_err-word.result (Wrong (x.at + 1)) (search rules)
    (no_saying n st c.args.list (rule_words x.tokens.now) x.at c.in_ok-operation.operation r.0 r.1 (sym c.rule_word.ensures ∙ r.2) (ap event_of (sym c.rule_word-2.ensures) ∙ sym c.as_event.ensures ∙ c.in_err-word.ensures.ok_part))

pub returns-in-44 : goal.returns-in-44
returns-in-44 t c = λ n st.
    let x = c.args.cursor in
    let s = rule_words x.tokens.now in
    let r = MatchOption-at_some _ _ _ c.in_ok-operation.ensures.ok_part c.natural_between.ensures in
    let g = sym c.rule_word-3.ensures ∙ text_from_reads c.rule_word-3.result.now (codes ",") (omega arith) (search rules) in
    let q = sym c.rule_word.ensures ∙ r.2 in
    let o : event_of (get_or s (x.at + 1) []) ≡ Some c.in_ok-word.word = ap event_of (sym c.rule_word-2.ensures) ∙ sym c.as_event.ensures ∙ c.in_ok-word.ensures.ok_part in
    MatchResult-weaker c.rest_of_list.result (c.rest_of_list.ensures n st)
    (λ y h. more_took n st c.args.list s x.at c.in_ok-operation.operation r.0 r.1 q c.in_ok-word.word o g y (subst (λ z. EventsTook z s (x.at + 3) y) c.with_event-more.ensures (read_at rule_words (λ s a. EventsTook c.with_event-more.result s a y) x c.to.result c.to.ensures.tokens c.to.ensures.at h)))
    (λ e h. as_stop e (λ z. more_stuck n st c.args.list s x.at c.in_ok-operation.operation r.0 r.1 q c.in_ok-word.word o g z) (subst (λ z. Failed n (Lists z) (operation st) s (x.at + 3) e) c.with_event-more.ensures (read_at rule_words (λ s a. Failed n (Lists c.with_event-more.result) (operation st) s a e) x c.to.result c.to.ensures.tokens c.to.ensures.at h)))

pub returns-in-93 : goal.returns-in-93
returns-in-93 t c = λ n st.
    let x = c.args.cursor in
    let s = rule_words x.tokens.now in
    let r = MatchOption-at_some _ _ _ c.in_ok-operation.ensures.ok_part c.natural_between.ensures in
    let g = sym c.rule_word-3.ensures ∙ text_from_reads c.rule_word-3.result.now (codes "]") (omega arith) (search rules) in
    let q = sym c.rule_word.ensures ∙ r.2 in
    let o : event_of (get_or s (x.at + 1) []) ≡ Some c.in_ok-word.word = ap event_of (sym c.rule_word-2.ensures) ∙ sym c.as_event.ensures ∙ c.in_ok-word.ensures.ok_part in
    subst (λ z. EventsTook c.args.list s x.at (record { list = z; next = x.at + 3 })) (sym c.with_event-more.ensures) (last_took n st c.args.list s x.at c.in_ok-operation.operation r.0 r.1 q c.in_ok-word.word o g)

pub returns-in_default : goal.returns-in_default
returns-in_default t c = λ n st.
    let x = c.args.cursor in
    let s = rule_words x.tokens.now in
    let w = c.rule_word-3.result.now in
    let r = MatchOption-at_some _ _ _ c.in_ok-operation.ensures.ok_part c.natural_between.ensures in
    let q = sym c.rule_word.ensures ∙ r.2 in
    let o : event_of (get_or s (x.at + 1) []) ≡ Some c.in_ok-word.word = ap event_of (sym c.rule_word-2.ensures) ∙ sym c.as_event.ensures ∙ c.in_ok-word.ensures.ok_part in
    let u : (length w ≡ 1 → get_or w 0 0 ≡ 44 → ⊥) × (length w ≡ 1 → get_or w 0 0 ≡ 93 → ⊥) =
    elim c.in_default.branch [
      | in_default-via-then-rule_word-lt1 w ↦ (search rules, search rules)
      | in_default-via-else-rule_word-lt1+then-this-lt2+in_default-1 w ↦ (search rules, search rules)
      | in_default-via-else-rule_word-lt1+else-this-lt2 w ↦ (search rules, search rules)
    ] in
    no_sign n st c.args.list s x.at c.in_ok-operation.operation r.0 r.1 q c.in_ok-word.word o
    (ap (λ z. bytes_eq z (codes ",")) (sym c.rule_word-3.ensures) ∙ not_sign w 44 u.0) (ap (λ z. bytes_eq z (codes "]")) (sym c.rule_word-3.ensures) ∙ not_sign w 93 u.1)
