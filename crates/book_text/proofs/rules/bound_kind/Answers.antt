use Rattle.std.proofs.Common.{◌≡◌, ◌+◌, [], get_or, codes, sym, ap, ◌∙◌, arith, rules}
use Rattle.std.specs.Option.{ok_or}
use Rattle.book_text.specs.declared.parts.Stop.TheVariants.{Wrong}
use Rattle.std.specs.Str.{bytes_eq}
use Rattle.book_words.specs.Cuts.{words_of}
use Rattle.book_text.specs.States.{name_of_next}
use Rattle.book_text.specs.Words.{kind_of}
use Rattle.book_text.proofs.Lexical.{same_refl}
use Rattle.book_text.proofs.Moves.{stops_with, word_there}
use Rattle.book_text.proofs.Steps.{as_long}
use Rattle.book_text.proofs.Binding.{not_named, not_parted, kind_read}
use Rattle.book_text.proofs.rules.bound_kind.Goals as goal

pub returns-in_err-expect : goal.returns-in_err-expect
returns-in_err-expect c = λ o e.
    let x = c.args.cursor in
    let s = words_of x.tokens.now in
    stops_with _ _ c.from_residual.result (Wrong x.at) (search rules) (not_named o s x.at (omega (arith, as_long x.tokens.now, x.inside)) (ap (bytes_eq (get_or s x.at [])) e ∙ c.in_err-expect.ensures.1))

pub returns-in_err-kind : goal.returns-in_err-kind
returns-in_err-kind c = λ o e.
    let x = c.args.cursor in
    let s = words_of x.tokens.now in
    let b = c.in_ok-expect.ensures in
    let n : get_or s x.at [] ≡ name_of_next o = b.word ∙ sym e in
    let m = ap (λ z. bytes_eq z (name_of_next o)) n ∙ same_refl (name_of_next o) in
    stops_with _ _ c.from_residual-in_err-kind.result (Wrong (x.at + 1)) (search rules)
    (not_parted o s x.at n m (ap (λ z. bytes_eq z (codes ":")) (sym (word_there words_of x c.in_ok-expect.field-0 b.tokens b.at)) ∙ c.in_err-kind.ensures.1))

pub returns : goal.returns
returns c = λ o e.
    let x = c.args.cursor in
    let s = words_of x.tokens.now in
    let b = c.in_ok-expect.ensures in
    let d = c.in_ok-kind.ensures in
    let n : get_or s x.at [] ≡ name_of_next o = b.word ∙ sym e in
    let m = ap (λ z. bytes_eq z (name_of_next o)) n ∙ same_refl (name_of_next o) in
    let p = sym (word_there words_of x c.in_ok-expect.field-0 b.tokens b.at) ∙ d.word in
    let two : c.in_ok-kind.kind.at ≡ x.at + 2 = omega (arith, b.at, d.at) in
    let t : get_or s (x.at + 2) [] ≡ c.word.result.now = sym (c.word.ensures ∙ word_there words_of x c.in_ok-kind.kind (d.tokens ∙ b.tokens) two) in
    kind_read o s x.at n m p c.as_kind.result c.ok_or.result (ap kind_of t ∙ sym c.as_kind.ensures) (c.ok_or.ensures.value ∙ ap (λ i. ok_or c.as_kind.result (Wrong i)) two)
