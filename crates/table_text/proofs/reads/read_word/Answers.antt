use Rattle.std.proofs.Common.{◌≡◌, ◌≤◌, [], ◌∷◌, ◌++◌, length, Err, sym, ◌∙◌, append_assoc, arith, rules}
use Rattle.std.proofs.lemmas.List.{take_more}
use Rattle.std.proofs.lemmas.Option.{MatchOption-at_none, MatchOption-at_some}
use Rattle.table_text.specs.Keys.{before}
use Rattle.table_text.specs.Lines.{ending, word}
use Rattle.table_text.proofs.Wrong.{err_with, wrong_word, lacking, extra, taken_to, ends_early, ends_otherwise}
use Rattle.table_text.proofs.reads.read_word.Goals as goal

pub returns-in_err-taken : goal.returns-in_err-taken
returns-in_err-taken c =
    let w = c.word_end-end.ensures in
    let e : c.from_residual.result ≡ Err (record { at = c.args.at; end = c.word_end-end.result }) = search rules in
    let none = MatchOption-at_none _ _ c.in_err-taken.ensures.ok_part c.take_word.ensures in
    err_with c.from_residual.result _ _ _ e (wrong_word c.args.next c.args.rest.now c.args.line c.args.key c.args.at c.word_end-end.result c.requires.fits w.within.0 w.within.1 c.requires.begun w.word w.ended none)

pub returns-in-Some : goal.returns-in-Some
returns-in-Some c =
    let s = c.args.rest.now in
    let k = c.args.key in
    let l = c.in_ok-taken.taken in
    let end = c.word_end-end.result in
    let t = MatchOption-at_some _ _ l c.in_ok-taken.ensures.ok_part c.take_word.ensures in
    let b = taken_to s c.args.at end c.args.line l k c.word_end-end.ensures.within.0 c.requires.begun t.1 t.2 in
    let g = c.in-Some.ensures.lookup.3 in
    (t.0, omega (arith, g.0), take_more s end 0 g.0 ∙ (λ i. b i ++ ((sym (g.1 0) ∙ c.if-b-ending.true ∙ c.ending.ensures) i ∷ [])) ∙ append_assoc (before l k) (word l k) (ending k ∷ []))

pub returns-in-Some-eq32 : goal.returns-in-Some-eq32
returns-in-Some-eq32 c =
    let s = c.args.rest.now in
    let k = c.args.key in
    let l = c.in_ok-taken.taken in
    let end = c.word_end-end.result in
    let w = c.word_end-end.ensures in
    let v = c.word_end.ensures in
    let t = MatchOption-at_some _ _ l c.in_ok-taken.ensures.ok_part c.take_word.ensures in
    let g = c.in-Some.ensures.lookup.3 in
    extra c.args.next s l k end t.0 w.within.1 (taken_to s c.args.at end c.args.line l k w.within.0 c.requires.begun t.1 t.2) c.word_end.result g.0 (sym (g.1 0) ∙ c.in-Some-eq32.field-0-test) (λ e. c.if-b-ending.false (c.in-Some-eq32.field-0-test ∙ sym e ∙ sym c.ending.ensures)) v.within.0 v.within.1 v.word v.ended

pub returns-in_default : goal.returns-in_default
returns-in_default c =
    let s = c.args.rest.now in
    let k = c.args.key in
    let l = c.in_ok-taken.taken in
    let end = c.word_end-end.result in
    let w = c.word_end-end.ensures in
    let t = MatchOption-at_some _ _ l c.in_ok-taken.ensures.ok_part c.take_word.ensures in
    let g = c.in-Some.ensures.lookup.3 in
    lacking c.args.next s l k end t.0 w.within.1 (taken_to s c.args.at end c.args.line l k w.within.0 c.requires.begun t.1 t.2) w.ended (ends_otherwise s end k g.0 (λ e. c.if-b-ending.false (g.1 0 ∙ e ∙ sym c.ending.ensures)))

pub returns-in_default-2 : goal.returns-in_default-2
returns-in_default-2 c =
    let s = c.args.rest.now in
    let k = c.args.key in
    let l = c.in_ok-taken.taken in
    let end = c.word_end-end.result in
    let w = c.word_end-end.ensures in
    let t = MatchOption-at_some _ _ l c.in_ok-taken.ensures.ok_part c.take_word.ensures in
    let n : length s ≤ end = search rules in
    lacking c.args.next s l k end t.0 w.within.1 (taken_to s c.args.at end c.args.line l k w.within.0 c.requires.begun t.1 t.2) w.ended (ends_early s end k n)
