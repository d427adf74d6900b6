use Rattle.std.proofs.Common.{◌≡◌, ◌+◌, ◌-◌, length, take, drop, sym, ap, ◌∙◌, subst, arith}
use Rattle.std.specs.List.{position_or_len}
use Rattle.std.specs.Option.{unwrap_or}
use Rattle.std.proofs.lemmas.List.{take_rest, drop-drop}
use Rattle.host.proofs.Spelled.{position-or_length}
use Rattle.table_text.specs.Texts.{parts, Word, Ended}
use Rattle.table_text.proofs.Found.{word_first}
use Rattle.table_text.proofs.words.word_end.Goals as goal

pub returns-clause-word : goal.returns-clause-word
returns-clause-word c =
    let s = c.args.text.now in
    let at = c.args.at in
    let rest = take (length s - at) (drop at s) in
    let e = c.unwrap_or.ensures ∙ ap (λ o. unwrap_or o (length rest)) c.first_parting.ensures ∙ position-or_length parts rest ∙ ap (position_or_len parts) (take_rest s at) in
    let n : c.unwrap_or.result ≡ at + c.unwrap_or.result - at = omega arith in
    subst (λ k. Word (take k (drop at s))) (sym e ∙ n) (word_first (drop at s)).0

pub returns-clause-ended : goal.returns-clause-ended
returns-clause-ended c =
    let s = c.args.text.now in
    let at = c.args.at in
    let rest = take (length s - at) (drop at s) in
    let e = c.unwrap_or.ensures ∙ ap (λ o. unwrap_or o (length rest)) c.first_parting.ensures ∙ position-or_length parts rest ∙ ap (position_or_len parts) (take_rest s at) in
    subst Ended (ap (λ k. drop k (drop at s)) (sym e) ∙ drop-drop c.unwrap_or.result at s) (word_first (drop at s)).1
