use Rattle.std.proofs.Common.{◌≡◌, ◌≢◌, ℕ, ◌≤◌, ◌++◌, Some, None, decimal, sym, ap, ◌∙◌, subst, MatchOption}
use Rattle.std.proofs.lemmas.Slice.Eq.{strip_prefix_is}
use Rattle.std.proofs.lemmas.List.{append_cancel_left}
use Rattle.table_text.proofs.Wrong.{some_weaker}
use Rattle.whole_book.proofs.heads.keyed_number.Goals as goal
use Rattle.std.proofs.lemmas.Bool.Decides.{Decides-eqb}

pub returns-in_err-strip_prefix : goal.returns-in_err-strip_prefix
returns-in_err-strip_prefix c =
    let none = strip_prefix_is Decides-eqb c.args.word.now c.args.key.now None c.in_err-strip_prefix.ensures.cases in
    subst (λ o. MatchOption o ((n : ℕ) → c.args.least ≤ n → n ≤ c.args.most → c.args.word.now ≢ c.args.key.now ++ decimal n) (λ n. (c.args.least ≤ n) × (n ≤ c.args.most) × (c.args.word.now ≡ c.args.key.now ++ decimal n))) (sym c.from_residual.ensures) (λ n l m e. none (decimal n) e)

pub returns : goal.returns
returns c =
    let s = c.args.word.now in
    let k = c.args.key.now in
    let d = c.in_ok-strip_prefix.field-0 in
    let e = strip_prefix_is Decides-eqb s k (Some d) c.in_ok-strip_prefix.ensures.cases in
    some_weaker c.natural_between.result c.natural_between.ensures
    (λ none n l m q. none n l m (append_cancel_left k d.now (decimal n) (sym e ∙ q)))
    (λ n t. (t.0, t.1, e ∙ ap (λ x. k ++ x) t.2))
