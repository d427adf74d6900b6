use Rattle.std.proofs.Common.{◌≡◌, ◌-◌, length, get_or, vec_items, ap, ◌∙◌, arith, unwrap_or}
use Rattle.std.proofs.lemmas.Option.{unwrap_or-slice_get}
use Rattle.whole_book.specs.Lines.{last_from}
use Rattle.whole_book.proofs.Ending.{last_or}
use Rattle.whole_book.proofs.lines.listed_in.Goals as goal

pub returns : goal.returns
returns c =
    let b = c.args.book.now in
    let p : c.len.result ≡ length (vec_items b.properties) = omega (arith, c.len.ensures, b.properties.ok.0) in
    let k : c.len-2.result ≡ length (vec_items b.conditions) = omega (arith, c.len-2.ensures, b.conditions.ok.0) in
    let f : c.len-3.result ≡ length (vec_items b.formulas) = omega (arith, c.len-3.ensures, b.formulas.ok.0) in
    let l : c.unwrap_or.result ≡ last_from 0 (vec_items b.conditions) =
    c.unwrap_or.ensures ∙ ap (λ o. unwrap_or o 0) (c.copied.ensures ∙ c.last.ensures.value) ∙ unwrap_or-slice_get c.deref.result.now _ 0 ∙ ap (λ z. get_or z (length z - 1) 0) c.deref.ensures.value ∙ last_or (vec_items b.conditions) in
    λ i. record { properties = p i; conditions = k i; last = l i; formulas = f i }
