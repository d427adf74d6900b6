use Rattle.std.proofs.Common.{◌≤ℤ◌, negsuc, pos, sym, ap, ◌∙◌, subst, true≢false, w32}
use Rattle.std.specs.Fmt.{signed_decimal}
use Rattle.std.proofs.lemmas.Int.{to_z-of_z}
use Rattle.numerals.proofs.Spelling.{one_number, million_fits, then_says}
use Rattle.numerals.proofs.value_within.Goals as goal

pub returns : goal.returns
returns c =
    let r = c.in_ok-z.ensures in
    let i = c.is_within_a_million.ensures in
    let back = to_z-of_z w32 c.in_ok-z.z r.0 in
    then_says c.is_within_a_million.result _ c.then_some.result _ _ c.then_some.ensures (λ h. let b = i.0 h in (b.0, b.1, r.1 ∙ ap signed_decimal (sym back))) (λ h y low high e.
    let same = back ∙ one_number c.args.s.now c.in_ok-z.z y r.0 (million_fits y low high) r.1 e in
    true≢false (sym (i.1 (subst (λ x. (negsuc 999999 ≤ℤ x) × (x ≤ℤ pos 1000000)) (sym same) (low, high))) ∙ h))
