use Rattle.std.proofs.Common.{◌≡◌, ◌≤◌, Decides, pos, sym, ap, ◌∙◌, true≢false, arith, rules, w32}
use Rattle.std.proofs.lemmas.Int.{to_z-of_z}
use Rattle.std.specs.Fmt.{signed_decimal}
use Rattle.std.proofs.lemmas.Result.{OkIff-decides, OkIff-at_ok}
use Rattle.numerals.proofs.Spelling.{one_number, small_fits, byte_text, byte_fits, ok_is, none_says, then_says}
use Rattle.numerals.proofs.natural_between.Goals as goal

pub returns-in_err-read_integer : goal.returns-in_err-read_integer
returns-in_err-read_integer c =
    none_says c.from_residual.result _ _ c.from_residual.ensures (λ n low high e. c.in_err-read_integer.ensures (pos n) (small_fits n (omega arith)) e)

pub returns-in_err-n : goal.returns-in_err-n
returns-in_err-n c =
    none_says c.from_residual-in_err-n.result _ _ c.from_residual-in_err-n.ensures (λ n low high e.
    let r = c.in_ok-read_integer.ensures in
    let same = to_z-of_z w32 _ r.0 ∙ one_number c.args.s.now c.in_ok-read_integer.field-0 (pos n) r.0 (small_fits n (omega arith)) r.1 e in
    true≢false (sym ((OkIff-decides c.try_from.result _ _ c.try_from.ensures).1 (byte_fits _ n same (omega arith)).0) ∙ sym c.in_err-n.ensures.variant))

pub returns : goal.returns
returns c =
    let r = c.in_ok-read_integer.ensures in
    let back = to_z-of_z w32 c.in_ok-read_integer.field-0 r.0 in
    let n = c.in_ok-n.n in
    let byte = OkIff-at_ok c.try_from.result _ _ n c.try_from.ensures (ok_is c.try_from.result n c.in_ok-n.ensures.value) in
    let d : Decides c.contains.result ((c.args.least ≤ n) × (n ≤ c.args.most)) = search rules in
    then_says c.contains.result n c.then_some.result _ _ c.then_some.ensures (λ h. let b = d.0 h in (b.0, b.1, r.1 ∙ ap signed_decimal (sym back) ∙ byte_text _ n byte.0 byte.1)) (λ h m low high e.
    let same = back ∙ one_number c.args.s.now c.in_ok-read_integer.field-0 (pos m) r.0 (small_fits m (omega arith)) r.1 e in
    let k : n ≡ m = byte.1 ∙ sym (byte_fits _ m same (omega arith)).1 in
    true≢false (sym (d.1 (omega (arith, k), omega (arith, k))) ∙ h))
