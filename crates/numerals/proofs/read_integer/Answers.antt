use Rattle.std.proofs.Common.{◌≡◌, None, Some, IsUtf8, sym, ap, ◌∙◌, subst, true≢false, arith, rules, w32, SFits}
use Rattle.std.specs.Result.{result_ok}
use Rattle.std.specs.Fmt.{signed_decimal}
use Rattle.std.proofs.lemmas.Fmt.{IsAscii-signed, parse-signed_decimal}
use Rattle.std.proofs.lemmas.Int.{to_z-of_z}
use Rattle.std.proofs.lemmas.Str.{IsUtf8-from_ascii}
use Rattle.numerals.proofs.Spelling.{err_says, ok_says, none_says, then_says}
use Rattle.numerals.proofs.read_integer.Goals as goal

pub returns-in_err-ok : goal.returns-in_err-ok
returns-in_err-ok c =
    none_says c.from_residual.result _ _ c.from_residual.ensures
    (λ z f e. (err_says _ _ c.from_utf8.result c.in_err-ok.ensures.value c.from_utf8.ensures.cases).1.0 (subst IsUtf8 (sym e) (IsUtf8-from_ascii (signed_decimal z) (IsAscii-signed z (omega (arith, f.sfits))))))

pub returns-in_err-z : goal.returns-in_err-z
returns-in_err-z c =
    let t = (ok_says _ _ c.from_utf8.result c.in_ok-ok.field-0 c.in_ok-ok.ensures.value c.from_utf8.ensures.cases).0 in
    none_says c.from_residual-in_err-z.result _ _ c.from_residual-in_err-z.ensures (λ z f e.
    let r = parse-signed_decimal w32 z c.in_ok-ok.field-0.now c.parse.result f (omega (arith, f.sfits)) (t ∙ e) c.parse.ensures.value.0 in
    let q : None ≡ Some z = c.in_err-z.ensures.value ∙ ap result_ok r in
    cc)

pub returns : goal.returns
returns c =
    let t = (ok_says _ _ c.from_utf8.result c.in_ok-ok.field-0 c.in_ok-ok.ensures.value c.from_utf8.ensures.cases).0 in
    then_says c.is_written.result _ c.then_some.result _ _ c.then_some.ensures (λ h. (search rules, c.is_written.ensures.0 h)) (λ h z f e.
    let r = parse-signed_decimal w32 z c.in_ok-ok.field-0.now c.parse.result f (omega (arith, f.sfits)) (t ∙ e) c.parse.ensures.value.0 in
    let q : Some c.in_ok-z.z ≡ Some z = c.in_ok-z.ensures.value ∙ ap result_ok r in
    let same : c.in_ok-z.z ≡ z = cc in
    let back = to_z-of_z w32 c.in_ok-z.z (subst (SFits w32) (sym same) f) ∙ same in
    true≢false (sym (c.is_written.ensures.1 (e ∙ ap signed_decimal (sym back))) ∙ h))
