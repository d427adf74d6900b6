use Rattle.std.proofs.Common.{◌≡◌, sym, ap, ◌∙◌, subst, true≢false, eq-eqb, eqb-true}
use Rattle.host.specs.Names.{NameForm, packed}
use Rattle.host.proofs.Spelled.{name_form}
use Rattle.host.proofs.names.is_name.Goals as goal

pub returns-in-Some : goal.returns-in-Some
returns-in-Some c =
    let n = c.args.name in
    let same = c.as_slice.ensures.bytes ∙ c.unpack_name.ensures.part in
    let (form, e) = c.in-Some.ensures in
    (λ t. (_, form, sym (eqb-true _ n t) ∙ e), λ q. eq-eqb _ n (e ∙ ap packed same ∙ sym (name_form n q).1))

pub returns-in-None : goal.returns-in-None
returns-in-None c =
    let n = c.args.name in
    let same = c.as_slice.ensures.bytes ∙ c.unpack_name.ensures.part in
    (λ t. absurd (true≢false (sym t)), λ q. absurd (c.in-None.ensures (subst NameForm (sym same) (name_form n q).0)))
