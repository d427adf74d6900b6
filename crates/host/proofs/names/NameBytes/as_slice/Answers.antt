use Rattle.std.proofs.Common.{take, length, sym, ap, ◌∙◌, take_all, arith}
use Rattle.std.specs.Option.{unwrap_or}
use Rattle.host.specs.Names.{up_to_zero}
use Rattle.host.proofs.Spelled.{take_first_zero}
use Rattle.host.proofs.names.NameBytes.as_slice.Goals as goal

pub returns-in-Some-clause-bytes : goal.returns-in-Some-clause-bytes
returns-in-Some-clause-bytes c =
    let bs = c.self.inside.eight in
    ap (λ o. take (unwrap_or o (length bs)) bs) (sym c.in-Some.is ∙ c.first_zero.ensures) ∙ take_first_zero bs ∙ ap up_to_zero c.self.view_is

pub returns-in-None-clause-bytes : goal.returns-in-None-clause-bytes
returns-in-None-clause-bytes c =
    let bs = c.self.inside.eight in
    sym (take_all (length bs) bs (omega arith)) ∙ ap (λ o. take (unwrap_or o (length bs)) bs) (sym c.in-None.is ∙ c.first_zero.ensures) ∙ take_first_zero bs ∙ ap up_to_zero c.self.view_is
