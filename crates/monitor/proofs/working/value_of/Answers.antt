use Rattle.std.proofs.Common.{sym, ap, ◌∙◌}
use Rattle.std.specs.Option.{option_copied}
use Rattle.ftpl.specs.Numbers.{numbered}
use Rattle.monitor.specs.Monitor.{number_of}
use Rattle.monitor.proofs.Filled.{working_none}
use Rattle.monitor.proofs.working.value_of.Goals as goal

pub returns-in-None : goal.returns-in-None
returns-in-None g c =
    let xs = c.args.values.now in
    c.bottom.ensures
    ∙ sym (working_none g.S.Scale.ops xs (number_of c.args.leaf) (ap (numbered xs) (sym c.number_of.ensures) ∙ sym c.numbered.ensures ∙ ap option_copied c.in-None.is))
