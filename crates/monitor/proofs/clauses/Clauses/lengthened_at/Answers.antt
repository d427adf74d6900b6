use Rattle.std.proofs.Common.{ap, sym, ◌∙◌}
use Rattle.monitor.specs.Layout.{clauses, set_of}
use Rattle.monitor.proofs.Made.{lengthened_here}
use Rattle.monitor.proofs.clauses.Clauses.lengthened_at.Goals as goal

pub returns-then-has : goal.returns-then-has
returns-then-has g c =
    let s = g.S.Scale.ops in
    let w = clauses s c.args.self.now.0 in
    lengthened_here s c.args.j c.args.l c.args.value w (set_of c.args.c.number) c.grow.ensures c.at.ensures (c.at-then-has.ensures ∙ ap w c.without.ensures) (sym c.has.ensures ∙ c.if-has.true)
