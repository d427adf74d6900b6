use Rattle.std.proofs.Common.{◌≡◌, Ok, sym, subst, rules}
use Rattle.host.specs.Tables.{Writes}
use Rattle.table.specs.Rules.{Lawful}
use Rattle.table.specs.Steps.{target, effect, answer}
use Rattle.table.proofs.Accepting.{stepped_lawful, done}
use Rattle.table.proofs.trying.try_step.Goals as goal

pub returns : goal.returns
returns g c =
    let t = g.H.Host.rows c.args.host.now in
    let u = g.H.Host.rows c.write.new.self in
    let s = c.args.step in
    let e : Ok tt ≡ answer t s = search rules in
    let told : Writes t (target s) c.write.result = search rules in
    let same : u ≡ effect t s = search rules in
    let r = done t u s c.write.result e told same in
    record { answer = r.0; rows = r.1; held = c.write.ensures.held; lawful = λ law. subst Lawful (sym r.1) (stepped_lawful t (g.H.Host.small c.args.host.now) s law) }
