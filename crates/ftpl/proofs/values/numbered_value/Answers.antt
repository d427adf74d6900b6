use Rattle.std.proofs.Common.{option_map, unwrap_or, sym, ap, ◌∙◌, rules}
use Rattle.std.specs.Option.{option_copied}
use Rattle.ftpl.specs.Properties.{property_value}
use Rattle.ftpl.proofs.Numbered.{numbered_listed}
use Rattle.ftpl.proofs.values.numbered_value.Goals as goal

pub returns-in-Some : goal.returns-in-Some
returns-in-Some g c =
    let s = g.S.Scale.ops in
    let t = g.H.Host.rows c.args.host.now in
    c.property_value.ensures
    ∙ sym (ap (λ r. unwrap_or (option_map (property_value s t) (option_copied r)) s.bottom) c.in-Some.is)
    ∙ numbered_listed s t c.args.properties.now c.min.result c.args.number _ (search rules) c.numbered.ensures

pub returns-in-None : goal.returns-in-None
returns-in-None g c =
    let s = g.S.Scale.ops in
    let t = g.H.Host.rows c.args.host.now in
    c.bottom.ensures
    ∙ sym (ap (λ r. unwrap_or (option_map (property_value s t) (option_copied r)) s.bottom) c.in-None.is)
    ∙ numbered_listed s t c.args.properties.now c.min.result c.args.number _ (search rules) c.numbered.ensures
