use Rattle.std.proofs.Common.{refl}
use Rattle.monitor.proofs.Made.{begin_made}
use Rattle.monitor.proofs.steps.Held.begin.Goals as goal

pub returns : goal.returns
returns g c = begin_made g.S.Scale.ops _ c.top.result refl c.top.ensures c.top-2.ensures c.bottom.ensures c.top-3.ensures c.top-4.ensures c.top-5.ensures
