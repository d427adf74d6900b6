use Rattle.std.proofs.Common.{refl, rules}
use Rattle.table.proofs.Finding.{any_decides}
use Rattle.table.proofs.places.owns_another.Goals as goal

pub returns : goal.returns
returns g c = any_decides _ _ _ _ _ _ c.any.ensures.ran refl c.capacity.ensures (λ q b f k. search rules)
