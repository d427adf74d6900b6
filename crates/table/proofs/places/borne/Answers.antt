use Rattle.std.proofs.Common.{refl, rules}
use Rattle.table.proofs.Finding.{any_decides}
use Rattle.table.proofs.places.borne.Goals as goal

pub returns : goal.returns
returns g c = any_decides _ _ _ _ _ _ c.any.ensures.ran refl refl (λ q b f k. search rules)
