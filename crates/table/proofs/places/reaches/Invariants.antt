use Rattle.std.proofs.Common.{◌≡◌, ℕ, ◌<◌}
use Rattle.table.specs.Places.{climb}
use Rattle.table.proofs.places.reaches.Given as goal

-- where the climb stands, and that it has not come to the goal before
abbrev pub invariant-loop-climbs : goal.invariant-loop-climbs
invariant-loop-climbs g l = (l.here ≡ climb (g.H.Host.rows l.host) l._climbs l.place) × ((k : ℕ) → k < l._climbs → climb (g.H.Host.rows l.host) k l.place ≡ l.goal → ⊥)
