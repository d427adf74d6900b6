-- What a scale is: a bounded distributive lattice with an involution, and a grade of whole numbers.
use Rattle.std.specs.Prelude.{◌≡◌, ℤ}

-- the six operations of a scale
pub record Ops (V : Type 0) : Type 0 where
  pub top : V
  pub bottom : V
  pub both : V → V → V
  pub either : V → V → V
  pub turn : V → V
  pub grade : ℤ → V

pub record Laws {V : Type 0} (s : Ops V) : Type 0 where
  pub both_comm : (x y : V) → s.both x y ≡ s.both y x
  pub either_comm : (x y : V) → s.either x y ≡ s.either y x
  pub both_assoc : (x y z : V) → s.both (s.both x y) z ≡ s.both x (s.both y z)
  pub either_assoc : (x y z : V) → s.either (s.either x y) z ≡ s.either x (s.either y z)
  pub both_absorb : (x y : V) → s.both x (s.either x y) ≡ x
  pub either_absorb : (x y : V) → s.either x (s.both x y) ≡ x
  pub both_dist : (x y z : V) → s.both x (s.either y z) ≡ s.either (s.both x y) (s.both x z)
  pub either_dist : (x y z : V) → s.either x (s.both y z) ≡ s.both (s.either x y) (s.either x z)
  pub top_both : (x : V) → s.both s.top x ≡ x
  pub bottom_either : (x : V) → s.either s.bottom x ≡ x
  pub turn_turn : (x : V) → s.turn (s.turn x) ≡ x
  pub turn_both : (x y : V) → s.turn (s.both x y) ≡ s.either (s.turn x) (s.turn y)
  pub turn_either : (x y : V) → s.turn (s.either x y) ≡ s.both (s.turn x) (s.turn y)
  pub turn_top : s.turn s.top ≡ s.bottom
  pub turn_bottom : s.turn s.bottom ≡ s.top
