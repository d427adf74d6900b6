-- What the laws of a scale give.
use Rattle.std.proofs.Common.{◌≡◌, ◌∙◌}
use Rattle.scale.specs.Laws.{Ops, Laws}

module _ {V : Type 0} {s : Ops V} (p : Laws s) where
  pub either_assoc : (x y z : V) → s.either (s.either x y) z ≡ s.either x (s.either y z)
  either_assoc = p.either_assoc

  pub bottom_either : (x : V) → s.either s.bottom x ≡ x
  bottom_either = p.bottom_either

  pub either_bottom : (x : V) → s.either x s.bottom ≡ x
  either_bottom x = p.either_comm x s.bottom ∙ bottom_either x

  pub top_either : (x : V) → s.either s.top x ≡ s.top
  top_either x = cc (p.both_absorb s.top x, p.top_both (s.either s.top x))

  pub either_top : (x : V) → s.either x s.top ≡ s.top
  either_top x = p.either_comm x s.top ∙ top_either x

  pub both_top : (x : V) → s.both x s.top ≡ x
  both_top x = p.both_comm x s.top ∙ p.top_both x

  pub either_idem : (x : V) → s.either x x ≡ x
  either_idem x = cc (p.either_absorb x s.top, both_top x)

  pub dist_right : (x y z : V) → s.either (s.both x y) z ≡ s.both (s.either x z) (s.either y z)
  dist_right x y z = cc (p.either_comm (s.both x y) z, p.either_dist z x y, p.either_comm z x, p.either_comm z y)

  -- a and b, c and d, taken across
  pub both_cross : (a b c d : V) → s.both (s.both a b) (s.both c d) ≡ s.both (s.both a c) (s.both b d)
  both_cross a b c d = cc (p.both_assoc a b (s.both c d), p.both_assoc b c d, p.both_comm b c, p.both_assoc c b d, p.both_assoc a c (s.both b d))

  pub either_cross : (a b c d : V) → s.either (s.either a b) (s.either c d) ≡ s.either (s.either a c) (s.either b d)
  either_cross a b c d = cc (either_assoc a b (s.either c d), either_assoc b c d, p.either_comm b c, either_assoc c b d, either_assoc a c (s.either b d))

  -- the last two of three, exchanged
  pub either_swap : (a b c : V) → s.either (s.either a b) c ≡ s.either (s.either a c) b
  either_swap a b c = cc (either_assoc a b c, p.either_comm b c, either_assoc a c b)
