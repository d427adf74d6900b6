-- Numbers of places and positions, and values joined over them.
use Rattle.std.specs.Prelude.{ℕ, zero, suc, ◌-◌, Bool, cond, List, [], ◌∷◌}
use Rattle.scale.specs.Laws.{Ops}

-- m numbers, rising from i
abbrev pub numbers : ℕ → ℕ → List ℕ
numbers i zero = []
numbers i (suc m) = i ∷ numbers (suc i) m

-- the numbers from i to j; none where j is below i
abbrev pub from_to : ℕ → ℕ → List ℕ
from_to i j = numbers i (suc j - i)

-- those that a test holds of, in their order
abbrev pub those : (ℕ → Bool) → List ℕ → List ℕ
those test [] = []
those test (k ∷ ks) = cond (test k) (k ∷ those test ks) (those test ks)

module _ {V : Type 0} (s : Ops V) where
  -- both of the values, top if none
  abbrev pub all : List V → V
  all [] = s.top
  all (x ∷ xs) = s.both x (all xs)

  -- either of the values, bottom if none
  abbrev pub some : List V → V
  some [] = s.bottom
  some (x ∷ xs) = s.either x (some xs)
