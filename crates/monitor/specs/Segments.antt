-- What a formula says of a list of positions, as the monitor's proof goes over them; proved equal to the meaning by numbers.
use Rattle.std.specs.Prelude.{cond, List, [], ◌∷◌, ◌++◌, map, Some, None, Option}
use Rattle.scale.specs.Laws.{Ops}
use Rattle.ftpl.specs.Joins.{all, some}
use Rattle.ftpl.specs.Formulas.{View, leaf_at}
use Rattle.ftpl.specs.declared.formulas.EventList.{EventList}
use Rattle.ftpl.specs.declared.formulas.Leaf.{Leaf}
use Rattle.ftpl.specs.declared.formulas.Leaf.TheVariants.{Always, Eventually, Never}
use Rattle.ftpl.specs.declared.formulas.PerLeaf.{PerLeaf}
use Rattle.ftpl.specs.declared.formulas.Trace.{Trace}
use Rattle.ftpl.specs.declared.formulas.Trace.TheVariants.{At, Both', Either'}
use Rattle.ftpl.specs.declared.formulas.Core.{Core}
use Rattle.ftpl.specs.declared.formulas.Core.TheVariants.{Plain, Before, Until}
use Rattle.ftpl.specs.declared.formulas.Formula.{Formula}

-- the parts of a list that begin where the event list holds and go to its end
abbrev pub starts : {V : Type 0} → EventList → List (View V) → List (List (View V))
starts e [] = []
starts e (x ∷ xs) = cond (x.event e) ((x ∷ xs) ∷ starts e xs) (starts e xs)

-- `before` and what follows it, up to right before a position where the event list holds
abbrev pub ends : {V : Type 0} → EventList → List (View V) → List (View V) → List (List (View V))
ends e before [] = []
ends e before (x ∷ xs) = cond (x.event e) (before ∷ ends e (before ++ (x ∷ [])) xs) (ends e (before ++ (x ∷ [])) xs)

module _ {V : Type 0} (s : Ops V) where
  abbrev pub leaf : Leaf → List (View V) → V
  leaf (Always a) xs = all s (map (λ x. x.value a) xs)
  leaf (Eventually a) xs = some s (map (λ x. x.value a) xs)
  leaf (Never a) xs = all s (map (λ x. s.turn (x.value a)) xs)

  abbrev pub trace : PerLeaf Leaf → Trace → List (View V) → V
  trace l (At j) xs = leaf (leaf_at l j) xs
  trace l (Both' p a q b) xs = s.both (trace l a xs) (trace l b xs)
  trace l (Either' p a q b) xs = s.either (trace l a xs) (trace l b xs)

  -- a core, read from the first position of x ∷ xs to its last
  abbrev pub core : PerLeaf Leaf → Core → List (View V) → V
  core l c [] = s.top
  core l (Plain t) (x ∷ xs) = trace l t (x ∷ xs)
  core l (Before e t) (x ∷ xs) = all s (map (trace l t) (ends e (x ∷ []) xs))
  core l (Until t e) (x ∷ xs) = some s (map (trace l t) (ends e (x ∷ []) xs))

  abbrev pub after : Option EventList → (List (View V) → V) → List (View V) → V
  after None f xs = f xs
  after (Some e) f xs = all s (map f (starts e xs))

  abbrev pub meaning : Formula → List (View V) → V
  meaning f = after f.first (after f.second (after f.third (core f.leaves f.core)))
