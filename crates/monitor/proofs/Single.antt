-- One start: what it holds is what the leaves say of the positions seen.
use Rattle.std.proofs.Common.{◌≡◌, Bool, true, false, cond, List, [], ◌∷◌, ◌++◌, map, sym, refl, ap, ◌∙◌, ap₂, append_assoc, append-nil}
use mathlib.Core.Path.{fun_ext}
use Rattle.scale.specs.Laws.{Ops, Laws}
use Rattle.ftpl.specs.Joins.{all, some}
use Rattle.ftpl.specs.Formulas.{View, leaf_at}
use Rattle.monitor.specs.Segments.{leaf, trace, ends, core}
use Rattle.monitor.specs.Monitor.{Set, Cell, clause, kept, none, same, with, without, joined, absorb, grown, extend, extend_all, happen, blank, readout, number_of, told_by}
use Rattle.ftpl.specs.declared.formulas.Slot.{Slot}
use Rattle.ftpl.specs.declared.formulas.Slot.TheVariants.{First, Second, Third, Fourth}
use Rattle.ftpl.specs.declared.formulas.Leaf.{Leaf}
use Rattle.ftpl.specs.declared.formulas.Leaf.TheVariants.{Always, Eventually, Never}
use Rattle.ftpl.specs.declared.formulas.PerLeaf.{PerLeaf}
use Rattle.ftpl.specs.declared.formulas.Trace.{Trace}
use Rattle.ftpl.specs.declared.formulas.Trace.TheVariants.{At, Both', Either'}
use Rattle.ftpl.specs.declared.formulas.Core.{Core}
use Rattle.ftpl.specs.declared.formulas.Core.TheVariants.{Plain, Before, Until}
use Rattle.ftpl.specs.declared.formulas.EventList.{EventList}
use Rattle.monitor.proofs.Lattice.{either_assoc, bottom_either, either_bottom, both_top, either_idem, dist_right, either_swap}
use Rattle.monitor.proofs.Linear.{advances, single}

abbrev put : {V : Type 0} → Slot → V → (Slot → V) → Slot → V
put j u v i = cond (same j i) u (v i)

abbrev joins : {V : Type 0} → Ops V → Leaf → View V → V → V
joins s (Always a) x u = s.both u (x.value a)
joins s (Eventually a) x u = s.either u (x.value a)
joins s (Never a) x u = s.both u (s.turn (x.value a))

-- what the leaves say of the positions seen
abbrev says : {V : Type 0} → Ops V → PerLeaf Leaf → List (View V) → Slot → V
says s l seen j = leaf s (leaf_at l j) seen

abbrev holds : {V : Type 0} → Ops V → V → V → (Slot → V) → Cell → V
holds s q z v (clause c) = s.either z (joined s c v)
holds s q z v kept = q

module _ {V : Type 0} {s : Ops V} (p : Laws s) where
  -- a leaf of a set, apart from the others
  apart : (j : Slot) (c : Set) (v : Slot → V) → joined s c v ≡ s.either (joined s (without j c) v) (cond (c j) (v j) s.bottom)
  apart First c v =
      let a = cond (c First) (v First) s.bottom in
      let b = cond (c Second) (v Second) s.bottom in
      let r = s.either (cond (c Third) (v Third) s.bottom) (cond (c Fourth) (v Fourth) s.bottom) in
      cc (bottom_either p b, p.either_comm a b, either_swap p b a r)
  apart Second c v =
      let a = cond (c First) (v First) s.bottom in
      let b = cond (c Second) (v Second) s.bottom in
      let r = s.either (cond (c Third) (v Third) s.bottom) (cond (c Fourth) (v Fourth) s.bottom) in
      cc (either_bottom p a, either_swap p a b r)
  apart Third c v =
      let r = s.either (cond (c First) (v First) s.bottom) (cond (c Second) (v Second) s.bottom) in
      let d = cond (c Third) (v Third) s.bottom in
      let e = cond (c Fourth) (v Fourth) s.bottom in
      cc (bottom_either p e, p.either_comm d e, either_assoc p r e d)
  apart Fourth c v =
      let r = s.either (cond (c First) (v First) s.bottom) (cond (c Second) (v Second) s.bottom) in
      let d = cond (c Third) (v Third) s.bottom in
      let e = cond (c Fourth) (v Fourth) s.bottom in
      cc (either_bottom p d, either_assoc p r d e)

  -- the others do not depend on it
  aside : (j : Slot) (c : Set) (u : V) (v : Slot → V) → joined s (without j c) (put j u v) ≡ joined s (without j c) v
  aside First c u v = refl
  aside Second c u v = refl
  aside Third c u v = refl
  aside Fourth c u v = refl

  put_self : (j : Slot) (u : V) (v : Slot → V) → put j u v j ≡ u
  put_self First u v = refl
  put_self Second u v = refl
  put_self Third u v = refl
  put_self Fourth u v = refl

  apart_with : (j : Slot) (c : Set) (v : Slot → V) → joined s (with j c) v ≡ s.either (joined s (without j c) v) (v j)
  apart_with First c v = apart First (with First c) v
  apart_with Second c v = apart Second (with Second c) v
  apart_with Third c v = apart Third (with Third c) v
  apart_with Fourth c v = apart Fourth (with Fourth c) v

  twice : (b : Bool) (r u : V) → s.either r u ≡ s.either (s.either r (cond b u s.bottom)) u
  twice true r u = cc (either_assoc p r u u, either_idem p u)
  twice false r u = cc (either_bottom p r)

  joined_with : (j : Slot) (c : Set) (v : Slot → V) → joined s (with j c) v ≡ s.either (joined s c v) (v j)
  joined_with j c v = cc (apart_with j c v, twice (c j) (joined s (without j c) v) (v j), apart j c v)

  absorb_holds : (l : PerLeaf Leaf) (seen : List (View V)) (t : Trace) (z : V) (c : Set) → absorb s t (λ d. s.either z (joined s d (says s l seen))) c ≡ s.either (s.either z (trace s l t seen)) (joined s c (says s l seen))
  absorb_holds l seen (At j) z c =
      let u = leaf s (leaf_at l j) seen in
      let r = joined s c (says s l seen) in
      ap (s.either z) (joined_with j c (says s l seen) ∙ p.either_comm r u) ∙ sym (either_assoc p z u r)
  absorb_holds l seen (Both' q a m b) z c =
      let u = trace s l a seen in
      let w = trace s l b seen in
      let r = joined s c (says s l seen) in
      ap₂ s.both (absorb_holds l seen a z c) (absorb_holds l seen b z c)
      ∙ sym (dist_right p (s.either z u) (s.either z w) r)
      ∙ ap (λ y. s.either y r) (sym (p.either_dist z u w))
  absorb_holds l seen (Either' q a m b) z c =
      let u = trace s l a seen in
      let w = trace s l b seen in
      let r = joined s c (says s l seen) in
      ap (λ y. absorb s a y c) (fun_ext (λ d. absorb_holds l seen b z d))
      ∙ absorb_holds l seen a (s.either z w) c
      ∙ ap (λ y. s.either y r) (either_assoc p z w u ∙ ap (s.either z) (p.either_comm w u))

  grows : (b : Bool) (l : Leaf) (x : View V) (z r u j k : V) → j ≡ s.either r (cond b u s.bottom) → k ≡ s.either r (cond b (joins s l x u) s.bottom) → cond b (grown s l (x.value (number_of l)) (s.either z j) (s.either z r)) (s.either z j) ≡ s.either z k
  grows false l x z r u j k e f = ap (s.either z) (e ∙ sym f)
  grows true (Always a) x z r u j k e f = let v = x.value a in cc (e, f, either_assoc p z r u, either_assoc p z r (s.both u v), p.either_dist (s.either z r) u v)
  grows true (Eventually a) x z r u j k e f = let v = x.value a in cc (e, f, either_assoc p z j v, either_assoc p r u v)
  grows true (Never a) x z r u j k e f = let v = s.turn (x.value a) in cc (e, f, either_assoc p z r u, either_assoc p z r (s.both u v), p.either_dist (s.either z r) u v)

  extend_cell : (j : Slot) (l : Leaf) (x : View V) (q z : V) (v : Slot → V) (k : Cell) → extend s j l (x.value (number_of l)) (holds s q z v) k ≡ holds s q z (put j (joins s l x (v j)) v) k
  extend_cell j l x q z v (clause c) =
      let g = joins s l x (v j) in
      grows (c j) l x z (joined s (without j c) v) (v j) (joined s c v) (joined s c (put j g v)) (apart j c v)
      (apart j c (put j g v) ∙ ap₂ s.either (aside j c g v) (ap (λ u. cond (c j) u s.bottom) (put_self j g v)))
  extend_cell j l x q z v kept = refl

  all_more : (f : View V → V) (xs : List (View V)) (x : View V) → all s (map f (xs ++ (x ∷ []))) ≡ s.both (all s (map f xs)) (f x)
  all_more f [] x = p.both_comm (f x) s.top
  all_more f (y ∷ xs) x = ap (s.both (f y)) (all_more f xs x) ∙ sym (p.both_assoc (f y) (all s (map f xs)) (f x))

  some_more : (f : View V → V) (xs : List (View V)) (x : View V) → some s (map f (xs ++ (x ∷ []))) ≡ s.either (some s (map f xs)) (f x)
  some_more f [] x = p.either_comm (f x) s.bottom
  some_more f (y ∷ xs) x = ap (s.either (f y)) (some_more f xs x) ∙ sym (either_assoc p (f y) (some s (map f xs)) (f x))

  leaf_more : (l : Leaf) (xs : List (View V)) (x : View V) → joins s l x (leaf s l xs) ≡ leaf s l (xs ++ (x ∷ []))
  leaf_more (Always a) xs x = sym (all_more (λ y. y.value a) xs x)
  leaf_more (Eventually a) xs x = sym (some_more (λ y. y.value a) xs x)
  leaf_more (Never a) xs x = sym (all_more (λ y. s.turn (y.value a)) xs x)

  more : (l : PerLeaf Leaf) (x : View V) (seen : List (View V)) (i : Slot) →
      put Fourth (joins s l.fourth x (says s l seen Fourth)) (put Third (joins s l.third x (says s l seen Third)) (put Second (joins s l.second x (says s l seen Second)) (put First (joins s l.first x (says s l seen First)) (says s l seen)))) i
      ≡ says s l (seen ++ (x ∷ [])) i
  more l x seen First = leaf_more l.first seen x
  more l x seen Second = leaf_more l.second seen x
  more l x seen Third = leaf_more l.third seen x
  more l x seen Fourth = leaf_more l.fourth seen x

  pub extend_holds : (l : PerLeaf Leaf) (x : View V) (q z : V) (seen : List (View V)) → extend_all s l (told_by x l) (holds s q z (says s l seen)) ≡ holds s q z (says s l (seen ++ (x ∷ [])))
  extend_holds l x q z seen =
      let v₀ = says s l seen in
      let v₁ = put First (joins s l.first x (v₀ First)) v₀ in
      let v₂ = put Second (joins s l.second x (v₀ Second)) v₁ in
      let v₃ = put Third (joins s l.third x (v₀ Third)) v₂ in
      ap (λ b. extend s Fourth l.fourth (x.value (number_of l.fourth)) (extend s Third l.third (x.value (number_of l.third)) (extend s Second l.second (x.value (number_of l.second)) b))) (fun_ext (extend_cell First l.first x q z v₀))
      ∙ ap (λ b. extend s Fourth l.fourth (x.value (number_of l.fourth)) (extend s Third l.third (x.value (number_of l.third)) b)) (fun_ext (extend_cell Second l.second x q z v₁))
      ∙ ap (λ b. extend s Fourth l.fourth (x.value (number_of l.fourth)) b) (fun_ext (extend_cell Third l.third x q z v₂))
      ∙ fun_ext (extend_cell Fourth l.fourth x q z v₃)
      ∙ ap (holds s q z) (fun_ext (more l x seen))

  blank_cell : (l : PerLeaf Leaf) (k : Cell) → blank s l k ≡ holds s s.top s.bottom (says s l []) k
  blank_cell l (clause c) = sym (bottom_either p (joined s c (says s l [])))
  blank_cell l kept = refl

  joined_none : (v : Slot → V) → joined s none v ≡ s.bottom
  joined_none v = cc (bottom_either p s.bottom)

  -- the trace over what was seen, joined to z
  absorbed : (l : PerLeaf Leaf) (t : Trace) (seen : List (View V)) (z : V) → absorb s t (λ d. s.either z (joined s d (says s l seen))) none ≡ s.either z (trace s l t seen)
  absorbed l t seen z = absorb_holds l seen t z none ∙ ap (s.either (s.either z (trace s l t seen))) (joined_none (says s l seen)) ∙ either_bottom p (s.either z (trace s l t seen))

  plain_cell : (l : PerLeaf Leaf) (t : Trace) (x : View V) (seen : List (View V)) (k : Cell) → happen s (Plain t) x.event (holds s s.top s.bottom (says s l seen)) k ≡ holds s s.top s.bottom (says s l seen) k
  plain_cell l t x seen (clause c) = refl
  plain_cell l t x seen kept = refl

  plain : (l : PerLeaf Leaf) (t : Trace) (seen xs : List (View V)) → readout s (Plain t) (advances s l (Plain t) (holds s s.top s.bottom (says s l seen)) xs) ≡ trace s l t (seen ++ xs)
  plain l t seen [] = absorbed l t seen s.bottom ∙ bottom_either p (trace s l t seen) ∙ ap (trace s l t) (sym (append-nil seen))
  plain l t seen (x ∷ xs) =
      ap (λ b. readout s (Plain t) (advances s l (Plain t) (extend_all s l (told_by x l) b) xs)) (fun_ext (plain_cell l t x seen))
      ∙ ap (λ b. readout s (Plain t) (advances s l (Plain t) b xs)) (extend_holds l x s.top s.bottom seen)
      ∙ plain l t (seen ++ (x ∷ [])) xs
      ∙ ap (trace s l t) (append_assoc seen (x ∷ []) xs)

  kept_more : (f : List (View V) → V) (b : Bool) (q : V) (y : List (View V)) (r : List (List (View V))) → s.both (cond b (s.both q (f y)) q) (all s (map f r)) ≡ s.both q (all s (map f (cond b (y ∷ r) r)))
  kept_more f true q y r = p.both_assoc q (f y) (all s (map f r))
  kept_more f false q y r = refl

  joined_more : (f : List (View V) → V) (b : Bool) (z : V) (y : List (View V)) (r : List (List (View V))) → s.either (cond b (s.either z (f y)) z) (some s (map f r)) ≡ s.either z (some s (map f (cond b (y ∷ r) r)))
  joined_more f true z y r = either_assoc p z (f y) (some s (map f r))
  joined_more f false z y r = refl

  at_bool : (b : Bool) (a a' z z' r : V) → a ≡ s.either a' r → z ≡ s.either z' r → cond b a z ≡ s.either (cond b a' z') r
  at_bool true a a' z z' r e f = e
  at_bool false a a' z z' r e f = f

  before_cell : (l : PerLeaf Leaf) (e : EventList) (t : Trace) (x : View V) (q : V) (seen : List (View V)) (k : Cell) → happen s (Before e t) x.event (holds s q s.bottom (says s l seen)) k ≡ holds s (cond (x.event e) (s.both q (trace s l t seen)) q) s.bottom (says s l seen) k
  before_cell l e t x q seen (clause c) = refl
  before_cell l e t x q seen kept = ap (λ u. cond (x.event e) (s.both q u) q) (absorbed l t seen s.bottom ∙ bottom_either p (trace s l t seen))

  before : (l : PerLeaf Leaf) (e : EventList) (t : Trace) (q : V) (seen xs : List (View V)) → readout s (Before e t) (advances s l (Before e t) (holds s q s.bottom (says s l seen)) xs) ≡ s.both q (all s (map (trace s l t) (ends e seen xs)))
  before l e t q seen [] = sym (both_top p q)
  before l e t q seen (x ∷ xs) =
      let q' = cond (x.event e) (s.both q (trace s l t seen)) q in
      ap (λ b. advances s l (Before e t) (extend_all s l (told_by x l) b) xs kept) (fun_ext (before_cell l e t x q seen))
      ∙ ap (λ b. advances s l (Before e t) b xs kept) (extend_holds l x q' s.bottom seen)
      ∙ before l e t q' (seen ++ (x ∷ [])) xs
      ∙ kept_more (trace s l t) (x.event e) q seen (ends e (seen ++ (x ∷ [])) xs)

  until_cell : (l : PerLeaf Leaf) (e : EventList) (t : Trace) (x : View V) (z : V) (seen : List (View V)) (k : Cell) → happen s (Until t e) x.event (holds s s.top z (says s l seen)) k ≡ holds s s.top (cond (x.event e) (s.either z (trace s l t seen)) z) (says s l seen) k
  until_cell l e t x z seen (clause c) = at_bool (x.event e) _ _ _ _ _ (absorb_holds l seen t z c) refl
  until_cell l e t x z seen kept = refl

  until : (l : PerLeaf Leaf) (e : EventList) (t : Trace) (z : V) (seen xs : List (View V)) → readout s (Until t e) (advances s l (Until t e) (holds s s.top z (says s l seen)) xs) ≡ s.either z (some s (map (trace s l t) (ends e seen xs)))
  until l e t z seen [] = ap (s.either z) (joined_none (says s l seen))
  until l e t z seen (x ∷ xs) =
      let z' = cond (x.event e) (s.either z (trace s l t seen)) z in
      ap (λ b. advances s l (Until t e) (extend_all s l (told_by x l) b) xs (clause none)) (fun_ext (until_cell l e t x z seen))
      ∙ ap (λ b. advances s l (Until t e) b xs (clause none)) (extend_holds l x s.top z' seen)
      ∙ until l e t z' (seen ++ (x ∷ [])) xs
      ∙ joined_more (trace s l t) (x.event e) z seen (ends e (seen ++ (x ∷ [])) xs)

  first : (l : PerLeaf Leaf) (x : View V) → extend_all s l (told_by x l) (blank s l) ≡ holds s s.top s.bottom (says s l (x ∷ []))
  first l x = ap (extend_all s l (told_by x l)) (fun_ext (blank_cell l)) ∙ extend_holds l x s.top s.bottom []

  from_first : (l : PerLeaf Leaf) (c : Core) (x : View V) (xs : List (View V)) → readout s c (advances s l c (holds s s.top s.bottom (says s l (x ∷ []))) xs) ≡ core s l c (x ∷ xs)
  from_first l (Plain t) x xs = plain l t (x ∷ []) xs
  from_first l (Before e t) x xs = before l e t s.top (x ∷ []) xs ∙ p.top_both (core s l (Before e t) (x ∷ xs))
  from_first l (Until t e) x xs = until l e t s.bottom (x ∷ []) xs ∙ bottom_either p (core s l (Until t e) (x ∷ xs))

  -- one start comes to what the core says from there
  pub single_core : (l : PerLeaf Leaf) (c : Core) (xs : List (View V)) → single s l c xs ≡ core s l c xs
  single_core l c [] = refl
  single_core l c (x ∷ xs) = ap (λ b. readout s c (advances s l c b xs)) (first l x) ∙ from_first l c x xs
