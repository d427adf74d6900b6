-- What a formula says by the numbers of the positions is what it says of the list of them.
use Rattle.std.proofs.Common.{◌≡◌, ℕ, zero, suc, ◌+◌, ◌-◌, ◌≤◌, Bool, true, false, cond, List, [], ◌∷◌, ◌++◌, map, length, get_or, Some, None, Option, sym, refl, ap, ◌∙◌, ap₂, arith}
use Rattle.scale.specs.Laws.{Ops, Laws}
use Rattle.ftpl.specs.Joins.{numbers, from_to, those, all, some}
use Rattle.ftpl.specs.Formulas.{View, leaf_at, leaf_over, trace_over, core_from, after_from, formula_from}
use Rattle.ftpl.specs.declared.formulas.EventList.{EventList}
use Rattle.ftpl.specs.declared.formulas.Leaf.{Leaf}
use Rattle.ftpl.specs.declared.formulas.Leaf.TheVariants.{Always, Eventually, Never}
use Rattle.ftpl.specs.declared.formulas.PerLeaf.{PerLeaf}
use Rattle.ftpl.specs.declared.formulas.Trace.{Trace}
use Rattle.ftpl.specs.declared.formulas.Trace.TheVariants.{At, Both', Either'}
use Rattle.ftpl.specs.declared.formulas.Core.{Core}
use Rattle.ftpl.specs.declared.formulas.Core.TheVariants.{Plain, Before, Until}
use Rattle.ftpl.specs.declared.formulas.Formula.{Formula}
use Rattle.monitor.specs.Segments.{leaf, trace, starts, ends, core, after, meaning}
use Rattle.monitor.specs.Monitor.{begin, run, shown}
use Rattle.monitor.proofs.Whole.{right}

-- the m positions from i on, as a list
abbrev pub segment : {V : Type 0} → (ℕ → View V) → ℕ → ℕ → List (View V)
segment x i zero = []
segment x i (suc m) = x i ∷ segment x (suc i) m

segment_more : {V : Type 0} (x : ℕ → View V) (i d : ℕ) → segment x i d ++ (x (i + d) ∷ []) ≡ segment x i (suc d)
segment_more x i zero = let e : i + 0 ≡ i = omega arith in ap (λ k. x k ∷ []) e
segment_more x i (suc d) =
    let e : i + suc d ≡ suc i + d = omega arith in
    ap (λ k. x i ∷ (segment x (suc i) d ++ (x k ∷ []))) e ∙ ap (λ r. x i ∷ r) (segment_more x (suc i) d)

segment_on : {V : Type 0} (x : ℕ → View V) (i m : ℕ) → segment x (suc i) m ≡ segment (λ k. x (suc k)) i m
segment_on x i zero = refl
segment_on x i (suc m) = ap (λ r. x (suc i) ∷ r) (segment_on x (suc i) m)

-- a list, read by the numbers of its places
pub segment_list : {A V : Type 0} (see : A → View V) (d : A) (xs : List A) → map see xs ≡ segment (λ k. see (get_or xs k d)) 0 (length xs)
segment_list see d [] = refl
segment_list see d (y ∷ xs) = ap (λ r. see y ∷ r) (segment_list see d xs ∙ sym (segment_on (λ k. see (get_or (y ∷ xs) k d)) 0 (length xs)))

-- two lists that go on alike, or both take one more
one_more : {A B V : Type 0} (f : A → V) (g : B → V) (b : Bool) (k : A) (ks : List A) (y : B) (ys : List B) → f k ≡ g y → map f ks ≡ map g ys → map f (cond b (k ∷ ks) ks) ≡ map g (cond b (y ∷ ys) ys)
one_more f g true k ks y ys e r = ap₂ (λ u us. u ∷ us) e r
one_more f g false k ks y ys e r = r

module _ {V : Type 0} (s : Ops V) (x : ℕ → View V) where
  map_over : (f : View V → V) (i m : ℕ) → map (λ k. f (x k)) (numbers i m) ≡ map f (segment x i m)
  map_over f i zero = refl
  map_over f i (suc m) = ap (λ r. f (x i) ∷ r) (map_over f (suc i) m)

  leaf_over_lem : (l : Leaf) (i j : ℕ) → leaf_over s x l i j ≡ leaf s l (segment x i (suc j - i))
  leaf_over_lem (Always a) i j = ap (all s) (map_over (λ y. y.value a) i (suc j - i))
  leaf_over_lem (Eventually a) i j = ap (some s) (map_over (λ y. y.value a) i (suc j - i))
  leaf_over_lem (Never a) i j = ap (all s) (map_over (λ y. s.turn (y.value a)) i (suc j - i))

  trace_over_lem : (l : PerLeaf Leaf) (t : Trace) (i j : ℕ) → trace_over s x l t i j ≡ trace s l t (segment x i (suc j - i))
  trace_over_lem l (At k) i j = leaf_over_lem (leaf_at l k) i j
  trace_over_lem l (Both' q a r b) i j = ap₂ s.both (trace_over_lem l a i j) (trace_over_lem l b i j)
  trace_over_lem l (Either' q a r b) i j = ap₂ s.either (trace_over_lem l a i j) (trace_over_lem l b i j)

  -- the trace over the d positions from i on, right before the event at i + d
  here : (l : PerLeaf Leaf) (t : Trace) (i d : ℕ) → trace_over s x l t i ((i + suc d) - 1) ≡ trace s l t (segment x i (suc d))
  here l t i d =
      let e : suc ((i + suc d) - 1) - i ≡ suc d = omega arith in
      trace_over_lem l t i ((i + suc d) - 1) ∙ ap (λ m. trace s l t (segment x i m)) e

  ends_over : (l : PerLeaf Leaf) (t : Trace) (e : EventList) (i d r : ℕ) → map (λ k. trace_over s x l t i (k - 1)) (those (λ k. (x k).event e) (numbers (i + suc d) r)) ≡ map (trace s l t) (ends e (segment x i (suc d)) (segment x (i + suc d) r))
  ends_over l t e i d zero = refl
  ends_over l t e i d (suc r) =
      let on : suc (i + suc d) ≡ i + suc (suc d) = omega arith in
      let f = λ (k : ℕ). trace_over s x l t i (k - 1) in
      let test = λ (k : ℕ). (x k).event e in
      one_more f (trace s l t) ((x (i + suc d)).event e) (i + suc d) (those test (numbers (suc (i + suc d)) r)) (segment x i (suc d)) (ends e (segment x i (suc d) ++ (x (i + suc d) ∷ [])) (segment x (suc (i + suc d)) r))
      (here l t i d)
      (ap (λ k. map f (those test (numbers k r))) on
      ∙ ends_over l t e i (suc d) r
      ∙ ap₂ (λ (u : List (View V)) (k : ℕ). map (trace s l t) (ends e u (segment x k r))) (sym (segment_more x i (suc d))) (sym on))

  -- from the first position of a core on
  ends_from : (l : PerLeaf Leaf) (t : Trace) (e : EventList) (n i : ℕ) → i ≤ n → map (λ k. trace_over s x l t i (k - 1)) (those (λ k. (x k).event e) (from_to (suc i) n)) ≡ map (trace s l t) (ends e (x i ∷ []) (segment x (suc i) (n - i)))
  ends_from l t e n i h =
      let one : i + 1 ≡ suc i = omega arith in
      let size : suc n - suc i ≡ n - i = omega arith in
      ap₂ (λ (k m : ℕ). map (λ j. trace_over s x l t i (j - 1)) (those (λ j. (x j).event e) (numbers k m))) (sym one) size
      ∙ ends_over l t e i 0 (n - i)
      ∙ ap (λ k. map (trace s l t) (ends e (x i ∷ []) (segment x k (n - i)))) one

  core_over : (l : PerLeaf Leaf) (c : Core) (n i : ℕ) → i ≤ n → core_from s x l c n i ≡ core s l c (segment x i (suc n - i))
  core_over l c n i h = let e : suc n - i ≡ suc (n - i) = omega arith in at c e ∙ ap (λ m. core s l c (segment x i m)) (sym e)
    where
      at : (c : Core) → suc n - i ≡ suc (n - i) → core_from s x l c n i ≡ core s l c (segment x i (suc (n - i)))
      at (Plain t) e = trace_over_lem l t i n ∙ ap (λ m. trace s l t (segment x i m)) e
      at (Before k t) e = ap (all s) (ends_from l t k n i h)
      at (Until t k) e = ap (some s) (ends_from l t k n i h)

  abbrev Agree : ℕ → (ℕ → V) → (List (View V) → V) → Type 0
  Agree n f g = (i : ℕ) → i ≤ n → f i ≡ g (segment x i (suc n - i))

  starts_over : (e : EventList) (n : ℕ) (f : ℕ → V) (g : List (View V) → V) → Agree n f g → (m i : ℕ) → i + m ≡ suc n → map f (those (λ k. (x k).event e) (numbers i m)) ≡ map g (starts e (segment x i m))
  starts_over e n f g h zero i q = refl
  starts_over e n f g h (suc m) i q =
      let size : suc n - i ≡ suc m = omega arith in
      let within : i ≤ n = omega arith in
      let on : suc i + m ≡ suc n = omega arith in
      one_more f g ((x i).event e) i (those (λ k. (x k).event e) (numbers (suc i) m)) (segment x i (suc m)) (starts e (segment x (suc i) m)) (h i within ∙ ap (λ r. g (segment x i r)) size) (starts_over e n f g h m (suc i) on)

  after_over : (o : Option EventList) (n : ℕ) (f : ℕ → V) (g : List (View V) → V) → Agree n f g → Agree n (after_from s x o n f) (after s o g)
  after_over None n f g h i q = h i q
  after_over (Some e) n f g h i q = let on : i + (suc n - i) ≡ suc n = omega arith in ap (all s) (starts_over e n f g h (suc n - i) i on)

  pub formula_over : (f : Formula) (n : ℕ) → Agree n (formula_from s x f n) (meaning s f)
  formula_over f n = after_over f.first n _ _ (after_over f.second n _ _ (after_over f.third n _ _ (core_over f.leaves f.core n)))

module _ {V : Type 0} {s : Ops V} (p : Laws s) (x : ℕ → View V) where
  -- what is shown after the positions 0 to n is what the formula says from 0 to n
  pub right_numbered : (f : Formula) (n : ℕ) → shown s f (run s f (begin s) (segment x 0 (suc n))) ≡ formula_from s x f n 0
  right_numbered f n =
      let size : suc n - 0 ≡ suc n = omega arith in
      right p f (x 0) (segment x 1 n) ∙ sym (formula_over s x f n 0 (omega arith) ∙ ap (λ m. meaning s f (segment x 0 m)) size)
