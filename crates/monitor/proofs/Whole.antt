-- The monitor shows what the formula says.
use Rattle.std.proofs.Common.{◌≡◌, ◌≤◌, Bool, true, false, cond, List, [], ◌∷◌, ◌++◌, map, length, Some, None, Option, sym, refl, ap, ◌∙◌, ap₂, arith}
use mathlib.Core.Path.{fun_ext}
use Rattle.scale.specs.Laws.{Ops, Laws}
use Rattle.ftpl.specs.Joins.{all}
use Rattle.ftpl.specs.Formulas.{View}
use Rattle.monitor.specs.Segments.{starts, core, after, meaning}
use Rattle.monitor.specs.Monitor.{State, held, passed, begin, step, run, readout, shown}
use Rattle.ftpl.specs.declared.formulas.EventList.{EventList}
use Rattle.ftpl.specs.declared.formulas.Formula.{Formula}
use Rattle.monitor.proofs.Lattice.{bottom_either, top_either, either_top, both_top}
use Rattle.monitor.proofs.Linear.{Locked, places, spawned, goes, goes_value}
use Rattle.monitor.proofs.Single.{single_core}

-- the locks behind an `after`
abbrev stage : {V : Type 0} → Ops V → Option EventList → V → List (Locked V) → List (Locked V)
stage s o a [] = []
stage s o a (y ∷ r) = record { lock = passed s o y.at.event a y.lock; at = y.at } ∷ stage s o (held s o a y.lock) r

-- one start, at the first position
abbrev once : {V : Type 0} → Ops V → V → List (View V) → List (Locked V)
once s h [] = []
once s h (x ∷ xs) = record { lock = h; at = x } ∷ once s s.top xs

abbrev staged : {V : Type 0} → Ops V → Formula → State V → List (View V) → List (Locked V)
staged s f b xs = stage s f.third b.three (stage s f.second b.two (stage s f.first b.one (once s b.fresh xs)))

module _ {V : Type 0} {s : Ops V} (p : Laws s) where
  run_cells : (f : Formula) (b : State V) (xs : List (View V)) → (run s f b xs).cells ≡ goes s f.leaves f.core b.cells (staged s f b xs)
  run_cells f b [] = refl
  run_cells f b (x ∷ xs) = run_cells f (step s f x b) xs

  places_stage : (o : Option EventList) (a : V) (r : List (Locked V)) → places (stage s o a r) ≡ places r
  places_stage o a [] = refl
  places_stage o a (y ∷ r) = ap (λ xs. y.at ∷ xs) (places_stage o (held s o a y.lock) r)

  places_once : (h : V) (xs : List (View V)) → places (once s h xs) ≡ xs
  places_once h [] = refl
  places_once h (x ∷ xs) = ap (λ ys. x ∷ ys) (places_once s.top xs)

  pub all_starts : (f : List (View V) → V) (b : Bool) (y : List (View V)) (r : List (List (View V))) → all s (map f (cond b (y ∷ r) r)) ≡ s.both (cond b (f y) s.top) (all s (map f r))
  all_starts f true y r = refl
  all_starts f false y r = sym (p.top_both (all s (map f r)))

  behind_bool : (b : Bool) (a u : V) → s.either (cond b a s.top) u ≡ s.either a (cond b u s.top)
  behind_bool true a u = refl
  behind_bool false a u = top_either p u ∙ sym (either_top p a)

  -- an `after` with its lock at a
  stage_some : (f : List (View V) → V) (e : EventList) (a : V) (r : List (Locked V)) → spawned s f (stage s (Some e) a r) ≡ s.both (s.either a (after s (Some e) f (places r))) (spawned s (after s (Some e) f) r)
  stage_some f e a [] = sym (ap (λ u. s.both u s.top) (either_top p a) ∙ p.top_both s.top)
  stage_some f e a (y ∷ r) =
      let g = after s (Some e) f in
      let xs = places r in
      let h = y.lock in
      let a' = s.both a h in
      let now = cond (y.at.event e) (f (y.at ∷ xs)) s.top in
      let rest = spawned s g r in
      let read : g (y.at ∷ xs) ≡ s.both now (g xs) = all_starts f (y.at.event e) (y.at ∷ xs) (starts e xs) in
      ap₂ s.both (ap (λ ys. s.either (cond (y.at.event e) a' s.top) (f (y.at ∷ ys))) (places_stage (Some e) a' r) ∙ behind_bool (y.at.event e) a' (f (y.at ∷ xs))) (stage_some f e a' r)
      ∙ sym (p.both_assoc (s.either a' now) (s.either a' (g xs)) rest)
      ∙ ap (λ u. s.both u rest) (sym (p.either_dist a' now (g xs)) ∙ ap (s.either a') (sym read) ∙ split a h (g (y.at ∷ xs)))
      ∙ p.both_assoc (s.either a (g (y.at ∷ xs))) (s.either h (g (y.at ∷ xs))) rest
    where
      split : (a h u : V) → s.either (s.both a h) u ≡ s.both (s.either a u) (s.either h u)
      split a h u = cc (p.either_comm (s.both a h) u, p.either_dist u a h, p.either_comm u a, p.either_comm u h)

  stage_none : (f : List (View V) → V) (a : V) (r : List (Locked V)) → spawned s f (stage s None a r) ≡ spawned s f r
  stage_none f a [] = refl
  stage_none f a (y ∷ r) = ap₂ s.both (ap (λ ys. s.either y.lock (f (y.at ∷ ys))) (places_stage None a r)) (stage_none f a r)

  stage_value : (f : List (View V) → V) (o : Option EventList) (r : List (Locked V)) → spawned s f (stage s o s.top r) ≡ spawned s (after s o f) r
  stage_value f None r = stage_none f s.top r
  stage_value f (Some e) r = stage_some f e s.top r ∙ ap (λ u. s.both u (spawned s (after s (Some e) f) r)) (top_either p (after s (Some e) f (places r))) ∙ p.top_both (spawned s (after s (Some e) f) r)

  shut : (f : List (View V) → V) (xs : List (View V)) → spawned s f (once s s.top xs) ≡ s.top
  shut f [] = refl
  shut f (x ∷ xs) = ap₂ s.both (top_either p (f (x ∷ places (once s s.top xs)))) (shut f xs) ∙ p.top_both s.top

  once_value : (f : List (View V) → V) (x : View V) (xs : List (View V)) → spawned s f (once s s.bottom (x ∷ xs)) ≡ f (x ∷ xs)
  once_value f x xs = ap₂ s.both (bottom_either p (f (x ∷ places (once s s.top xs))) ∙ ap (λ ys. f (x ∷ ys)) (places_once s.top xs)) (shut f xs) ∙ both_top p (f (x ∷ xs))

  pub right : (f : Formula) (x : View V) (xs : List (View V)) → shown s f (run s f (begin s) (x ∷ xs)) ≡ meaning s f (x ∷ xs)
  right f x xs =
      let single-is = fun_ext (single_core p f.leaves f.core) in
      let r₀ = once s s.bottom (x ∷ xs) in
      let r₁ = stage s f.first s.top r₀ in
      let r₂ = stage s f.second s.top r₁ in
      let f₃ = core s f.leaves f.core in
      let f₂ = after s f.third f₃ in
      let f₁ = after s f.second f₂ in
      ap (readout s f.core) (run_cells f (begin s) (x ∷ xs))
      ∙ goes_value p f.leaves f.core (staged s f (begin s) (x ∷ xs))
      ∙ ap (λ g. spawned s g (staged s f (begin s) (x ∷ xs))) single-is
      ∙ stage_value f₃ f.third r₂
      ∙ stage_value f₂ f.second r₁
      ∙ stage_value f₁ f.first r₀
      ∙ once_value (after s f.first f₁) x xs

  pub run_more : (f : Formula) (b : State V) (xs : List (View V)) (x : View V) → run s f b (xs ++ (x ∷ [])) ≡ step s f x (run s f b xs)
  run_more f b [] x = refl
  run_more f b (y ∷ xs) x = run_more f (step s f y b) xs x

  pub right_all : (f : Formula) (xs : List (View V)) → 1 ≤ length xs → shown s f (run s f (begin s) xs) ≡ meaning s f xs
  right_all f [] h = absurd (omega arith)
  right_all f (x ∷ xs) h = right f x xs
