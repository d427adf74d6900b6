-- Each part of the monitor's step keeps `both`, cell by cell, and a lock in front.
use Rattle.std.proofs.Common.{◌≡◌, Bool, true, false, cond, List, [], ◌∷◌, sym, refl, ap, ◌∙◌, ap₂}
use mathlib.Core.Path.{fun_ext}
use Rattle.scale.specs.Laws.{Ops, Laws}
use Rattle.ftpl.specs.Formulas.{View}
use Rattle.monitor.specs.Monitor.{Set, Cell, clause, kept, none, without, absorb, grown, extend, extend_all, happen, blank, launch, go, readout, told_by}
use Rattle.ftpl.specs.declared.formulas.Slot.{Slot}
use Rattle.ftpl.specs.declared.formulas.Slot.TheVariants.{First, Second, Third, Fourth}
use Rattle.ftpl.specs.declared.formulas.Leaf.{Leaf}
use Rattle.ftpl.specs.declared.formulas.Leaf.TheVariants.{Always, Eventually, Never}
use Rattle.ftpl.specs.declared.formulas.PerLeaf.{PerLeaf}
use Rattle.ftpl.specs.declared.formulas.Trace.{Trace}
use Rattle.ftpl.specs.declared.formulas.Trace.TheVariants.{At, Both', Either'}
use Rattle.ftpl.specs.declared.formulas.Core.{Core}
use Rattle.ftpl.specs.declared.formulas.Core.TheVariants.{Plain, Before, Until}
use Rattle.ftpl.specs.declared.formulas.EventList.{EventList}
use Rattle.monitor.proofs.Lattice.{either_assoc, top_either, either_top, both_top, dist_right, both_cross}

abbrev pub meet : {V K : Type 0} → Ops V → (K → V) → (K → V) → K → V
meet s a b k = s.both (a k) (b k)

abbrev pub behind : {V K : Type 0} → Ops V → V → (K → V) → K → V
behind s h a k = s.either h (a k)

pub record Linear {V K : Type 0} (s : Ops V) (f : (K → V) → V) : Type 0 where
  pub meets : (a b : K → V) → f (meet s a b) ≡ s.both (f a) (f b)
  pub waits : (h : V) (a : K → V) → f (behind s h a) ≡ s.either h (f a)

-- a position, and the lock before a start there
pub record Locked (V : Type 0) : Type 0 where
  pub lock : V
  pub at : View V

abbrev pub places : {V : Type 0} → List (Locked V) → List (View V)
places [] = []
places (y ∷ r) = y.at ∷ places r

-- the value of F from each start
abbrev pub spawned : {V : Type 0} → Ops V → (List (View V) → V) → List (Locked V) → V
spawned s f [] = s.top
spawned s f (y ∷ r) = s.both (s.either y.lock (f (y.at ∷ places r))) (spawned s f r)

abbrev pub goes : {V : Type 0} → Ops V → PerLeaf Leaf → Core → (Cell → V) → List (Locked V) → Cell → V
goes s l c b [] = b
goes s l c b (y ∷ r) = goes s l c (go s l c y.lock y.at b) r

abbrev pub advance : {V : Type 0} → Ops V → PerLeaf Leaf → Core → View V → (Cell → V) → Cell → V
advance s l c x b = extend_all s l (told_by x l) (happen s c x.event b)

abbrev pub advances : {V : Type 0} → Ops V → PerLeaf Leaf → Core → (Cell → V) → List (View V) → Cell → V
advances s l c b [] = b
advances s l c b (x ∷ xs) = advances s l c (advance s l c x b) xs

-- the value of the one start at the first position
abbrev pub single : {V : Type 0} → Ops V → PerLeaf Leaf → Core → List (View V) → V
single s l c [] = s.top
single s l c (x ∷ xs) = readout s c (advances s l c (extend_all s l (told_by x l) (blank s l)) xs)

module _ {V : Type 0} {s : Ops V} (p : Laws s) where
  pub cell_linear : {K : Type 0} (k : K) → Linear s (λ (a : K → V). a k)
  cell_linear k = record { meets = λ a b. refl; waits = λ h a. refl }

  pub both_linear : {K : Type 0} {f g : (K → V) → V} → Linear s f → Linear s g → Linear s (λ a. s.both (f a) (g a))
  both_linear {K} {f} {g} m n = record {
    meets = λ a b. ap₂ s.both (m.meets a b) (n.meets a b) ∙ both_cross p (f a) (f b) (g a) (g b);
    waits = λ h a. ap₂ s.both (m.waits h a) (n.waits h a) ∙ sym (p.either_dist h (f a) (g a));
  }

  pub either_linear : {K : Type 0} {f : (K → V) → V} (v : V) → Linear s f → Linear s (λ a. s.either (f a) v)
  either_linear {K} {f} v m = record {
    meets = λ a b. ap (λ u. s.either u v) (m.meets a b) ∙ dist_right p (f a) (f b) v;
    waits = λ h a. ap (λ u. s.either u v) (m.waits h a) ∙ either_assoc p h (f a) v;
  }

  pub cond_linear : {K : Type 0} {f g : (K → V) → V} (q : Bool) → Linear s f → Linear s g → Linear s (λ a. cond q (f a) (g a))
  cond_linear true m n = m
  cond_linear false m n = n

  pub through : {K M : Type 0} {f : (M → V) → V} {g : (K → V) → M → V} → Linear s f → ((i : M) → Linear s (λ a. g a i)) → Linear s (λ a. f (g a))
  through {K} {M} {f} {g} m n = record {
    meets = λ a b. ap f (fun_ext (λ i. (n i).meets a b)) ∙ m.meets (g a) (g b);
    waits = λ h a. ap f (fun_ext (λ i. (n i).waits h a)) ∙ m.waits h (g a);
  }

  pub linear_top : {K : Type 0} {f : (K → V) → V} → Linear s f → f (λ k. s.top) ≡ s.top
  linear_top {K} {f} m = ap f (fun_ext (λ k. sym (top_either p s.top))) ∙ m.waits s.top (λ k. s.top) ∙ top_either p (f (λ k. s.top))

  pub absorb_linear : (t : Trace) (c : Set) → Linear s (λ w. absorb s t w c)
  absorb_linear (At j) c = record { meets = λ a b. refl; waits = λ h a. refl }
  absorb_linear (Both' q a r b) c = both_linear (absorb_linear a c) (absorb_linear b c)
  absorb_linear (Either' q a r b) c = through (absorb_linear a c) (λ d. absorb_linear b d)

  pub clauses_linear : (t : Trace) (c : Set) → Linear s (λ (b : Cell → V). absorb s t (λ d. b (clause d)) c)
  clauses_linear t c = through (absorb_linear t c) (λ d. cell_linear (clause d))

  pub grown_linear : {K : Type 0} {f g : (K → V) → V} (l : Leaf) (x : V) → Linear s f → Linear s g → Linear s (λ a. grown s l x (f a) (g a))
  grown_linear (Always a) x m n = both_linear m (either_linear x n)
  grown_linear (Eventually a) x m n = either_linear x m
  grown_linear (Never a) x m n = both_linear m (either_linear (s.turn x) n)

  pub extend_linear : (j : Slot) (l : Leaf) (x : V) (k : Cell) → Linear s (λ b. extend s j l x b k)
  extend_linear j l x (clause c) = cond_linear (c j) (grown_linear l x (cell_linear (clause c)) (cell_linear (clause (without j c)))) (cell_linear (clause c))
  extend_linear j l x kept = cell_linear kept

  pub extend_all_linear : (l : PerLeaf Leaf) (x : PerLeaf V) (k : Cell) → Linear s (λ b. extend_all s l x b k)
  extend_all_linear l x k =
      through (extend_linear Fourth l.fourth x.fourth k) (λ i.
      through (extend_linear Third l.third x.third i) (λ m.
      through (extend_linear Second l.second x.second m) (λ n.
      extend_linear First l.first x.first n)))

  pub happen_linear : (c : Core) (x : EventList → Bool) (k : Cell) → Linear s (λ b. happen s c x b k)
  happen_linear (Plain t) x (clause c) = cell_linear (clause c)
  happen_linear (Plain t) x kept = cell_linear kept
  happen_linear (Before e t) x (clause c) = cell_linear (clause c)
  happen_linear (Before e t) x kept = cond_linear (x e) (both_linear (cell_linear kept) (clauses_linear t none)) (cell_linear kept)
  happen_linear (Until t e) x (clause c) = cond_linear (x e) (clauses_linear t c) (cell_linear (clause c))
  happen_linear (Until t e) x kept = cell_linear kept

  pub readout_linear : (c : Core) → Linear s (readout s c)
  readout_linear (Plain t) = clauses_linear t none
  readout_linear (Before e t) = cell_linear kept
  readout_linear (Until t e) = cell_linear (clause none)

  pub advance_linear : (l : PerLeaf Leaf) (c : Core) (x : View V) (k : Cell) → Linear s (λ b. advance s l c x b k)
  advance_linear l c x k = through (extend_all_linear l (told_by x l) k) (λ i. happen_linear c x.event i)

  pub advances_linear : (l : PerLeaf Leaf) (c : Core) (xs : List (View V)) (k : Cell) → Linear s (λ b. advances s l c b xs k)
  advances_linear l c [] k = cell_linear k
  advances_linear l c (x ∷ xs) k = through (advances_linear l c xs k) (λ i. advance_linear l c x i)

  launch_cell : (l : PerLeaf Leaf) (h : V) (b : Cell → V) (k : Cell) → launch s l h b k ≡ meet s b (behind s h (blank s l)) k
  launch_cell l h b (clause c) = refl
  launch_cell l h b kept = sym (ap (s.both (b kept)) (either_top p h) ∙ both_top p (b kept))

  go_meet : (l : PerLeaf Leaf) (c : Core) (h : V) (x : View V) (b : Cell → V) → go s l c h x b ≡ extend_all s l (told_by x l) (meet s (happen s c x.event b) (behind s h (blank s l)))
  go_meet l c h x b = ap (extend_all s l (told_by x l)) (fun_ext (launch_cell l h (happen s c x.event b)))

  -- a step on two states at once
  go_split : (l : PerLeaf Leaf) (c : Core) (h : V) (x : View V) (a b : Cell → V) → go s l c h x (meet s a b) ≡ meet s (advance s l c x a) (go s l c h x b)
  go_split l c h x a b = go_meet l c h x (meet s a b) ∙ fun_ext (λ k.
      let e = extend_all_linear l (told_by x l) k in
      let new = behind s h (blank s l) in
      e.meets (happen s c x.event (meet s a b)) new
      ∙ ap (λ u. s.both u (extend_all s l (told_by x l) new k)) ((advance_linear l c x k).meets a b)
      ∙ p.both_assoc (advance s l c x a k) (advance s l c x b k) (extend_all s l (told_by x l) new k)
      ∙ ap (s.both (advance s l c x a k)) (sym (e.meets (happen s c x.event b) new)))
      ∙ ap (meet s (advance s l c x a)) (sym (go_meet l c h x b))

  goes_split : (l : PerLeaf Leaf) (c : Core) (a b : Cell → V) (r : List (Locked V)) → goes s l c (meet s a b) r ≡ meet s (advances s l c a (places r)) (goes s l c b r)
  goes_split l c a b [] = refl
  goes_split l c a b (y ∷ r) = ap (λ u. goes s l c u r) (go_split l c y.lock y.at a b) ∙ goes_split l c (advance s l c y.at a) (go s l c y.lock y.at b) r

  -- the first step from nothing: the start alone
  go_none : (l : PerLeaf Leaf) (c : Core) (h : V) (x : View V) → go s l c h x (λ k. s.top) ≡ meet s (behind s h (extend_all s l (told_by x l) (blank s l))) (λ k. s.top)
  go_none l c h x = go_meet l c h x (λ k. s.top) ∙ fun_ext (λ k.
      let e = extend_all_linear l (told_by x l) k in
      e.meets (happen s c x.event (λ i. s.top)) (behind s h (blank s l))
      ∙ ap₂ s.both (linear_top (advance_linear l c x k)) (e.waits h (blank s l))
      ∙ p.both_comm s.top (s.either h (extend_all s l (told_by x l) (blank s l) k)))

  -- what all starts come to
  pub goes_value : (l : PerLeaf Leaf) (c : Core) (r : List (Locked V)) → readout s c (goes s l c (λ k. s.top) r) ≡ spawned s (single s l c) r
  goes_value l c [] = linear_top (readout_linear c)
  goes_value l c (y ∷ r) =
      let start = extend_all s l (told_by y.at l) (blank s l) in
      let read = through (readout_linear c) (λ k. advances_linear l c (places r) k) in
      ap (λ u. readout s c (goes s l c u r)) (go_none l c y.lock y.at)
      ∙ ap (readout s c) (goes_split l c (behind s y.lock start) (λ k. s.top) r)
      ∙ (readout_linear c).meets (advances s l c (behind s y.lock start) (places r)) (goes s l c (λ k. s.top) r)
      ∙ ap₂ s.both (read.waits y.lock start) (goes_value l c r)
