-- The working values: found by number, filled one after the other, and cleared.
use Rattle.std.proofs.Common.{◌≡◌, ℕ, zero, suc, ◌<◌, Bool, true, false, ◌||◌, ◌==◌, ltb, List, [], ◌∷◌, length, get_or, None, unwrap_or, sym, refl, ap, ◌∙◌, true≢false, arith}
use Rattle.std.specs.List.{list_any}
use Rattle.std.proofs.lemmas.Option.{unwrap_or-slice_get}
use Rattle.std.proofs.lemmas.Bool.Decides.{nat_tests}
use Rattle.std.proofs.lemmas.Bool.{ltb-true, ltb-false}
use Rattle.std.proofs.lemmas.List.{get_or_default, get_or_past}
use Rattle.scale.specs.Laws.{Ops}
use Rattle.host.specs.declared.rows.Row.{Row}
use Rattle.ftpl.specs.Numbers.{numbered}
use Rattle.ftpl.specs.Formulas.{leaf_at}
use Rattle.ftpl.specs.Properties.{numbered_value}
use Rattle.ftpl.specs.declared.properties.Property.{Property}
use Rattle.ftpl.specs.declared.formulas.Formula.{Formula}
use Rattle.ftpl.specs.declared.formulas.Leaf.{Leaf}
use Rattle.ftpl.specs.declared.formulas.PerLeaf.{PerLeaf}
use Rattle.ftpl.specs.declared.formulas.Slot.{Slot}
use Rattle.ftpl.specs.declared.formulas.Slot.TheVariants.{First, Second, Third, Fourth}
use Rattle.ftpl.proofs.Numbered.{numbered_far}
use Rattle.monitor.specs.Monitor.{number_of}
use Rattle.monitor.specs.Boards.{Stands, working_value, Serves, Ready, names}

-- the formula at i is one
pub one_stands : {fs : List Formula} {i : ℕ} {f : Formula} (x : Formula) → Stands fs i f → x ≡ get_or fs i x → f ≡ x
one_stands {fs} {i} {f} x h e = h.is ∙ get_or_default fs i f x h.inside ∙ sym e

or_true : (b : Bool) → (b || true) ≡ true
or_true true = refl
or_true false = refl

-- what a slot names is named
names_slot : (l : PerLeaf Leaf) (n : ℕ) (j : Slot) → number_of (leaf_at l j) ≡ n → names l n ≡ true
names_slot l n j e = at j (grind (arith, nat_tests))
  where
    at : (j : Slot) → (number_of (leaf_at l j) == n) ≡ true → names l n ≡ true
    at First h = ap (λ x. ((x || (number_of l.second == n)) || (number_of l.third == n)) || (number_of l.fourth == n)) h
    at Second h = ap (λ x. (((number_of l.first == n) || x) || (number_of l.third == n)) || (number_of l.fourth == n)) h ∙ ap (λ x. (x || (number_of l.third == n)) || (number_of l.fourth == n)) (or_true (number_of l.first == n))
    at Third h = ap (λ x. (((number_of l.first == n) || (number_of l.second == n)) || x) || (number_of l.fourth == n)) h ∙ ap (λ x. x || (number_of l.fourth == n)) (or_true ((number_of l.first == n) || (number_of l.second == n)))
    at Fourth h = ap (λ x. (((number_of l.first == n) || (number_of l.second == n)) || (number_of l.third == n)) || x) h ∙ or_true (((number_of l.first == n) || (number_of l.second == n)) || (number_of l.third == n))

-- and found where the formulas are gone over
any_names : (n : ℕ) (fs : List Formula) (i : ℕ) (f : Formula) → i < length fs → f ≡ get_or fs i f → names f.leaves n ≡ true → list_any (λ (g : Formula). names g.leaves n) fs ≡ true
any_names n [] i f h e t = absurd (omega arith)
any_names n (x ∷ xs) zero f h e t = ap (λ b. b || list_any (λ (g : Formula). names g.leaves n) xs) (ap (λ (g : Formula). names g.leaves n) (sym e) ∙ t)
any_names n (x ∷ xs) (suc i) f h e t = ap (λ b. names x.leaves n || b) (any_names n xs i f (omega arith) e t) ∙ or_true (names x.leaves n)

pub unnamed : {fs : List Formula} {i n : ℕ} {f : Formula} (j : Slot) → list_any (λ (g : Formula). names g.leaves n) fs ≡ false → Stands fs i f → number_of (leaf_at f.leaves j) ≡ n → ⊥
unnamed {fs} {i} {n} {f} j none st e = true≢false (sym (any_names n fs i f st.inside st.is (names_slot f.leaves n j e)) ∙ none)

module _ {V : Type 0} (s : Ops V) where
  pub working_none : (xs : List V) (n : ℕ) → numbered xs n ≡ None → working_value s xs n ≡ s.bottom
  working_none xs zero e = refl
  working_none xs (suc k) e = sym (unwrap_or-slice_get xs k s.bottom) ∙ ap (λ o. unwrap_or o s.bottom) e

  module _ (t : List Row) (ps : List Property) (fs : List Formula) where
    pub filled_all : (xs : List V) → length xs ≡ 64 → ((k : ℕ) → k < 64 → Serves s t ps fs (suc k) (get_or xs k s.bottom)) → Ready s t ps fs xs
    filled_all xs long c i f j st = at (number_of (leaf_at f.leaves j)) refl
      where
        at : (number : ℕ) → number_of (leaf_at f.leaves j) ≡ number → working_value s xs number ≡ numbered_value s t ps number
        at zero e = refl
        at (suc k) e = near (ltb k 64) refl
          where
            near : (b : Bool) → ltb k 64 ≡ b → get_or xs k s.bottom ≡ numbered_value s t ps (suc k)
            near true q = c k (omega (arith, ltb-true k 64 q)) i f j st e
            near false q = get_or_past xs k s.bottom (omega (arith, long, ltb-false k 64 q)) ∙ sym (numbered_far s t ps (suc k) (omega (arith, ltb-false k 64 q)))
