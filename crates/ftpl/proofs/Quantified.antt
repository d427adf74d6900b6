-- Going over the places from 0 on: what is joined so far, with what is left, is the whole.
use Rattle.std.proofs.Common.{◌≡◌, ℕ, suc, ◌+◌, ◌-◌, ◌<◌, ◌≤◌, Bool, true, false, cond, List, [], ◌∷◌, map, sym, ap, ◌∙◌, arith}
use Rattle.scale.specs.Laws.{Ops, Laws}
use Rattle.ftpl.specs.Joins.{numbers, those, all, some}
use Rattle.ftpl.specs.Properties.{joined_by, pair_by}
use Rattle.ftpl.specs.declared.properties.Quantifier.{Quantifier}
use Rattle.ftpl.specs.declared.properties.Quantifier.TheVariants.{ForAll, Exists}

module _ {V : Type 0} (s : Ops V) (q : Quantifier) (test : ℕ → Bool) (f : ℕ → V) where
  -- m places from i on, joined
  abbrev pub over : ℕ → ℕ → V
  over i m = joined_by s q (map f (those test (numbers i m)))

  -- of n places those before i are in the total
  abbrev pub Going : ℕ → ℕ → V → Type 0
  Going n i total = pair_by s q total (over i (n - i)) ≡ over 0 n

module _ {V : Type 0} {s : Ops V} (p : Laws s) where
  nothing_pair : (q : Quantifier) (x : V) → pair_by s q x (joined_by s q []) ≡ x
  nothing_pair ForAll x = p.both_comm x s.top ∙ p.top_both x
  nothing_pair Exists x = p.either_comm x s.bottom ∙ p.bottom_either x

  pair_more : (q : Quantifier) (x y : V) (r : List V) → pair_by s q (pair_by s q x y) (joined_by s q r) ≡ pair_by s q x (joined_by s q (y ∷ r))
  pair_more ForAll x y r = p.both_assoc x y (all s r)
  pair_more Exists x y r = p.either_assoc x y (some s r)

  module _ (q : Quantifier) (test : ℕ → Bool) (f : ℕ → V) (n : ℕ) where
    here : (b : Bool) (i m : ℕ) → test i ≡ b → over s q test f i (suc m) ≡ joined_by s q (map f (cond b (i ∷ those test (numbers (suc i) m)) (those test (numbers (suc i) m))))
    here b i m e = ap (λ c. joined_by s q (map f (cond c (i ∷ those test (numbers (suc i) m)) (those test (numbers (suc i) m))))) e

    abbrev size_at : (i : ℕ) → i < n → n - i ≡ suc (n - (i + 1))
    size_at i h = omega arith

    on : (i m : ℕ) → over s q test f (suc i) m ≡ over s q test f (i + 1) m
    on i m = let e : suc i ≡ i + 1 = omega arith in ap (λ k. over s q test f k m) e

    pub going_taken : (i : ℕ) (total next more : V) → i < n → test i ≡ true → Going s q test f n i total → more ≡ f i → next ≡ pair_by s q total more → Going s q test f n (i + 1) next
    going_taken i total next more h e g v j =
        let m = n - (i + 1) in
        ap (λ u. pair_by s q u (over s q test f (i + 1) m)) (j ∙ ap (pair_by s q total) v)
        ∙ ap (pair_by s q (pair_by s q total (f i))) (sym (on i m))
        ∙ pair_more q total (f i) (map f (those test (numbers (suc i) m)))
        ∙ ap (pair_by s q total) (sym (here true i m e))
        ∙ ap (λ k. pair_by s q total (over s q test f i k)) (sym (size_at i h))
        ∙ g

    pub going_left : (i : ℕ) (total next : V) → i < n → test i ≡ false → Going s q test f n i total → next ≡ total → Going s q test f n (i + 1) next
    going_left i total next h e g j =
        let m = n - (i + 1) in
        ap (λ u. pair_by s q u (over s q test f (i + 1) m)) j
        ∙ ap (pair_by s q total) (sym (on i m) ∙ sym (here false i m e))
        ∙ ap (λ k. pair_by s q total (over s q test f i k)) (sym (size_at i h))
        ∙ g

    pub going_all : (i : ℕ) (total : V) → n ≤ i → Going s q test f n i total → total ≡ over s q test f 0 n
    going_all i total h g =
        let size : n - i ≡ 0 = omega arith in
        sym (nothing_pair q total) ∙ ap (λ k. pair_by s q total (over s q test f i k)) (sym size) ∙ g
