-- A climb from owner to owner that comes to a place comes there within one climb more than the table has rows:
-- a longer one has met some place twice, and can be cut short.
use Rattle.std.specs.Prelude.{◌≡◌, ℕ, zero, suc, ◌+◌, ◌-◌, ◌<◌, ◌≤◌, min, Bool, true, false, cond, ◌≢◌, ◌⊎◌, List, length, ◌==◌, refl}
use Rattle.std.proofs.Common.{sym, ap, ◌∙◌, inl, inr, arith, eqb-true}
use Rattle.std.proofs.Math.Decide.{ℕ_discrete, dec_lt}
use Rattle.std.proofs.lemmas.Bool.{eqb-false}
use Rattle.std.proofs.lemmas.List.{get_or_past}
use Rattle.host.specs.declared.rows.Row.{Row}
use Rattle.host.specs.Tables.{row_at, empty_row}
use Rattle.table.specs.Deciding.{some?, map?}
use Rattle.table.specs.Places.{owner_at, climb, Reaches}

pub lt_or_ge : (m n : ℕ) → (m < n) ⊎ (n ≤ m)
lt_or_ge m n = elim (dec_lt m n) [ yes h ↦ inl h | no h ↦ inr (omega arith) ]

-- two indices up to n at which f is the same
pub record Repeat (f : ℕ → ℕ) (n : ℕ) : Type 0 where
  pub i : ℕ
  pub j : ℕ
  pub less : i < j
  pub within : j ≤ n
  pub same : f i ≡ f j

-- v in the place of m
abbrev moved : ℕ → ℕ → ℕ → ℕ
moved v m x = cond (x == m) v x

moved_low : (v m x : ℕ) → v < suc m → x < suc m → x ≢ v → moved v m x < m
moved_low v m x hv hx ne = go (x == m) refl
  where
    go : (b : Bool) → (x == m) ≡ b → cond b v x < m
    go true e = omega (arith, eqb-true x m e)
    go false e = omega (arith, eqb-false x m e)

moved_same : (v m x y : ℕ) → x ≢ v → y ≢ v → moved v m x ≡ moved v m y → x ≡ y
moved_same v m x y nx ny = go (x == m) (y == m) refl refl
  where
    go : (b d : Bool) → (x == m) ≡ b → (y == m) ≡ d → cond b v x ≡ cond d v y → x ≡ y
    go true true p q e = omega (arith, eqb-true x m p, eqb-true y m q)
    go true false p q e = absurd (ny (sym e))
    go false true p q e = absurd (nx e)
    go false false p q e = e

-- n + 1 numbers below n are not all different
pub pigeons : (n : ℕ) (f : ℕ → ℕ) → ((i : ℕ) → i ≤ n → f i < n) → Repeat f n
pigeons zero f h = absurd (omega (arith, h 0 (omega arith)))
pigeons (suc m) f h = go (pigeons m) (some? (λ i. f i ≡ f (suc m)) (λ i. ℕ_discrete (f i) (f (suc m))) (suc m))
  where
    apart : ((g : ℕ → ℕ) → ((i : ℕ) → i ≤ m → g i < m) → Repeat g m) → (((i : ℕ) × (i < suc m) × (f i ≡ f (suc m))) → ⊥) → Repeat f (suc m)
    apart fewer none =
        let r : Repeat (λ i. moved (f (suc m)) m (f i)) m = fewer (λ i. moved (f (suc m)) m (f i)) (λ i k. moved_low (f (suc m)) m (f i) (h (suc m) (omega arith)) (h i (omega arith)) (λ e. none (i, omega arith, e))) in
        record {
          i = r.i;
          j = r.j;
          less = r.less;
          within = omega (arith, r.within);
          same = moved_same (f (suc m)) m (f r.i) (f r.j) (λ e. none (r.i, omega (arith, r.less, r.within), e)) (λ e. none (r.j, omega (arith, r.within), e)) r.same;
        }

    go : ((g : ℕ → ℕ) → ((i : ℕ) → i ≤ m → g i < m) → Repeat g m) → Dec ((i : ℕ) × (i < suc m) × (f i ≡ f (suc m))) → Repeat f (suc m)
    go fewer (yes x) = record { i = x.0; j = suc m; less = x.1; within = omega arith; same = x.2 }
    go fewer (no none) = apart fewer none

module _ (t : List Row) where
  -- a climb in two parts
  pub climb_add : (m n p : ℕ) → climb t (m + n) p ≡ climb t n (climb t m p)
  climb_add zero n p = let e : 0 + n ≡ n = omega arith in ap (λ k. climb t k p) e
  climb_add (suc m) n p = let e : suc m + n ≡ suc (m + n) = omega arith in ap (λ k. climb t k p) e ∙ climb_add m n (owner_at t p)

  -- the last step of a climb
  pub climb_last : (n p : ℕ) → climb t (suc n) p ≡ owner_at t (climb t n p)
  climb_last n p = let e : suc n ≡ n + 1 = omega arith in ap (λ k. climb t k p) e ∙ climb_add n 1 p

  -- one climb more
  pub climb_more : (n p here : ℕ) (row : Row) → here ≡ climb t n p → row ≡ row_at t here → row.owner ≡ climb t (n + 1) p
  climb_more n p here row e f = ap (λ r. r.owner) f ∙ ap (owner_at t) e ∙ sym (climb_add n 1 p)

  pub owner_past : (p : ℕ) → length t ≤ p → owner_at t p ≡ 255
  owner_past p h = ap (λ r. r.owner) (get_or_past t p empty_row h)

  twice : (p : ℕ) → Repeat (λ i. climb t i p) (length t + 2)
  twice p = go (pigeons (length t + 1) (λ i. min (climb t i p) (length t)) (λ i h. omega arith))
    where
      go : Repeat (λ i. min (climb t i p) (length t)) (length t + 1) → Repeat (λ i. climb t i p) (length t + 2)
      go r = elim (lt_or_ge (climb t r.i p) (length t)) [
        | inl low ↦ record { i = r.i; j = r.j; less = r.less; within = omega (arith, r.within); same = omega (arith, r.same) }
        | inr high ↦ record {
          i = suc r.i;
          j = suc r.j;
          less = omega (arith, r.less);
          within = omega (arith, r.within);
          same = climb_last r.i p ∙ owner_past _ high ∙ sym (climb_last r.j p ∙ owner_past _ (omega (arith, r.same)));
        }
      ]

  -- a climb that has met a place twice goes on as the shorter one does
  cut : (n p : ℕ) (r : Repeat (λ i. climb t i p) n) → climb t (r.i + (n - r.j)) p ≡ climb t n p
  cut n p r =
      let e : n ≡ r.j + (n - r.j) = omega (arith, r.within) in
      climb_add r.i (n - r.j) p ∙ ap (climb t (n - r.j)) r.same ∙ sym (climb_add r.j (n - r.j) p) ∙ ap (λ k. climb t k p) (sym e)

  fewer : (fuel n p g : ℕ) → n ≤ fuel → climb t n p ≡ g → (m : ℕ) × (m < length t + 2) × (climb t m p ≡ g)
  fewer zero n p g h e = (n, omega arith, e)
  fewer (suc fuel) n p g h e = elim (lt_or_ge n (length t + 2)) [
    | inl low ↦ (n, low, e)
    | inr high ↦
        let r = twice p in
        let s : Repeat (λ i. climb t i p) n = record { i = r.i; j = r.j; less = r.less; within = omega (arith, r.within); same = r.same } in
        fewer fuel (s.i + (n - s.j)) p g (omega (arith, s.less, s.within)) (cut n p s ∙ e)
  ]

  -- where a climb comes at all it comes soon
  pub soon : (p g : ℕ) → Reaches t p g → (m : ℕ) × (m < length t + 2) × (climb t m p ≡ g)
  soon p g (n, e) = fewer n n p g (omega arith) e

  pub reaches? : (p g : ℕ) → Dec (Reaches t p g)
  reaches? p g = map? (λ h. (h.0, h.2)) (soon p g) (some? (λ m. climb t m p ≡ g) (λ m. ℕ_discrete (climb t m p) g) (length t + 2))
