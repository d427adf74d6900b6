-- Lists of words, and relations between two lists.
use Rattle.std.proofs.Common.{◌≡◌, ◌⊎◌, List, [], ◌∷◌, ◌++◌, length, sym, refl, inl, inr, ⊎_elim, arith}
use Rattle.std.specs.List.{AllByRecursion}
use Rattle.whole_book.specs.Books.{Each}

-- of two fronts of a list one goes on to the other
pub compared : {A : Type 0} (a b c d : List A) → a ++ b ≡ c ++ d → ((r : List A) × (a ≡ c ++ r) × (d ≡ r ++ b)) ⊎ ((r : List A) × (c ≡ a ++ r) × (b ≡ r ++ d))
compared [] b c d e = inr (c, refl, e)
compared (x ∷ a) b [] d e = inl (x ∷ a, refl, sym e)
compared (x ∷ a) b (y ∷ c) d e =
    let h : x ≡ y = cc in
    let t : a ++ b ≡ c ++ d = cc in
    ⊎_elim (λ r. inl (r.0, (λ i. h i ∷ r.1 i), r.2)) (λ r. inr (r.0, (λ i. sym h i ∷ r.1 i), r.2)) (compared a b c d t)

pub no_length : {A : Type 0} (xs : List A) → length xs ≡ 0 → xs ≡ []
no_length [] e = refl
no_length (x ∷ xs) e = absurd (omega arith)

module _ {A B : Type 0} (R : A → B → Type 0) where
  pub each_push : (xs : List A) (ys : List B) (x : A) (y : B) → Each R xs ys → R x y → Each R (xs ++ (x ∷ [])) (ys ++ (y ∷ []))
  each_push [] [] x y h r = (r, tt)
  each_push [] (v ∷ ys) x y h r = absurd h
  each_push (u ∷ xs) [] x y h r = absurd h
  each_push (u ∷ xs) (v ∷ ys) x y h r = (h.0, each_push xs ys x y h.1 r)

  pub each_length : (xs : List A) (ys : List B) → Each R xs ys → length xs ≡ length ys
  each_length [] [] h = refl
  each_length [] (v ∷ ys) h = absurd h
  each_length (u ∷ xs) [] h = absurd h
  each_length (u ∷ xs) (v ∷ ys) h = omega (arith, each_length xs ys h.1)

  pub each_all : (P : B → Type 0) → ((x : A) (y : B) → R x y → P y) → (xs : List A) (ys : List B) → Each R xs ys → AllByRecursion P ys
  each_all P f [] [] h = tt
  each_all P f [] (v ∷ ys) h = absurd h
  each_all P f (u ∷ xs) [] h = absurd h
  each_all P f (u ∷ xs) (v ∷ ys) h = (f u v h.0, each_all P f xs ys h.1)
