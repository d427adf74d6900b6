-- Parts of a board that a write elsewhere leaves as they were.
use Rattle.std.proofs.Common.{◌≡◌, ℕ, ◌+◌, ◌-◌, ◌≤◌, List, take, drop, sym, ap, ◌∙◌, arith}
use Rattle.std.specs.List.{between}
use Rattle.std.proofs.lemmas.List.{take-take, drop-drop}
use Rattle.std.proofs.lemmas.Slice.{between_is}

module _ {X : Type 0} (xs ys : List X) where
  pub drop_on : (a b : ℕ) → a ≤ b → drop a xs ≡ drop a ys → drop b xs ≡ drop b ys
  drop_on a b h e =
      let size : a + (b - a) ≡ b = omega arith in
      ap (λ n. drop n xs) (sym size) ∙ sym (drop-drop (b - a) a xs) ∙ ap (drop (b - a)) e ∙ drop-drop (b - a) a ys ∙ ap (λ n. drop n ys) size

  -- a part behind a, where nothing from a on has changed
  pub behind : (a i j : ℕ) → a ≤ i → drop a xs ≡ drop a ys → between i j xs ≡ between i j ys
  behind a i j h e = ap (take (j - i)) (drop_on a i h e)

  -- a part before a, where nothing before a has changed
  pub ahead : (a i j : ℕ) → j ≤ a → take a xs ≡ take a ys → between i j xs ≡ between i j ys
  ahead a i j h e =
      between_is xs i j ∙ ap (drop i) (sym (take-take j a xs h) ∙ ap (take j) e ∙ take-take j a ys h) ∙ sym (between_is ys i j)
