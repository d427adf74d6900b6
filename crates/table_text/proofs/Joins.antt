-- Lists that are laid one after another.
use Rattle.std.proofs.Common.{◌≡◌, ℕ, ◌+◌, ◌-◌, ◌<◌, ◌≤◌, List, [], ◌++◌, length, get_or, take, drop, sym, ap, ◌∙◌, arith}
use Rattle.std.specs.List.{flat_map}
use Rattle.std.proofs.lemmas.List.{take_more, flat_map_more, drop-drop, take-append-drop, take-take, drop-take}

-- one item more
pub joined_more : {X A : Type 0} (f : X → List A) (xs : List X) (i : ℕ) (d : X) → i < length xs → flat_map f (take (i + 1) xs) ≡ flat_map f (take i xs) ++ f (get_or xs i d)
joined_more f xs i d h = ap (flat_map f) (take_more xs i d h) ∙ sym (flat_map_more f [] (take i xs) (get_or xs i d))

-- lists that agree from one place on agree from a later one on
pub drop_further : {X : Type 0} (a n : ℕ) (xs ys : List X) → a ≤ n → drop a xs ≡ drop a ys → drop n xs ≡ drop n ys
drop_further a n xs ys h e =
    let z : a + (n - a) ≡ n = omega arith in
    ap (λ k. drop k xs) (sym z) ∙ sym (drop-drop (n - a) a xs) ∙ ap (drop (n - a)) e ∙ drop-drop (n - a) a ys ∙ ap (λ k. drop k ys) z

-- a list up to one place, and from there to another
pub take_split : {X : Type 0} (a e : ℕ) (xs : List X) → a ≤ e → take e xs ≡ take a xs ++ take (e - a) (drop a xs)
take_split a e xs h =
    let z : a + (e - a) ≡ e = omega arith in
    sym (take-append-drop a (take e xs)) ∙ (λ i. take-take a e xs h i ++ (ap (λ k. drop a (take k xs)) (sym z) ∙ drop-take a (e - a) xs) i)
