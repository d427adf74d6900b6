-- Leaves and groups that were read, or the word at which they stopped.
use Rattle.std.proofs.Common.{◌≡◌, ℕ, ◌+◌, ◌-◌, ◌<◌, ◌≤◌, Bool, false, ltb, List, [], ◌∷◌, ◌++◌, length, get_or, Some, None, codes, decimal, sym, refl, ap, ◌∙◌, subst, append_assoc, append-nil, arith, length-append}
use Rattle.std.specs.Str.{bytes_eq}
use Rattle.std.proofs.lemmas.Bool.{cond-true, cond-false, lt-ltb}
use Rattle.ftpl.specs.declared.formulas.Leaf.{Leaf}
use Rattle.ftpl.specs.declared.formulas.PerLeaf.{PerLeaf}
use Rattle.ftpl.specs.declared.formulas.Slot.{Slot}
use Rattle.ftpl.specs.declared.formulas.Trace.TheVariants.{At}
use Rattle.book_text.specs.declared.parts.Stop.{Stop}
use Rattle.book_text.specs.declared.parts.Stop.TheVariants.{Wrong, Memory}
use Rattle.book_text.specs.Rules.{Text, Level, plain}
use Rattle.book_words.specs.Cuts.{part as mid}
use Rattle.book_text.proofs.Lexical.{spelt_says}
use Rattle.book_text.proofs.Steps.{mid_first, mid_one, stands}
use Rattle.formula_text.specs.declared.leaves.LeafWord.{LeafWord}
use Rattle.formula_text.specs.declared.leaves.LeafWord.TheVariants as says
use Rattle.formula_text.specs.declared.places.Place.{Place}
use Rattle.formula_text.specs.Words.{leaf_text, leaf_words, leaf_word_of, leaf_of}
use Rattle.formula_text.specs.Rules.{Tree, leaf, joined, either, flat, size, slot_at, Reads, a_leaf, a_group, one_tight, and_tight, one_loose, or_loose}
use Rattle.formula_text.specs.States.{is_up_to, State, dead, tracing, numbering, done, after, leaf_step, step, run, Stuck}
use Rattle.formula_text.specs.Took.{put_leaf, fill, Took, Tracks, Failed}
use Rattle.formula_text.proofs.Steps.{not_up_to, up_to, number_some, stuck_here, stuck_step}

pub size_some : (f : Tree Leaf) → 0 < size f
size_some (leaf x) = omega arith
size_some (joined f g) = omega (arith, size_some f, length-append (flat f) (flat g))
size_some (either f g) = omega (arith, size_some f, length-append (flat f) (flat g))

module _ (n : ℕ) (b : Bool) (d k : ℕ) where
  at_leaf : (w : LeafWord) → step n (tracing b d k) (leaf_text w) ≡ numbering b d k
  unfolding step
  at_leaf says.Always = refl
  at_leaf says.Eventually = refl
  at_leaf says.Never = refl

  at_number : (m : ℕ) → 1 ≤ m → m ≤ n → step n (numbering b d k) (decimal m) ≡ done b d (k + 1)
  unfolding step
  at_number m h l = cond-true (is_up_to n (decimal m)) (done b d (k + 1)) dead (up_to n m h l)

  pub at_and : k < 4 → step n (done b d k) (codes "&") ≡ tracing b d k
  unfolding step
  at_and h = cond-true (ltb k 4) (tracing b d k) dead (lt-ltb k 4 h)

  pub at_or : k < 4 → step n (done b d k) (codes "|") ≡ tracing b d k
  unfolding step
  at_or h = cond-true (ltb k 4) (tracing b d k) dead (lt-ltb k 4 h)

  pub at_open : d < 8 → step n (tracing b d k) (codes "(") ≡ tracing b (d + 1) k
  unfolding step
  at_open h = cond-true (ltb d 8) (tracing b (d + 1) k) dead (lt-ltb d 8 h)

  at_close : step n (done b (d + 1) k) (codes ")") ≡ done b d k
  unfolding step
  at_close = let e : d + 1 - 1 ≡ d = omega arith in cond-true (ltb 0 (d + 1)) (done b (d + 1 - 1) k) dead (lt-ltb 0 (d + 1) (omega arith)) ∙ ap (λ z. done b z k) e

-- the words of leaves lead on behind them
pub complete : {n d : ℕ} {l : Level} {p : List Text} {f : Tree Leaf} → Reads n l d p f → (b : Bool) (e k : ℕ) → e + d ≡ 8 → k + size f ≤ 4 → (u : List Text) → run n (tracing b e k) (p ++ u) ≡ run n (done b e (k + size f)) u
complete {n} (a_leaf m w h l) b e k q c u = ap (λ z. run n (step n z (decimal m)) u) (at_leaf n b e k w) ∙ ap (λ z. run n z u) (at_number n b e k m h l)
complete {n} (a_group {p = p} {f = f} r) b e k q c u =
    ap (λ z. run n z ((p ++ (codes ")" ∷ [])) ++ u)) (at_open n b e k (omega arith))
    ∙ ap (run n (tracing b (e + 1) k)) (append_assoc p (codes ")" ∷ []) u)
    ∙ complete r b (e + 1) k (omega arith) c (codes ")" ∷ u)
    ∙ ap (λ z. run n z u) (at_close n b e (k + size f))
complete (one_tight r) b e k q c u = complete r b e k q c u
complete {n} (and_tight {p = p} {q = p₂} {f = f} {g = g} r s) b e k q c u =
    let a = length-append (flat f) (flat g) in
    let m : k + size f + size g ≡ k + size (joined f g) = omega (arith, a) in
    ap (run n (tracing b e k)) (append_assoc p (codes "&" ∷ p₂) u)
    ∙ complete r b e k q (omega (arith, a)) (codes "&" ∷ (p₂ ++ u))
    ∙ ap (λ z. run n z (p₂ ++ u)) (at_and n b e (k + size f) (omega (arith, a, size_some g)))
    ∙ complete s b e (k + size f) q (omega (arith, a)) u
    ∙ ap (λ z. run n (done b e z) u) m
complete (one_loose r) b e k q c u = complete r b e k q c u
complete {n} (or_loose {p = p} {q = p₂} {f = f} {g = g} r s) b e k q c u =
    let a = length-append (flat f) (flat g) in
    let m : k + size f + size g ≡ k + size (either f g) = omega (arith, a) in
    ap (run n (tracing b e k)) (append_assoc p (codes "|" ∷ p₂) u)
    ∙ complete r b e k q (omega (arith, a)) (codes "|" ∷ (p₂ ++ u))
    ∙ ap (λ z. run n z (p₂ ++ u)) (at_or n b e (k + size f) (omega (arith, a, size_some g)))
    ∙ complete s b e (k + size f) q (omega (arith, a)) u
    ∙ ap (λ z. run n (done b e z) u) m

pub fill_append : (l : PerLeaf Leaf) (k : ℕ) (xs ys : List Leaf) → fill l k (xs ++ ys) ≡ fill (fill l k xs) (k + length xs) ys
fill_append l k [] ys = let m : k ≡ k + 0 = omega arith in ap (λ z. fill l z ys) m
fill_append l k (x ∷ xs) ys = let m : k + 1 + length xs ≡ k + length (x ∷ xs) = omega arith in fill_append (put_leaf l k x) (k + 1) xs ys ∙ ap (λ z. fill (fill (put_leaf l k x) (k + 1) xs) z ys) m

leaf_some : (w : LeafWord) → leaf_text w ≡ [] → ⊥
leaf_some says.Always e = let z : ◌≡◌ {A = ℕ} 0 1 = cc in omega arith
leaf_some says.Eventually e = let z : ◌≡◌ {A = ℕ} 0 1 = cc in omega arith
leaf_some says.Never e = let z : ◌≡◌ {A = ℕ} 0 1 = cc in omega arith

pub some_leaf : (n d k : ℕ) → 1 ≤ n → k < 4 → (u : List Text) × Tracks n plain d k u
some_leaf n d k h l = (codes "always" ∷ decimal 1 ∷ [], (leaf (leaf_of says.Always 1), a_leaf 1 says.Always (omega arith) h, omega arith))

pub failed_weaker : (n : ℕ) (Q Q₁ : List Text → Type 0) (st : State) (s : List Text) (a : ℕ) (r : Stop) → ((p : List Text) → Q₁ p → Q p) → Failed n Q₁ st s a r → Failed n Q st s a r
failed_weaker n Q Q₁ st s a (Wrong e) f x = record { ahead = x.ahead; inside = x.inside; onward = (x.onward.0, f (mid s a e ++ x.onward.0) x.onward.1); alive = x.alive; wrong = x.wrong }
failed_weaker n Q Q₁ st s a Memory f x = tt

module _ (n d e : ℕ) (b : Bool) (s : List Text) (a : Place) (some : 1 ≤ n) (room : a.count < 4) where
  pub no_leaf : a.at ≤ length s → bytes_eq (get_or s a.at []) (codes "(") ≡ false → leaf_word_of (get_or s a.at []) ≡ None → Stuck n (Tracks n plain d a.count) (tracing b e a.count) s a.at a.at
  unfolding step
  no_leaf h q o = stuck_here s a.at tt h (some_leaf n d a.count some room) (cond-false (bytes_eq (get_or s a.at []) (codes "(")) _ (leaf_step b e a.count (get_or s a.at [])) q ∙ ap (λ z. after z (numbering b e a.count)) o)

  module _ (w : LeafWord) (o : leaf_word_of (get_or s a.at []) ≡ Some w) where
    word_is : get_or s a.at [] ≡ leaf_text w
    word_is = spelt_says leaf_text leaf_words (get_or s a.at []) w o

    pub leaf_inside : a.at < length s
    leaf_inside = stands s a.at (leaf_text w) (leaf_some w) word_is

    pub no_number : ((m : ℕ) → 1 ≤ m → m ≤ n → get_or s (a.at + 1) [] ≡ decimal m → ⊥) → Stuck n (Tracks n plain d a.count) (tracing b e a.count) s a.at (a.at + 1)
    unfolding step
    no_number f =
        stuck_step s a.at (a.at + 1) leaf_inside (ap (step n (tracing b e a.count)) word_is ∙ at_leaf n b e a.count w)
        (λ p y. ([], subst (λ z. Tracks n plain d a.count (z ∷ (p ++ []))) (sym word_is) (subst (λ z. Tracks n plain d a.count (leaf_text w ∷ z)) (sym (append-nil p)) y)))
        (stuck_here {Q = λ p. Tracks n plain d a.count (leaf_text w ∷ p)} s (a.at + 1) tt (omega (arith, leaf_inside)) (decimal 1 ∷ [], (leaf (leaf_of w 1), a_leaf 1 w (omega arith) some, omega arith))
        (cond-false (is_up_to n (get_or s (a.at + 1) [])) _ dead (not_up_to n (get_or s (a.at + 1) []) f)))

    pub took_leaf : n < 256 → (m : ℕ) → 1 ≤ m → m ≤ n → get_or s (a.at + 1) [] ≡ decimal m → (x : Slot) (l : PerLeaf Leaf) → x ≡ slot_at a.count → l ≡ put_leaf a.leaves a.count (leaf_of w m) → Took plain n d s a (record { trace = At x; place = record { at = a.at + 2; count = a.count + 1; leaves = l } })
    took_leaf v m h k q x l i j =
        let two = stands s (a.at + 1) (decimal m) (number_some m (omega arith)) q in
        let z : a.at + 1 + 1 ≡ a.at + 2 = omega arith in
        let p = mid_first s a.at (a.at + 2) (omega arith) (omega (arith, two)) ∙ (λ i. word_is i ∷ (ap (mid s (a.at + 1)) (sym z) ∙ mid_one s (a.at + 1) two ∙ ap (λ y. y ∷ []) q) i) in
        record {
          ahead = omega arith;
          inside = omega (arith, two);
          tree = leaf (leaf_of w m);
          reads = subst (λ y. Reads n plain d y (leaf (leaf_of w m))) (sym p) (a_leaf m w h k);
          counted = refl;
          more = omega arith;
          few = omega arith;
          slots = ap leaf i;
          filled = j;
          shut = tt;
        }
