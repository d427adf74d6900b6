-- The first wrong word of a line, in the ways in which one can be met.
use Rattle.std.proofs.Common.{◌≡◌, ℕ, zero, suc, ◌+◌, ◌-◌, ◌<◌, ◌≤◌, ◌⊎◌, List, [], ◌∷◌, ◌++◌, length, get_or, take, drop, Some, None, Option, Ok, Err, Result, MatchResult, sym, refl, ap, ◌∙◌, subst, inl, inr, ⊎_elim, append_assoc, arith, MatchOption}
use Rattle.std.specs.List.{flat_map}
use Rattle.std.proofs.lemmas.List.{append-nil, length-take-le, take_more, drop_more, drop_all}
use Rattle.table_text.specs.declared.lines.Key.{Key}
use Rattle.table_text.specs.declared.lines.Key.TheVariants.{Place, Kind, Name, Owner, Link, Up, Lo, Hi, Value}
use Rattle.table_text.specs.declared.lines.Line.{Line}
use Rattle.table_text.specs.Keys.{Fits, keys_before, keys_after, before}
use Rattle.table_text.specs.Lines.{ending, word, ended, order, line_text}
use Rattle.table_text.specs.Reading.{Begun, WrongInLine}
use Rattle.table_text.specs.Texts.{Word, Ended}
use Rattle.table_text.proofs.Cuts.{cut, line_word, ending_parts, word_on, strip}
use Rattle.std.proofs.lemmas.Grind.{flat_map-append}
use Rattle.table_text.proofs.Joins.{take_split}
use Rattle.table_text.proofs.Unique.{line_split}

pub some_weaker : {T : Type 0} (o : Option T) {P P' : Type 0} {Q Q' : T → Type 0} → MatchOption o P Q → (P → P') → ((x : T) → Q x → Q' x) → MatchOption o P' Q'
some_weaker None c p q = p c
some_weaker (Some x) c p q = q x c

pub err_with : {A E : Type 0} (r : Result A E) (e : E) (P : A → Type 0) (Q : E → Type 0) → r ≡ Err e → Q e → MatchResult r P Q
err_with r e P Q is q = subst (λ r. MatchResult r P Q) (sym is) q

pub err_only : {A E : Type 0} (r : Result A E) (P : A → Type 0) (Q : E → Type 0) → MatchResult r P Q → ((x : A) → P x → ⊥) → (e : E) × (r ≡ Err e) × Q e
err_only (Ok x) P Q m none = absurd (none x m)
err_only (Err e) P Q m none = (e, refl, m)

-- a line, parted at the word of a key
pub line_parts : (l : Line) (k : Key) → before l k ++ (word l k ++ (ending k ∷ flat_map (ended l) (keys_after k))) ≡ line_text l
line_parts l k =
    sym (ap (λ s. before l k ++ s) (sym (append-nil _) ∙ word_on l k (keys_after k) [] ∙ ap (λ s. word l k ++ (ending k ∷ s)) (append-nil (flat_map (ended l) (keys_after k)))))
    ∙ sym (flat_map-append (ended l) (keys_before k) (k ∷ keys_after k))
    ∙ sym (append-nil _) ∙ sym (line_split l k []) ∙ append-nil (line_text l)

-- what stands before a word but the first ends with a blank
module _ (l : Line) (ks : List Key) (j k : Key) (e : ending j ≡ 32) where
  blank_last : flat_map (ended l) (ks ++ (j ∷ [])) ≡ (flat_map (ended l) ks ++ word l j) ++ (32 ∷ [])
  blank_last = flat_map-append (ended l) ks (j ∷ []) ∙ ap (λ s. flat_map (ended l) ks ++ s) (append-nil (ended l j) ∙ ap (λ b. word l j ++ (b ∷ [])) e) ∙ sym (append_assoc (flat_map (ended l) ks) (word l j) (32 ∷ []))

pub parted : (l : Line) (k : Key) → (before l k ≡ []) ⊎ ((front : List ℕ) × (before l k ≡ front ++ (32 ∷ [])))
parted l Place = inl refl
parted l Kind = inr (_, blank_last l [] Place Kind refl)
parted l Name = inr (_, blank_last l (keys_before Kind) Kind Name refl)
parted l Owner = inr (_, blank_last l (keys_before Name) Name Owner refl)
parted l Link = inr (_, blank_last l (keys_before Owner) Owner Link refl)
parted l Up = inr (_, blank_last l (keys_before Link) Link Up refl)
parted l Lo = inr (_, blank_last l (keys_before Up) Up Lo refl)
parted l Hi = inr (_, blank_last l (keys_before Lo) Lo Hi refl)
parted l Value = inr (_, blank_last l (keys_before Hi) Hi Value refl)

-- another line that goes on as this one did up to a key
module _ {n m : ℕ} {e l : Line} (fe : Fits n e) (fl : Fits m l) (k : Key) (rest x : List ℕ) where
  pub onward : line_text e ++ rest ≡ before l k ++ x → word e k ++ (ending k ∷ (flat_map (ended e) (keys_after k) ++ rest)) ≡ x
  onward q = sym (word_on e k (keys_after k) rest) ∙ strip fe fl (keys_before k) (k ∷ keys_after k) rest x (sym (line_split e k rest) ∙ q)

module _ (next : ℕ) (s : List ℕ) (l : Line) (k : Key) (at end : ℕ) (f : Fits next l) (h : at ≤ end) (n : end ≤ length s) where
  -- a word that no line has behind this key
  pub wrong_word : take at s ≡ before l k → Word (take (end - at) (drop at s)) → Ended (drop end s) → ((e : Line) → Fits next e → take (end - at) (drop at s) ≡ word e k → ⊥) → WrongInLine next s (record { at = at; end = end })
  wrong_word b w u none = record {
    inside = (h, n);
    word = w;
    ended = u;
    before = ⊎_elim
        (λ (z : before l k ≡ []). inl (sym (length-take-le at s (omega arith)) ∙ ap length (b ∙ z)))
        (λ z. inr (record {
          line = l;
          front = z.0;
          after = 32 ∷ (word l k ++ (ending k ∷ flat_map (ended l) (keys_after k)));
          fits = f;
          whole = sym (append_assoc z.0 (32 ∷ []) _) ∙ ap (λ t. t ++ (word l k ++ (ending k ∷ flat_map (ended l) (keys_after k)))) (sym z.1) ∙ line_parts l k;
          ended = refl;
          parted = inr (b ∙ z.1);
        }))
        (parted l k);
    never = λ e fe rest after ea same q.
        let o = onward fe f k rest _ (q ∙ ap (λ t. t ++ (take (end - at) (drop at s) ++ after)) b) in
        none e fe (sym (cut (word e k) (take (end - at) (drop at s)) (ending k ∷ (flat_map (ended e) (keys_after k) ++ rest)) after (line_word fe k) w (ending_parts k) ea o).0);
  }

module _ (next : ℕ) (s : List ℕ) (l : Line) (k : Key) (end : ℕ) (f : Fits next l) (n : end ≤ length s) (b : take end s ≡ before l k ++ word l k) where
  begun : (at : ℕ) → (take at s ≡ before l k ++ word l k) ⊎ (take at s ≡ (before l k ++ word l k) ++ (32 ∷ [])) → Begun next s at
  begun at p = record {
    line = l;
    front = before l k ++ word l k;
    after = ending k ∷ flat_map (ended l) (keys_after k);
    fits = f;
    whole = append_assoc (before l k) (word l k) (ending k ∷ flat_map (ended l) (keys_after k)) ∙ line_parts l k;
    ended = ending_parts k;
    parted = p;
  }

  -- a word is lacking: the line or the text ends too early
  pub lacking : Ended (drop end s) → (take 1 (drop end s) ≡ ending k ∷ [] → ⊥) → WrongInLine next s (record { at = end; end = end })
  lacking u other =
      let z : end - end ≡ 0 = omega arith in
      let none : take (end - end) (drop end s) ≡ [] = ap (λ i. take i (drop end s)) z in
      record {
        inside = (omega arith, n);
        word = subst Word (sym none) tt;
        ended = u;
        before = inr (begun end (inl b));
        never = λ e fe rest after ea same q.
            let o = onward fe f k rest _ (q ∙ (λ i. b i ++ (none i ++ after)) ∙ append_assoc (before l k) (word l k) after) in
            let c = (cut (word e k) (word l k) (ending k ∷ (flat_map (ended e) (keys_after k) ++ rest)) after (line_word fe k) (line_word f k) (ending_parts k) ea o).1 in
            other (sym (same none) ∙ ap (take 1) (sym c));
      }

  -- a blank stands where the line must end: the word behind it is one too many
  pub extra : (end₂ : ℕ) → end < length s → get_or s end 0 ≡ 32 → (ending k ≡ 32 → ⊥) → end + 1 ≤ end₂ → end₂ ≤ length s → Word (take (end₂ - (end + 1)) (drop (end + 1) s)) → Ended (drop end₂ s) → WrongInLine next s (record { at = end + 1; end = end₂ })
  extra end₂ m blank other i j w u =
      let p = take_more s end 0 m ∙ (λ i. b i ++ (blank i ∷ [])) in
      record {
        inside = (i, j);
        word = w;
        ended = u;
        before = inr (begun (end + 1) (inr p));
        never = λ e fe rest after ea same q.
            let x = take (end₂ - (end + 1)) (drop (end + 1) s) ++ after in
            let o = onward fe f k rest _ (q ∙ ap (λ t. t ++ x) p ∙ append_assoc (before l k ++ word l k) (32 ∷ []) x ∙ append_assoc (before l k) (word l k) (32 ∷ x)) in
            let c = (cut (word e k) (word l k) (ending k ∷ (flat_map (ended e) (keys_after k) ++ rest)) (32 ∷ x) (line_word fe k) (line_word f k) (ending_parts k) refl o).1 in
            let d : ending k ≡ 32 = cc in
            other d;
      }

-- the text up to the end of a word that was taken
pub taken_to : (s : List ℕ) (at end : ℕ) (line l : Line) (k : Key) → at ≤ end → take at s ≡ before line k → take (end - at) (drop at s) ≡ word l k → before l k ≡ before line k → take end s ≡ before l k ++ word l k
taken_to s at end line l k h b w e = take_split at end s h ∙ (λ i. (b ∙ sym e) i ++ w i)

-- what follows is not what ends the word
pub ends_early : (s : List ℕ) (end : ℕ) (k : Key) → length s ≤ end → take 1 (drop end s) ≡ ending k ∷ [] → ⊥
ends_early s end k h e = let z = ap length (sym (ap (take 1) (drop_all end s h)) ∙ e) in omega arith

pub ends_otherwise : (s : List ℕ) (end : ℕ) (k : Key) → end < length s → (get_or s end 0 ≡ ending k → ⊥) → take 1 (drop end s) ≡ ending k ∷ [] → ⊥
ends_otherwise s end k h ne e =
    let d = sym (ap (take 1) (drop_more s end 0 h)) ∙ e in
    let z : get_or s end 0 ≡ ending k = cc in
    ne z

-- the keys before the one with number j
pub keys_at : (j : ℕ) → j < 9 → keys_before (get_or order j Place) ≡ take j order
keys_at zero h = refl
keys_at (suc zero) h = refl
keys_at (suc (suc zero)) h = refl
keys_at (suc (suc (suc zero))) h = refl
keys_at (suc (suc (suc (suc zero)))) h = refl
keys_at (suc (suc (suc (suc (suc zero))))) h = refl
keys_at (suc (suc (suc (suc (suc (suc zero)))))) h = refl
keys_at (suc (suc (suc (suc (suc (suc (suc zero))))))) h = refl
keys_at (suc (suc (suc (suc (suc (suc (suc (suc zero)))))))) h = refl
keys_at (suc (suc (suc (suc (suc (suc (suc (suc (suc j))))))))) h = absurd (omega arith)

pub before_at : (l : Line) (j : ℕ) → j < 9 → before l (get_or order j Place) ≡ flat_map (ended l) (take j order)
before_at l j h = ap (flat_map (ended l)) (keys_at j h)

-- no line fits behind place 254
pub none_left : (next : ℕ) (s : List ℕ) (end : ℕ) → 254 < next → end ≤ length s → Word (take (end - 0) (drop 0 s)) → Ended (drop end s) → WrongInLine next s (record { at = 0; end = end })
none_left next s end h n w u = record { inside = (omega arith, n); word = w; ended = u; before = inl refl; never = λ l f rest after ea same q. omega (arith, f.rises, f.inside) }
