-- What is read at a place behind a sign is read from there on in the words of the place before.
use Rattle.std.proofs.Common.{◌≡◌, ℕ, ◌+◌, List, [], length, get_or, Bor, Result, Err, MatchResult, sym, ap, ◌∙◌, subst, arith}
use Rattle.book_words.specs.Cuts.{words_of}
use Rattle.book_words.specs.declared.tokens.Token.{Token}
use Rattle.book_text.specs.Cursors.{Behind}
use Rattle.book_text.specs.Places.{Continues}
use Rattle.book_text.specs.Rules.{Text}
use Rattle.book_text.specs.declared.cursors.Cursor.{Cursor}
use Rattle.book_text.specs.declared.parts.Part.{Part}
use Rattle.book_text.specs.declared.parts.Stop.{Stop}
use Rattle.book_text.specs.declared.places.Place.{Place}
use Rattle.book_text.proofs.Steps.{as_long, Joined}

module _ (words : List Token → List Text) where
  -- the word at an index, by whichever cursor over the words
  pub word_there : (x y : Cursor) {a : ℕ} → y.tokens ≡ x.tokens → y.at ≡ a → get_or (words y.tokens.now) y.at [] ≡ get_or (words x.tokens.now) a []
  word_there x y p q = (λ i. get_or (words (p i).now) (q i) [])

  pub read_at : (P : List Text → ℕ → Type 0) (x y : Cursor) {a : ℕ} → y.tokens ≡ x.tokens → y.at ≡ a → P (words y.tokens.now) y.at → P (words x.tokens.now) a
  read_at P x y {a} p q h = subst (λ t. P (words t.now) a) p (subst (P (words y.tokens.now)) q h)

-- an error that is known
pub stops_with : {A : Type 0} (P : A → Type 0) (Q : Stop → Type 0) (r : Result A Stop) (e : Stop) → r ≡ Err e → Q e → MatchResult r P Q
stops_with P Q r e q h = subst (λ z. MatchResult z P Q) (sym q) h

module _ (P : ℕ → ℕ → List Text → ℕ → Type 0) where
  moved : (y : Place) {d k a : ℕ} {ts : Bor (List Token)} → y.depth ≡ d → y.count ≡ k → y.cursor.tokens ≡ ts → y.cursor.at ≡ a → P y.depth y.count (words_of y.cursor.tokens.now) y.cursor.at → P d k (words_of ts.now) a
  moved y {d} {k} {a} {ts} p q r s h =
      subst (λ n. P n k (words_of ts.now) a) p
      (subst (λ n. P y.depth n (words_of ts.now) a) q
      (subst (λ t. P y.depth y.count (words_of t.now) a) r
      (subst (λ n. P y.depth y.count (words_of y.cursor.tokens.now) n) s h)))

  -- behind a sign that joins one more test to a part
  pub read_on : {x : Place} {part : Part} {t : Text} (y : Place) → Continues x part t y → P y.depth y.count (words_of y.cursor.tokens.now) y.cursor.at → P x.depth part.count (words_of x.cursor.tokens.now) (part.next + 1)
  read_on y c h = moved y c.depth c.count c.tokens c.at h

  -- behind the next word
  pub read_behind : (x : Place) {t : Text} {z : Cursor} {d : ℕ} (y : Place) → Behind words_of x.cursor t z → y.cursor ≡ z → y.depth ≡ d → y.count ≡ x.count → P y.depth y.count (words_of y.cursor.tokens.now) y.cursor.at → P d x.count (words_of x.cursor.tokens.now) (x.cursor.at + 1)
  read_behind x y b q d k h = moved y d k (ap (λ z. z.tokens) q ∙ b.tokens) (ap (λ z. z.at) q ∙ b.at) h

pub continued : {x : Place} {part : Part} {t : Text} {y : Place} → Continues x part t y → Joined (words_of x.cursor.tokens.now) part.next part.count t
continued {x} {part} {t} {y} c = record {
  room = omega (arith, c.count, y.few);
  sign = c.word;
  inside = omega (arith, c.at, y.cursor.inside, ap (λ z. length z.now) c.tokens, as_long x.cursor.tokens.now);
}
