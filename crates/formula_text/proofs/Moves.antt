-- What is read at a spot behind a sign is read from there on in the words of the spot before.
use Rattle.std.proofs.Common.{◌≡◌, ℕ, ◌+◌, List, length, Bor, ap, ◌∙◌, subst, arith}
use Rattle.book_words.specs.declared.tokens.Token.{Token}
use Rattle.book_text.specs.Cursors.{Behind}
use Rattle.book_text.specs.Rules.{Text}
use Rattle.book_text.specs.declared.cursors.Cursor.{Cursor}
use Rattle.book_text.specs.declared.parts.Stop.{Stop}
use Rattle.book_text.specs.declared.parts.Stop.TheVariants.{Wrong, Memory}
use Rattle.formula_text.specs.declared.places.Place.{Place}
use Rattle.formula_text.specs.declared.places.Part.{Part}
use Rattle.formula_text.specs.declared.spots.Spot.{Spot}
use Rattle.formula_text.specs.Spots.{place_of, Continues}
use Rattle.formula_text.specs.States.{State, Stuck}
use Rattle.formula_text.specs.Took.{Failed}
use Rattle.formula_text.specs.Words.{rule_words}
use Rattle.formula_text.proofs.Grouped.{Sign, sign_text, Joins}
use Rattle.formula_text.proofs.Steps.{rule_long}

-- what leads from one wrong word to another leads from one stop to another
pub as_stop : {n : ℕ} {Q Q₁ : List Text → Type 0} {st st₁ : State} {s : List Text} {a b : ℕ} (r : Stop) → ((e : ℕ) → Stuck n Q₁ st₁ s b e → Stuck n Q st s a e) → Failed n Q₁ st₁ s b r → Failed n Q st s a r
as_stop (Wrong e) f h = f e h
as_stop Memory f h = tt

module _ (P : ℕ → List Text → Place → Type 0) where
  moved : (y : Spot) {d : ℕ} {ts : Bor (List Token)} {p : Place} → y.depth ≡ d → y.cursor.tokens ≡ ts → place_of y ≡ p → P y.depth (rule_words y.cursor.tokens.now) (place_of y) → P d (rule_words ts.now) p
  moved y {d} {ts} {p} e q r h =
      subst (λ n. P n (rule_words ts.now) p) e
      (subst (λ t. P y.depth (rule_words t.now) p) q
      (subst (P y.depth (rule_words y.cursor.tokens.now)) r h))

  -- behind a sign that joins one more leaf to a part
  pub read_on : {x : Spot} {part : Part} {t : Text} (y : Spot) → Continues x part t y → P y.depth (rule_words y.cursor.tokens.now) (place_of y) → P x.depth (rule_words x.cursor.tokens.now) (record { at = part.place.at + 1; count = part.place.count; leaves = part.place.leaves })
  read_on y c h = moved y c.depth c.tokens c.place h

  -- inside a parenthesis
  pub read_inside : (x : Spot) {t : Text} {z : Cursor} {d : ℕ} (y : Spot) → Behind rule_words x.cursor t z → y.cursor ≡ z → y.depth ≡ d → y.count ≡ x.count → y.leaves ≡ x.leaves → P y.depth (rule_words y.cursor.tokens.now) (place_of y) → P d (rule_words x.cursor.tokens.now) (record { at = x.cursor.at + 1; count = x.count; leaves = x.leaves })
  read_inside x y b q d k l h = moved y d (ap (λ z. z.tokens) q ∙ b.tokens) (λ i. record { at = (ap (λ z. z.at) q ∙ b.at) i; count = k i; leaves = l i }) h

pub continued : (g : Sign) {x : Spot} {part : Part} {y : Spot} → Continues x part (sign_text g) y → Joins (rule_words x.cursor.tokens.now) part.place.at part.place.count (sign_text g)
continued g {x} {part} {y} c = record {
  room = omega (arith, ap (λ z. z.count) c.place, y.few);
  sign = c.word;
  inside = omega (arith, ap (λ z. z.at) c.place, y.cursor.inside, ap (λ z. length z.now) c.tokens, rule_long x.cursor.tokens.now);
}
