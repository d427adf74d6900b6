-- A text cut into tokens from its start on.
use Rattle.std.specs.Prelude.{◌≡◌, ℕ, ◌+◌, ◌<◌, ◌≤◌, Bool, true, ◌⊎◌, List, [], ◌∷◌, ◌++◌, map, length, ◌==◌, ◌≢◌, slice_index, slice_index_or, slice_range}
use Rattle.book_words.specs.declared.bytes.ByteKind.TheVariants.{Plain}
use Rattle.book_words.specs.declared.bytes.Class.{Class}
use Rattle.book_words.specs.declared.bytes.Class.TheVariants.{Line, Sign, Word}
use Rattle.book_words.specs.declared.tokens.Token.{Token}
use Rattle.book_words.specs.declared.tokens.Found.{Found}
use Rattle.book_words.specs.Bytes.{kind_of, is_sign}
use Rattle.book_words.specs.Layout.{Proper, Gap}

-- the words and signs
abbrev pub words_of : List Token → List (List ℕ)
words_of = map (λ t. t.word.now)

-- what stands from a up to e
abbrev pub part : {A : Type 0} → List A → ℕ → ℕ → List A
part s a e = slice_range s a e

-- a word goes on as far as plain bytes do
abbrev pub Ended : Class → List ℕ → ℕ → Type 0
Ended Line s e = Unit {0}
Ended Sign s e = Unit {0}
Ended Word s e = e < length s → kind_of (slice_index s e) ≢ Plain

-- the token stands in s behind a token of class c that ends at i
pub record Stands (s : List ℕ) (i : ℕ) (c : Class) (x : Found) : Type 0 where
  pub behind : i ≤ x.token.at
  pub gap : Gap c x.class (part s i x.token.at)
  pub ahead : x.token.at < x.end
  pub inside : x.end ≤ length s
  pub word : x.token.word.now ≡ part s x.token.at x.end
  pub proper : Proper x.class (part s x.token.at x.end)
  pub ended : Ended x.class s x.end

-- a blank at i that no token can follow: at the start of a line, before another blank or the end of the text, or behind a word at the end of its line
abbrev pub Misplaced : Class → List ℕ → ℕ → Type 0
Misplaced Line s i = (i < length s) × (slice_index s i ≡ 32)
Misplaced Sign s i = (i < length s) × (slice_index s i ≡ 32) × (i + 1 < length s → slice_index s (i + 1) ≡ 32)
Misplaced Word s i = (i < length s) × (slice_index s i ≡ 32) × (i + 1 < length s → (slice_index s (i + 1) ≡ 32) ⊎ (slice_index s (i + 1) ≡ 10))

-- the tokens are those of s up to i, the last of class c
pub data Cut (s : List ℕ) : List Token → ℕ → Class → Type 0 where
  start : Cut s [] 0 Line
  next : {ts : List Token} {i : ℕ} {c : Class} {x : Found} → Cut s ts i c → Stands s i c x → Cut s (ts ++ (x.token ∷ [])) x.end x.class

-- what the functions that find a token say
abbrev pub Blanked : List ℕ → ℕ → ℕ → Type 0
Blanked s i r = ((r ≡ i) × (i < length s → slice_index s i ≢ 32)) ⊎ ((r ≡ i + 1) × (i < length s) × (slice_index s i ≡ 32))

abbrev pub Skips : List ℕ → ℕ → Class → ℕ → Type 0
Skips s i Line r = r ≡ i
Skips s i Sign r = Blanked s i r
Skips s i Word r = Blanked s i r

abbrev pub Begins : Class → ℕ → Type 0
Begins Line b = b ≡ 10
Begins Sign b = is_sign b ≡ true
Begins Word b = kind_of b ≡ Plain

pub record EndsAt (d : Class) (s : List ℕ) (a e : ℕ) : Type 0 where
  pub ahead : a < e
  pub inside : e ≤ length s
  pub proper : Proper d (part s a e)
  pub ended : Ended d s e

-- no blank stands between a word and the end of its line
abbrev pub gap_fits : Class → ℕ → ℕ → Class → Bool
gap_fits Line i a d = true
gap_fits Sign i a d = true
gap_fits Word i a Line = i == a
gap_fits Word i a Sign = true
gap_fits Word i a Word = true

-- where a word is lacking at a misplaced blank: before it at the start of a line, else behind it
abbrev pub lack_at : Class → ℕ → ℕ
lack_at Line i = i
lack_at Sign i = i + 1
lack_at Word i = i + 1

-- the token r is what the text has for its n-th word: a sign or a word as it stands, else an empty one where a line ends, a blank is misplaced or the text ends
pub record Points (s : List ℕ) (ts : List Token) (e : ℕ) (c : Class) (n : ℕ) (r : Token) : Type 0 where
  pub place : n < length ts → r.at ≡ (slice_index_or ts n r).at
  pub word : n < length ts → ((slice_index_or ts n r).word.now ≢ 10 ∷ []) → r.word.now ≡ (slice_index_or ts n r).word.now
  pub line : n < length ts → (slice_index_or ts n r).word.now ≡ 10 ∷ [] → r.word.now ≡ []
  pub end : length ts ≤ n → e ≡ length s → (r.at ≡ e) × (r.word.now ≡ [])
  pub lacks : length ts ≤ n → e < length s → (r.at ≡ lack_at c e) × (r.word.now ≡ [])
