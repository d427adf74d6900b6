-- Words and what ends them are cut apart in one way only.
use Rattle.std.proofs.Common.{◌≡◌, ℕ, suc, ◌^◌, ◌<◌, ◌≤◌, Bool, true, false, cond, not, ◌&&◌, eqb, List, [], ◌∷◌, ◌++◌, ℤ, pos, negsuc, ◌≤ℤ◌, codes, decimal, sym, refl, ◌∙◌, subst, true≢false, append_assoc, arith, ne_eqb}
use lib.Signed.{mag}
use Rattle.std.specs.List.{AllByRecursion, flat_map}
use Rattle.std.specs.Fmt.{signed_decimal}
use Rattle.std.proofs.lemmas.Fmt.{decimal_by_steps}
use Rattle.std.proofs.ByRecursion.{All-append, All-weaker}
use Rattle.std.proofs.lemmas.Bool.{or_from, and_parts, not-true}
use Rattle.host.specs.Names.{IsName, letter_or_digit, name_bytes}
use Rattle.host.proofs.Spelled.{plain_range, name_form}
use Rattle.table_text.specs.declared.lines.Key.{Key}
use Rattle.table_text.specs.declared.lines.Key.TheVariants.{Place, Kind, Name, Owner, Link, Up, Lo, Hi, Value}
use Rattle.table_text.specs.declared.lines.Line.{Line}
use Rattle.table_text.specs.Lines.{kind_text, place_text, key_text, value_text, ending, word, ended}
use Rattle.table_text.specs.Texts.{parts, Word, Ended}
use Rattle.table_text.specs.Keys.{Fits}
use Rattle.numerals.proofs.Spelling.{million_fits}

-- a word and its end, cut from one text, are the same
pub cut : (a b x y : List ℕ) → Word a → Word b → Ended x → Ended y → a ++ x ≡ b ++ y → (a ≡ b) × (x ≡ y)
cut [] [] x y p q f g e = (refl, e)
cut [] (b ∷ bs) x y p q f g e = absurd (true≢false (sym (subst Ended e f) ∙ q.0))
cut (a ∷ a') [] x y p q f g e = absurd (true≢false (sym (subst Ended (sym e) g) ∙ p.0))
cut (a ∷ a') (b ∷ bs) x y p q f g e =
    let h : a ≡ b = cc in
    let t : a' ++ x ≡ bs ++ y = cc in
    let r = cut a' bs x y p.1 q.1 f g t in
    (λ i. h i ∷ r.0 i, r.1)

-- a word, by a test that computes
abbrev plainly : List ℕ → Bool
plainly [] = true
plainly (b ∷ bs) = not (parts b) && plainly bs

word_from : (w : List ℕ) → plainly w ≡ true → Word w
word_from [] h = tt
word_from (b ∷ bs) h = let p = and_parts (not (parts b)) (plainly bs) h in (not-true (parts b) p.0, word_from bs p.1)

plain_byte : (b : ℕ) → 32 < b → parts b ≡ false
plain_byte b h = or_from (eqb b 32) (eqb b 10) (ne_eqb b 32 (λ e. omega arith)) (ne_eqb b 10 (λ e. omega arith))

pub digits : (n : ℕ) → n < 2 ^ 64 → AllByRecursion (λ b. (47 < b) × (b < 58)) (decimal n)
digits = decimal_by_steps (λ n ds. AllByRecursion (λ b. (47 < b) × (b < 58)) ds) (λ n h. ((omega arith, omega arith), tt)) (λ n ds h p. All-append (λ b. (47 < b) × (b < 58)) ds _ p ((omega arith, omega arith), tt))

pub word_decimal : (n : ℕ) → n < 2 ^ 64 → Word (decimal n)
word_decimal n h = All-weaker (λ b. (47 < b) × (b < 58)) (λ b. parts b ≡ false) (λ b p. plain_byte b (omega (arith, p.0))) (decimal n) (digits n h)

pub word_signed : (z : ℤ) → mag z < 2 ^ 63 → Word (signed_decimal z)
word_signed (pos n) h = word_decimal n (omega arith)
word_signed (negsuc n) h = (refl, word_decimal (suc n) (omega arith))

pub word_name : (n : ℕ) → IsName n → Word (name_bytes n)
word_name n p = All-weaker (λ b. letter_or_digit b ≡ true) (λ b. parts b ≡ false) (λ b q. plain_byte b (omega (arith, (plain_range b q).0))) (name_bytes n) (name_form n p).0.plain

cond_word : (b : Bool) (x y : List ℕ) → Word x → (b ≡ false → Word y) → Word (cond b x y)
cond_word true x y p q = p
cond_word false x y p q = q refl

word_place : (p : ℕ) → p ≤ 255 → Word (place_text p)
word_place p h = cond_word (eqb p 255) (codes "none") (decimal p) (word_from (codes "none") refl) (λ e. word_decimal p (omega arith))

word_kind : (k : ℕ) → k ≤ 4 → Word (kind_text k)
word_kind k h =
    cond_word (eqb k 1) (codes "comp") _ (word_from (codes "comp") refl)
    (λ e. cond_word (eqb k 2) (codes "prov") _ (word_from (codes "prov") refl)
    (λ e. cond_word (eqb k 3) (codes "req") _ (word_from (codes "req") refl)
    (λ e. cond_word (eqb k 4) (codes "par") _ (word_from (codes "par") refl) (λ e. word_decimal k (omega arith)))))

key_word : (k : Key) → Word (key_text k)
key_word Place = word_from (codes "place=") refl
key_word Kind = word_from (codes "kind=") refl
key_word Name = word_from (codes "name=") refl
key_word Owner = word_from (codes "owner=") refl
key_word Link = word_from (codes "link=") refl
key_word Up = word_from (codes "up=") refl
key_word Lo = word_from (codes "lo=") refl
key_word Hi = word_from (codes "hi=") refl
key_word Value = word_from (codes "value=") refl

word_million : (z : ℤ) → (negsuc 999999 ≤ℤ z) × (z ≤ℤ pos 1000000) → Word (signed_decimal z)
word_million z p = word_signed z (omega (arith, (million_fits z p.0 p.1).sfits))

value_word : {next : ℕ} {l : Line} → Fits next l → (k : Key) → Word (value_text k l)
value_word {next} {l} f Place = word_decimal l.place (omega (arith, f.inside))
value_word {next} {l} f Kind = word_kind l.row.kind f.row.kind
value_word {next} {l} f Name = word_name l.row.name f.row.name
value_word {next} {l} f Owner = word_place l.row.owner f.row.owner
value_word {next} {l} f Link = word_place l.row.link f.row.link
value_word {next} {l} f Up = word_decimal l.row.up (omega (arith, f.row.up))
value_word {next} {l} f Lo = word_million l.row.lo f.row.lo
value_word {next} {l} f Hi = word_million l.row.hi f.row.hi
value_word {next} {l} f Value = word_million l.row.value f.row.value

pub line_word : {next : ℕ} {l : Line} → Fits next l → (k : Key) → Word (word l k)
unfolding word
line_word {next} {l} f k = All-append (λ b. parts b ≡ false) (key_text k) (value_text k l) (key_word k) (value_word f k)

pub ending_parts : (k : Key) → parts (ending k) ≡ true
ending_parts Place = refl
ending_parts Kind = refl
ending_parts Name = refl
ending_parts Owner = refl
ending_parts Link = refl
ending_parts Up = refl
ending_parts Lo = refl
ending_parts Hi = refl
ending_parts Value = refl

-- a word of a line, and what follows it
pub word_on : (l : Line) (k : Key) (ks : List Key) (s : List ℕ) → flat_map (ended l) (k ∷ ks) ++ s ≡ word l k ++ (ending k ∷ (flat_map (ended l) ks ++ s))
word_on l k ks s = append_assoc (ended l k) (flat_map (ended l) ks) s ∙ append_assoc (word l k) (ending k ∷ []) (flat_map (ended l) ks ++ s)

module _ {n m : ℕ} {e l : Line} (fe : Fits n e) (fl : Fits m l) where
  -- two lines that begin one text have the same word there
  pub same_word : (k : Key) (ks js : List Key) (r s : List ℕ) → flat_map (ended e) (k ∷ ks) ++ r ≡ flat_map (ended l) (k ∷ js) ++ s → (word e k ≡ word l k) × (flat_map (ended e) ks ++ r ≡ flat_map (ended l) js ++ s)
  same_word k ks js r s q =
      let c = cut (word e k) (word l k) _ _ (line_word fe k) (line_word fl k) (ending_parts k) (ending_parts k) (sym (word_on e k ks r) ∙ q ∙ word_on l k js s) in
      let t = c.1 in
      (c.0, cc)

  -- what follows the words of some keys, in two lines that begin one text
  pub strip : (ks rest : List Key) (r s : List ℕ) → flat_map (ended e) (ks ++ rest) ++ r ≡ flat_map (ended l) ks ++ s → flat_map (ended e) rest ++ r ≡ s
  strip [] rest r s q = q
  strip (k ∷ ks) rest r s q = strip ks rest r s (same_word k (ks ++ rest) ks r s q).1
