-- Names: 1 to 8 ASCII letters or digits in 64 bits, the first byte most significant, zero bytes behind.
use Rattle.std.specs.Prelude.{◌≡◌, ℕ, ◌+◌, ◌*◌, ◌/◌, ◌%◌, ◌<◌, ◌≤◌, Bool, true, cond, ◌&&◌, ◌||◌, List, [], ◌∷◌, length, ◌==◌, nat_le, slice_index, refl}
use Rattle.std.proofs.Common.{sym, ◌∙◌, eq-eqb, eqb-true}
use Rattle.std.specs.List.{AllByRecursion}

-- an ASCII letter or digit
abbrev pub letter_or_digit : ℕ → Bool
letter_or_digit b = (nat_le 48 b && nat_le b 57) || ((nat_le 65 b && nat_le b 90) || (nat_le 97 b && nat_le b 122))

-- bytes that may stand as a name
pub record NameForm (bs : List ℕ) : Type 0 where
  pub some : 0 < length bs
  pub few : length bs ≤ 8
  pub plain : AllByRecursion (λ b. letter_or_digit b ≡ true) bs

-- eight bytes in 64 bits, the first most significant; bytes that are lacking count as 0
abbrev pub packed : List ℕ → ℕ
packed bs =
    slice_index bs 0 * 72057594037927936 + slice_index bs 1 * 281474976710656 + slice_index bs 2 * 1099511627776 + slice_index bs 3 * 4294967296 + slice_index bs 4 * 16777216 + slice_index bs 5 * 65536 + slice_index bs 6 * 256 + slice_index bs 7

-- 64 bits that hold a name
abbrev pub IsName : ℕ → Type 0
IsName n = (bs : List ℕ) × NameForm bs × (n ≡ packed bs)

-- the eight bytes of 64 bits
abbrev pub bytes_of : ℕ → List ℕ
bytes_of n = n / 72057594037927936 % 256 ∷ n / 281474976710656 % 256 ∷ n / 1099511627776 % 256 ∷ n / 4294967296 % 256 ∷ n / 16777216 % 256 ∷ n / 65536 % 256 ∷ n / 256 % 256 ∷ n % 256 ∷ []

-- the bytes before the first zero byte
abbrev pub up_to_zero : List ℕ → List ℕ
up_to_zero [] = []
up_to_zero (b ∷ bs) = cond (b == 0) [] (b ∷ up_to_zero bs)

-- how a name is written
abbrev pub name_bytes : ℕ → List ℕ
name_bytes n = up_to_zero (bytes_of n)

-- whether two names are one name; what is known of it are the three laws below
unfoldable pub same_name : ℕ → ℕ → Bool
same_name a b = a == b

pub same_name_refl : (a : ℕ) → same_name a a ≡ true
unfolding same_name
same_name_refl a = eq-eqb a a refl

pub same_name_sym : (a b : ℕ) → same_name a b ≡ true → same_name b a ≡ true
unfolding same_name
same_name_sym a b e = eq-eqb b a (sym (eqb-true a b e))

pub same_name_trans : (a b c : ℕ) → same_name a b ≡ true → same_name b c ≡ true → same_name a c ≡ true
unfolding same_name
same_name_trans a b c d e = eq-eqb a c (eqb-true a b d ∙ eqb-true b c e)
