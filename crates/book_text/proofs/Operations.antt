-- What is known of a test's operands once they are read.
use Rattle.std.proofs.Common.{◌≡◌, Bool, true, false, ℤ, refl}
use Rattle.std.specs.Fmt.{signed_decimal}
use Rattle.host.specs.Names.{NameForm}
use Rattle.book_text.specs.Rules.{Text, Within}
use Rattle.book_text.specs.States.{is_name, is_number}
use Rattle.book_text.proofs.Lexical.{is_name_lem, is_number_lem}

refuted : (b : Bool) → (b ≡ true → ⊥) → b ≡ false
refuted true h = absurd (h refl)
refuted false h = refl

pub no_name : (t : Text) → (NameForm t → ⊥) → is_name t ≡ false
no_name t h = refuted (is_name t) (λ e. h (is_name_lem t e))

pub no_number : (t : Text) → ((z : ℤ) → Within z → t ≡ signed_decimal z → ⊥) → is_number t ≡ false
no_number t h = refuted (is_number t) (λ e. let r = is_number_lem t e in h r.0 r.1 r.2)
