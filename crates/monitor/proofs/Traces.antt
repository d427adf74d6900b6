-- `absorb` at each variant of a trace.
use Rattle.std.proofs.Common.{◌≡◌, Box, sym, ap, ◌∙◌, ap₂}
use Rattle.scale.specs.Laws.{Ops}
use Rattle.monitor.specs.Monitor.{Set, with, absorb}
use Rattle.ftpl.specs.declared.formulas.Slot.{Slot}
use Rattle.ftpl.specs.declared.formulas.Trace.{Trace, Both, Either}
use Rattle.ftpl.specs.declared.formulas.Trace.TheVariants.{At}
use Rattle.std.specs.declared.alloc.Global.{Global}

module _ {V : Type 0} (s : Ops V) where
  pub at_made : {t : Trace} {j : Slot} (w : Set → V) {r : Set → V} → t ≡ At j → r ≡ (λ c. w (with j c)) → r ≡ absorb s t w
  at_made w is e = e ∙ sym (ap (λ u. absorb s u w) is)

  pub and_made : {t a' b' : Trace} {a b : Box Trace Global} (w : Set → V) {p q r : Set → V} → t ≡ Both a b → a' ≡ a.value → b' ≡ b.value → p ≡ absorb s a' w → q ≡ absorb s b' w → r ≡ (λ c. s.both (p c) (q c)) → r ≡ absorb s t w
  and_made w is e f g h k =
      k ∙ ap₂ {C = Set → V} (λ (m n : Set → V) c. s.both (m c) (n c)) (g ∙ ap (λ u. absorb s u w) e) (h ∙ ap (λ u. absorb s u w) f)
      ∙ sym (ap (λ u. absorb s u w) is)

  pub or_made : {t a' b' : Trace} {a b : Box Trace Global} (w : Set → V) {q r : Set → V} → t ≡ Either a b → a' ≡ a.value → b' ≡ b.value → q ≡ absorb s b' w → r ≡ absorb s a' q → r ≡ absorb s t w
  or_made w is e f h k =
      k ∙ ap₂ {C = Set → V} (λ (u : Trace) (m : Set → V). absorb s u m) e (h ∙ ap (λ u. absorb s u w) f)
      ∙ sym (ap (λ u. absorb s u w) is)
