-- That no standing condition is broken.
use Rattle.std.proofs.Common.{◌≡◌, ℕ, zero, suc, Bool, true, false, not, cond, List, [], ◌∷◌, Some, None, sym, refl, ap, ◌∙◌, arith}
use Rattle.scale.specs.YesNo.{yes_no}
use Rattle.host.specs.declared.rows.Row.{Row}
use Rattle.ftpl.specs.Properties.{numbered_value, first_broken, Met}
use Rattle.ftpl.specs.declared.properties.Property.{Property}

-- none is broken just where all are met
pub none_broken : (t : List Row) (ps : List Property) (ns : List ℕ) → first_broken t ps ns ≡ None → Met t ps ns
none_broken t ps [] e = λ k h. absurd (omega arith)
none_broken t ps (n ∷ ns) e = by (numbered_value yes_no t ps n) refl (none_broken t ps ns)
  where
    by : (b : Bool) → numbered_value yes_no t ps n ≡ b → (first_broken t ps ns ≡ None → Met t ps ns) → Met t ps (n ∷ ns)
    by true q rest zero h = q
    by true q rest (suc k) h = rest (sym (ap (λ b. cond (not b) (Some n) (first_broken t ps ns)) q) ∙ e) k (omega arith)
    by false q rest k h = let z : ◌≡◌ {A = ℕ} 0 1 = cc (sym (ap (λ b. cond (not b) (Some n) (first_broken t ps ns)) q) ∙ e) in absurd (omega arith)

pub met_none : (t : List Row) (ps : List Property) (ns : List ℕ) → Met t ps ns → first_broken t ps ns ≡ None
met_none t ps [] m = refl
met_none t ps (n ∷ ns) m = ap (λ b. cond (not b) (Some n) (first_broken t ps ns)) (m 0 (omega arith)) ∙ met_none t ps ns (λ k h. m (suc k) (omega arith))
