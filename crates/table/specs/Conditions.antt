-- Conditions of which it can be told whether they hold. What a condition says is its `holds`; that it can be told
-- makes the refusal of a step a function of the table, and adds nothing to what is said.
use Rattle.std.specs.Prelude.{◌≡◌, ℕ, ◌≤◌, ◌⊎◌, List, length, ℤ, ◌≤ℤ◌}
use Rattle.std.proofs.Math.Decide.{ℕ_discrete, dec_le}
use Rattle.host.specs.declared.rows.Row.{Row}
use Rattle.host.specs.Tables.{row_at}
use Rattle.host.specs.Names.{IsName}
use Rattle.table.specs.Deciding.{both?, either?, not?, name?, at_most?, in_range?, owns?, owns_another?, link_of_another?, interface_linked?, borne?, joinable?}
use Rattle.table.specs.Climbing.{reaches?}
use Rattle.table.specs.Places.{Owns, OwnsAnother, LinkOfAnother, InterfaceLinked, Borne, Reaches, Joinable}
use Rattle.table.specs.Rules.{InRange}

pub record Condition : Type 1 where
  pub holds : Type 0
  pub told : Dec holds

infixr 40 ◌or◌
infixr 50 ◌and◌
infixl 60 ◌is◌ ◌isnt◌ ◌upto◌
abbrev pub never : Condition
never = record { holds = ⊥; told = no (λ h. h) }

abbrev pub always : Condition
always = record { holds = Unit {0}; told = yes tt }

abbrev pub ◌or◌ : Condition → Condition → Condition
c or d = record { holds = c.holds ⊎ d.holds; told = either? c.told d.told }

abbrev pub ◌and◌ : Condition → Condition → Condition
c and d = record { holds = c.holds × d.holds; told = both? c.told d.told }

abbrev pub isn't : Condition → Condition
isn't c = record { holds = c.holds → ⊥; told = not? c.told }

abbrev pub ◌is◌ : ℕ → ℕ → Condition
m is n = record { holds = m ≡ n; told = ℕ_discrete m n }

abbrev pub ◌isnt◌ : ℕ → ℕ → Condition
m isnt n = isn't (m is n)

-- m is at most n
abbrev pub ◌upto◌ : ℤ → ℤ → Condition
m upto n = record { holds = m ≤ℤ n; told = at_most? m n }

-- the place lies beyond the capacity
abbrev pub past : List Row → ℕ → Condition
past t p = record { holds = length t ≤ p; told = dec_le (length t) p }

abbrev pub name : ℕ → Condition
name n = record { holds = IsName n; told = name? n }

abbrev pub in_range : ℤ → ℤ → ℤ → Condition
in_range lo hi value = record { holds = InRange lo hi value; told = in_range? lo hi value }

abbrev pub started : List Row → ℕ → Condition
started t p = (row_at t p).up is 1

abbrev pub owns : List Row → ℕ → ℕ → Condition
owns t o kind = record { holds = Owns t o kind; told = owns? t o kind }

abbrev pub owns_another : List Row → ℕ → Condition
owns_another t p = record { holds = OwnsAnother t p; told = owns_another? t p }

abbrev pub link_of_another : List Row → ℕ → Condition
link_of_another t p = record { holds = LinkOfAnother t p; told = link_of_another? t p }

abbrev pub interface_linked : List Row → ℕ → Condition
interface_linked t a = record { holds = InterfaceLinked t a; told = interface_linked? t a }

abbrev pub joinable : List Row → ℕ → ℕ → Condition
joinable t a b = record { holds = Joinable t a b; told = joinable? t a b }

abbrev pub reaches : List Row → ℕ → ℕ → Condition
reaches t p g = record { holds = Reaches t p g; told = reaches? t p g }

-- another filled row than that at a has o as owner and bears the name n
abbrev pub borne : List Row → ℕ → ℕ → ℕ → Condition
borne t a o n = record { holds = Borne t (length t) a o n; told = borne? t (length t) a o n }
