-- What stands at the places of a table, and how places lead to one another.
use Rattle.std.specs.Prelude.{◌≡◌, ℕ, zero, suc, ◌<◌, true, ◌≢◌, ◌⊎◌, List, length}
use Rattle.host.specs.declared.rows.Row.{Row}
use Rattle.host.specs.Tables.{row_at}
use Rattle.host.specs.Names.{same_name}

-- kinds
abbrev pub component : ℕ
component = 1

abbrev pub provided : ℕ
provided = 2

abbrev pub required : ℕ
required = 3

abbrev pub parameter : ℕ
parameter = 4

-- no place
abbrev pub none : ℕ
none = 255

abbrev pub kind_at : List Row → ℕ → ℕ
kind_at t p = (row_at t p).kind

abbrev pub name_at : List Row → ℕ → ℕ
name_at t p = (row_at t p).name

abbrev pub owner_at : List Row → ℕ → ℕ
owner_at t p = (row_at t p).owner

abbrev pub link_at : List Row → ℕ → ℕ
link_at t p = (row_at t p).link

abbrev pub Filled : List Row → ℕ → Type 0
Filled t p = kind_at t p ≢ 0

abbrev pub Started : List Row → ℕ → Type 0
Started t p = (row_at t p).up ≡ 1

-- the place that n climbs from owner to owner lead to
abbrev pub climb : List Row → ℕ → ℕ → ℕ
climb t zero p = p
climb t (suc n) p = climb t n (owner_at t p)

-- going from owner to owner, from p on, comes to g; p itself counts
abbrev pub Reaches : List Row → ℕ → ℕ → Type 0
Reaches t p g = (n : ℕ) × (climb t n p ≡ g)

-- some place of the table
abbrev pub Somewhere : List Row → (ℕ → Type 0) → Type 0
Somewhere t P = (q : ℕ) × (q < length t) × P q

-- some row of a kind has o as owner
abbrev pub Owns : List Row → ℕ → ℕ → Type 0
Owns t o kind = Somewhere t (λ q. (kind_at t q ≡ kind) × (owner_at t q ≡ o))

-- another row has p as owner
abbrev pub OwnsAnother : List Row → ℕ → Type 0
OwnsAnother t p = Somewhere t (λ q. (q ≢ p) × (owner_at t q ≡ p))

-- another row has p as link
abbrev pub LinkOfAnother : List Row → ℕ → Type 0
LinkOfAnother t p = Somewhere t (λ q. (q ≢ p) × (link_at t q ≡ p))

-- q is an interface of a, and has a link or is another's link
abbrev pub LinkedInterface : List Row → ℕ → ℕ → Type 0
LinkedInterface t a q = (owner_at t q ≡ a) × ((kind_at t q ≡ provided) ⊎ (kind_at t q ≡ required)) × ((link_at t q ≢ none) ⊎ LinkOfAnother t q)

-- an interface of a has a link or is another's link
abbrev pub InterfaceLinked : List Row → ℕ → Type 0
InterfaceLinked t a = Somewhere t (LinkedInterface t a)

-- the row at q is filled, has o as owner and bears the name n
pub record Bears (t : List Row) (q o n : ℕ) : Type 0 where
  pub filled : Filled t q
  pub owned : owner_at t q ≡ o
  pub named : same_name (name_at t q) n ≡ true

-- some place below `end` other than p bears the name n under the owner o
abbrev pub Borne : List Row → ℕ → ℕ → ℕ → ℕ → Type 0
Borne t end p o n = (q : ℕ) × (q < end) × ((q ≢ p) × Bears t q o n)

-- the owners of a and b differ and have one same component as owner
pub record Joinable (t : List Row) (a b : ℕ) : Type 0 where
  pub differ : owner_at t a ≢ owner_at t b
  pub same : owner_at t (owner_at t a) ≡ owner_at t (owner_at t b)
  pub inside : kind_at t (owner_at t (owner_at t a)) ≡ component
