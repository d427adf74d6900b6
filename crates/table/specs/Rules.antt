-- The ten rules of a lawful table.
use Rattle.std.specs.Prelude.{◌≡◌, ℕ, ◌<◌, ◌≤◌, ◌≢◌, ◌⊎◌, List, ℤ, pos, negsuc, ◌≤ℤ◌, Some, None, Ok, Err, Option, Result}
use Rattle.host.specs.declared.rows.Row.{Row}
use Rattle.host.specs.declared.refusals.Rule.{Rule}
use Rattle.host.specs.declared.refusals.Rule.TheVariants.{KnownKind, OwnFields, NameForm, OwnerIsComponent, ParameterOwner, Range, LinkEnd, LinkOwners, OwnersEnd, OwnName}
use Rattle.host.specs.Tables.{row_at, empty_row}
use Rattle.host.specs.Names.{IsName}
use Rattle.host.specs.Numbers.{rule_number}
use Rattle.table.specs.declared.breaches.Breach.{Breach}
use Rattle.table.specs.Places.{component, provided, required, parameter, none, kind_at, name_at, owner_at, link_at, Filled, Reaches, Owns, Bears, Joinable}

-- the kind is 0 to 4, and a row of kind 0 is the empty row
pub record KindKnown (r : Row) : Type 0 where
  pub known : r.kind ≤ 4
  pub empty : r.kind ≡ 0 → r ≡ empty_row

-- link, range, value and up only where the kind has them
pub record FieldsFit (r : Row) : Type 0 where
  pub link : r.kind ≢ provided → r.link ≡ none
  pub lo : r.kind ≢ parameter → r.lo ≡ pos 0
  pub hi : r.kind ≢ parameter → r.hi ≡ pos 0
  pub value : r.kind ≢ parameter → r.value ≡ pos 0
  pub up : (r.up ≡ 0) ⊎ ((r.kind ≡ component) × (r.up ≡ 1))

-- −1,000,000 ≤ lo ≤ value ≤ hi ≤ 1,000,000
pub record InRange (lo hi value : ℤ) : Type 0 where
  pub low : negsuc 999999 ≤ℤ lo
  pub above : lo ≤ℤ value
  pub below : value ≤ℤ hi
  pub high : hi ≤ℤ pos 1000000

-- R1: the kind is 0 to 4, and a row of kind 0 is the empty row
abbrev pub R1 : List Row → ℕ → Type 0
R1 t p = KindKnown (row_at t p)

-- R2: link is none except in a provided interface; lo, hi, value are 0 except in a parameter; up is 0, or 1 in a component
abbrev pub R2 : List Row → ℕ → Type 0
R2 t p = FieldsFit (row_at t p)

-- R3: a filled row's name has the form of a name
abbrev pub R3 : List Row → ℕ → Type 0
R3 t p = Filled t p → IsName (name_at t p)

-- R4: a filled row's owner is a component; a component may have none
abbrev pub R4 : List Row → ℕ → Type 0
R4 t p = Filled t p → (kind_at t (owner_at t p) ≡ component) ⊎ ((kind_at t p ≡ component) × (owner_at t p ≡ none))

-- R5: a parameter's owner owns no component
abbrev pub R5 : List Row → ℕ → Type 0
R5 t p = kind_at t p ≡ parameter → Owns t (owner_at t p) component → ⊥

-- R6: −1,000,000 ≤ lo ≤ value ≤ hi ≤ 1,000,000 in a parameter
abbrev pub R6 : List Row → ℕ → Type 0
R6 t p = kind_at t p ≡ parameter → InRange (row_at t p).lo (row_at t p).hi (row_at t p).value

-- R7: a link leads to a required interface
abbrev pub R7 : List Row → ℕ → Type 0
R7 t p = link_at t p ≢ none → kind_at t (link_at t p) ≡ required

-- R8: the owners of two linked interfaces differ and have one same component as owner
abbrev pub R8 : List Row → ℕ → Type 0
R8 t p = link_at t p ≢ none → Joinable t p (link_at t p)

-- R9: going from owner to owner ends at none
abbrev pub R9 : List Row → ℕ → Type 0
R9 t p = Reaches t p none

-- R10: no lower filled place with the same owner has the same name
abbrev pub R10 : List Row → ℕ → Type 0
R10 t p = Filled t p → (q : ℕ) → q < p → Bears t q (owner_at t p) (name_at t p) → ⊥

-- a table keeps a rule at a place
abbrev pub Keeps : Rule → List Row → ℕ → Type 0
Keeps KnownKind = R1
Keeps OwnFields = R2
Keeps NameForm = R3
Keeps OwnerIsComponent = R4
Keeps ParameterOwner = R5
Keeps Range = R6
Keeps LinkEnd = R7
Keeps LinkOwners = R8
Keeps OwnersEnd = R9
Keeps OwnName = R10

-- every rule is kept at a place
abbrev pub KeepsAll : List Row → ℕ → Type 0
KeepsAll t p = (k : Rule) → Keeps k t p

-- every rule is kept at every place
pub record Lawful (t : List Row) : Type 0 where
  pub keeps : (p : ℕ) → KeepsAll t p

-- k is the lowest rule that is broken at p
pub record LowestBroken (t : List Row) (p : ℕ) (k : Rule) : Type 0 where
  pub broken : Keeps k t p → ⊥
  pub lowest : (j : Rule) → rule_number j < rule_number k → Keeps j t p

-- what is found wrong at a place: nothing, or the lowest rule that is broken there
abbrev pub WrongAt : List Row → ℕ → Option Rule → Type 0
WrongAt t p None = KeepsAll t p
WrongAt t p (Some k) = LowestBroken t p k

-- b has the lowest place at which a rule is broken, and the lowest rule broken there
pub record FirstBreach (t : List Row) (b : Breach) : Type 0 where
  pub here : LowestBroken t b.place b.rule
  pub before : (q : ℕ) → q < b.place → KeepsAll t q

-- what a check of a table answers
abbrev pub Checked : List Row → Result Unit Breach → Type 0
Checked t (Ok u) = Lawful t
Checked t (Err b) = FirstBreach t b
