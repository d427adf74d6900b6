-- Why a step is refused: the first that holds of eight conditions, in a fixed order.
use Rattle.std.specs.Prelude.{List, [], ◌∷◌, Some, None, Option}
use Rattle.host.specs.declared.rows.Row.{Row}
use Rattle.host.specs.declared.refusals.Refusal.{Refusal}
use Rattle.host.specs.declared.refusals.Refusal.TheVariants.{BeyondCapacity, WrongRow, OutOfRange, Tied, Running, InUse, OwnerLoop, NameTaken}
use Rattle.host.specs.Tables.{row_at}
use Rattle.table.specs.declared.steps.Step.{Step}
use Rattle.table.specs.declared.steps.Step.TheVariants.{New, Provide, Require, Parameter, Delete, Add, Remove, Bind, Unbind, Start, Stop, Set}
use Rattle.table.specs.Conditions.{Condition, never, always, ◌or◌, ◌and◌, isn't, ◌is◌, ◌isnt◌, ◌upto◌, past, name, in_range, started, owns, owns_another, link_of_another, interface_linked, joinable, reaches, borne}
use Rattle.table.specs.Places.{component, provided, required, parameter, none, kind_at, name_at, owner_at, link_at}

-- a place that the step names lies beyond the capacity
abbrev pub beyond : List Row → Step → Condition
beyond t (New a n) = past t a
beyond t (Provide a c n) = past t a or past t c
beyond t (Require a c n) = past t a or past t c
beyond t (Parameter a c n lo hi v) = past t a or past t c
beyond t (Delete a) = past t a
beyond t (Add a b) = past t a or past t b
beyond t (Remove a) = past t a
beyond t (Bind a b) = past t a or past t b
beyond t (Unbind a) = past t a
beyond t (Start a) = past t a
beyond t (Stop a) = past t a
beyond t (Set a v) = past t a

-- the rows are as the step needs them; a place is empty where its kind is 0
abbrev pub needed : List Row → Step → Condition
needed t (New a n) = kind_at t a is 0
needed t (Provide a c n) = kind_at t a is 0 and kind_at t c is component
needed t (Require a c n) = kind_at t a is 0 and kind_at t c is component
needed t (Parameter a c n lo hi v) = kind_at t a is 0 and kind_at t c is component
needed t (Delete a) = kind_at t a isnt 0
needed t (Add a b) = kind_at t a is component and kind_at t b is component
needed t (Remove a) = kind_at t a is component
needed t (Bind a b) = kind_at t a is provided and kind_at t b is required
needed t (Unbind a) = kind_at t a is provided
needed t (Start a) = kind_at t a is component
needed t (Stop a) = kind_at t a is component
needed t (Set a v) = kind_at t a is parameter

abbrev pub wrong_rows : List Row → Step → Condition
wrong_rows t s = isn't (needed t s)

-- the name has the form of a name, and the numbers are in range
abbrev pub sound : List Row → Step → Condition
sound t (New a n) = name n
sound t (Provide a c n) = name n
sound t (Require a c n) = name n
sound t (Parameter a c n lo hi v) = name n and in_range lo hi v
sound t (Delete a) = always
sound t (Add a b) = always
sound t (Remove a) = always
sound t (Bind a b) = always
sound t (Unbind a) = always
sound t (Start a) = always
sound t (Stop a) = always
sound t (Set a v) = (row_at t a).lo upto v and v upto (row_at t a).hi

abbrev pub out_of_range : List Row → Step → Condition
out_of_range t s = isn't (sound t s)

-- what shall be joined is joined already or may not be joined, or what shall be parted is not joined
abbrev pub tied : List Row → Step → Condition
tied t (New a n) = never
tied t (Provide a c n) = never
tied t (Require a c n) = never
tied t (Parameter a c n lo hi v) = owns t c component
tied t (Delete a) = never
tied t (Add a b) = owner_at t a isnt none or owns t b parameter
tied t (Remove a) = owner_at t a is none
tied t (Bind a b) = link_at t a isnt none or isn't (joinable t a b)
tied t (Unbind a) = link_at t a is none
tied t (Start a) = never
tied t (Stop a) = never
tied t (Set a v) = never

-- a component that has to be stopped is started
abbrev pub running : List Row → Step → Condition
running t (New a n) = never
running t (Provide a c n) = started t c
running t (Require a c n) = started t c
running t (Parameter a c n lo hi v) = started t c
running t (Delete a) = started t a or kind_at t a isnt component and started t (owner_at t a)
running t (Add a b) = started t b
running t (Remove a) = started t (owner_at t a)
running t (Bind a b) = started t (owner_at t b)
running t (Unbind a) = started t (owner_at t (link_at t a))
running t (Start a) = never
running t (Stop a) = never
running t (Set a v) = never

-- other rows lean on the row that shall go
abbrev pub in_use : List Row → Step → Condition
in_use t (New a n) = never
in_use t (Provide a c n) = never
in_use t (Require a c n) = never
in_use t (Parameter a c n lo hi v) = never
in_use t (Delete a) = owns_another t a or link_of_another t a or link_at t a isnt none or kind_at t a is component and owner_at t a isnt none
in_use t (Add a b) = never
in_use t (Remove a) = interface_linked t a
in_use t (Bind a b) = never
in_use t (Unbind a) = never
in_use t (Start a) = never
in_use t (Stop a) = never
in_use t (Set a v) = never

-- the component that shall be owned is its owner, or owns it through any number of owners
abbrev pub loop : List Row → Step → Condition
loop t (New a n) = never
loop t (Provide a c n) = never
loop t (Require a c n) = never
loop t (Parameter a c n lo hi v) = never
loop t (Delete a) = never
loop t (Add a b) = reaches t b a
loop t (Remove a) = never
loop t (Bind a b) = never
loop t (Unbind a) = never
loop t (Start a) = never
loop t (Stop a) = never
loop t (Set a v) = never

-- another filled row with the owner that a shall have bears the name that a shall have
abbrev pub taken : List Row → Step → Condition
taken t (New a n) = borne t a none n
taken t (Provide a c n) = borne t a c n
taken t (Require a c n) = borne t a c n
taken t (Parameter a c n lo hi v) = borne t a c n
taken t (Delete a) = never
taken t (Add a b) = borne t a b (name_at t a)
taken t (Remove a) = borne t a none (name_at t a)
taken t (Bind a b) = never
taken t (Unbind a) = never
taken t (Start a) = never
taken t (Stop a) = never
taken t (Set a v) = never

-- where a condition holds, its refusal; else what follows
abbrev pub refuse_if : {P : Type 0} → Dec P → Refusal → Option Refusal → Option Refusal
refuse_if (yes h) e later = Some e
refuse_if (no h) e later = later

-- the first refusal whose condition holds
unfoldable pub first : List (Condition × Refusal) → Option Refusal
first [] = None
first ((c, e) ∷ rest) = refuse_if c.told e (first rest)

-- why a step is refused, if it is
unfoldable pub refusal : List Row → Step → Option Refusal
refusal t s =
    first (
    (beyond t s, BeyondCapacity) ∷
    (wrong_rows t s, WrongRow) ∷
    (out_of_range t s, OutOfRange) ∷
    (tied t s, Tied) ∷
    (running t s, Running) ∷
    (in_use t s, InUse) ∷
    (loop t s, OwnerLoop) ∷
    (taken t s, NameTaken) ∷
    [])
