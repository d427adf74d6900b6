-- What a step does to a table.
use Rattle.std.specs.Prelude.{ℕ, List, ℤ, pos, Some, None, Ok, Err, Option, Result, slice_set}
use Rattle.host.specs.declared.rows.Row.{Row}
use Rattle.host.specs.declared.refusals.Refusal.{Refusal}
use Rattle.host.specs.Tables.{row_at, empty_row}
use Rattle.table.specs.declared.steps.Step.{Step}
use Rattle.table.specs.declared.steps.Step.TheVariants.{New, Provide, Require, Parameter, Delete, Add, Remove, Bind, Unbind, Start, Stop, Set}
use Rattle.table.specs.Places.{component, provided, required, parameter, none}
use Rattle.table.specs.Refusals.{refusal}

-- a new row of a kind, with neither link nor numbers
abbrev pub fresh : ℕ → ℕ → ℕ → Row
fresh kind owner n = record { kind = kind; name = n; owner = owner; link = none; up = 0; lo = pos 0; hi = pos 0; value = pos 0 }

-- a row with another owner, link, state or value
abbrev pub with_owner : ℕ → Row → Row
with_owner o r = record { kind = r.kind; name = r.name; owner = o; link = r.link; up = r.up; lo = r.lo; hi = r.hi; value = r.value }

abbrev pub with_link : ℕ → Row → Row
with_link l r = record { kind = r.kind; name = r.name; owner = r.owner; link = l; up = r.up; lo = r.lo; hi = r.hi; value = r.value }

abbrev pub with_up : ℕ → Row → Row
with_up u r = record { kind = r.kind; name = r.name; owner = r.owner; link = r.link; up = u; lo = r.lo; hi = r.hi; value = r.value }

abbrev pub with_value : ℤ → Row → Row
with_value v r = record { kind = r.kind; name = r.name; owner = r.owner; link = r.link; up = r.up; lo = r.lo; hi = r.hi; value = v }

-- the place whose row a step changes
abbrev pub target : Step → ℕ
target (New a n) = a
target (Provide a c n) = a
target (Require a c n) = a
target (Parameter a c n lo hi v) = a
target (Delete a) = a
target (Add a b) = a
target (Remove a) = a
target (Bind a b) = a
target (Unbind a) = a
target (Start a) = a
target (Stop a) = a
target (Set a v) = a

-- the row that a step puts there, in place of the row r
abbrev pub row_after : Step → Row → Row
row_after (New a n) r = fresh component none n
row_after (Provide a c n) r = fresh provided c n
row_after (Require a c n) r = fresh required c n
row_after (Parameter a c n lo hi v) r = record { kind = parameter; name = n; owner = c; link = none; up = 0; lo = lo; hi = hi; value = v }
row_after (Delete a) r = empty_row
row_after (Add a b) r = with_owner b r
row_after (Remove a) r = with_owner none r
row_after (Bind a b) r = with_link b r
row_after (Unbind a) r = with_link none r
row_after (Start a) r = with_up 1 r
row_after (Stop a) r = with_up 0 r
row_after (Set a v) r = with_value v r

-- the table after a step
abbrev pub effect : List Row → Step → List Row
effect t s = slice_set t (target s) (row_after s (row_at t (target s)))

abbrev pub unless_refused : Option Refusal → List Row → List Row → List Row
unless_refused None t u = u
unless_refused (Some e) t u = t

-- the table after a try: the step's effect, or the table as it was where the step is refused
abbrev pub stepped : List Row → Step → List Row
stepped t s = unless_refused (refusal t s) t (effect t s)

abbrev pub as_answer : Option Refusal → Result Unit Refusal
as_answer None = Ok tt
as_answer (Some e) = Err e

-- what a try answers
abbrev pub answer : List Row → Step → Result Unit Refusal
answer t s = as_answer (refusal t s)
