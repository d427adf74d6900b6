-- The numbers by which rules and refusals are known.
use Rattle.std.specs.Prelude.{ℕ}
use Rattle.host.specs.declared.refusals.Rule.{Rule}
use Rattle.host.specs.declared.refusals.Rule.TheVariants.{KnownKind, OwnFields, NameForm, OwnerIsComponent, ParameterOwner, Range, LinkEnd, LinkOwners, OwnersEnd, OwnName}
use Rattle.host.specs.declared.refusals.Refusal.{Refusal}
use Rattle.host.specs.declared.refusals.Refusal.TheVariants.{TooSmall, BeyondCapacity, WrongRow, AlreadyOpen, NoneOpen, Spoiled, PathFull, NoSuch, TooManySteps, OutOfRange, NameTaken, Running, Tied, InUse, OwnerLoop, TableWord, BookWord, Unlawful, ConditionBroken, NotLoaded}

abbrev pub rule_number : Rule → ℕ
rule_number KnownKind = 1
rule_number OwnFields = 2
rule_number NameForm = 3
rule_number OwnerIsComponent = 4
rule_number ParameterOwner = 5
rule_number Range = 6
rule_number LinkEnd = 7
rule_number LinkOwners = 8
rule_number OwnersEnd = 9
rule_number OwnName = 10

abbrev pub refusal_number : Refusal → ℕ
refusal_number TooSmall = 1
refusal_number BeyondCapacity = 2
refusal_number WrongRow = 3
refusal_number AlreadyOpen = 4
refusal_number NoneOpen = 5
refusal_number Spoiled = 6
refusal_number PathFull = 7
refusal_number NoSuch = 8
refusal_number TooManySteps = 9
refusal_number OutOfRange = 10
refusal_number NameTaken = 11
refusal_number Running = 12
refusal_number Tied = 13
refusal_number InUse = 14
refusal_number OwnerLoop = 15
refusal_number (TableWord line byte) = 16
refusal_number (BookWord line byte) = 17
refusal_number (Unlawful place rule) = 18
refusal_number (ConditionBroken property) = 19
refusal_number NotLoaded = 20
