-- What a broken rule says of a row, in words.
use Rattle.std.specs.Prelude.{ℕ, List, codes}
use Rattle.host.specs.declared.refusals.Rule.{Rule}
use Rattle.host.specs.declared.refusals.Rule.TheVariants.{KnownKind, OwnFields, NameForm, OwnerIsComponent, ParameterOwner, Range, LinkEnd, LinkOwners, OwnersEnd, OwnName}

abbrev pub rule_words : Rule → List ℕ
rule_words KnownKind = codes "the kind is none of the four, or an empty row is not empty"
rule_words OwnFields = codes "a link, a range, a value or a start where the kind has none"
rule_words NameForm = codes "the name is not 1 to 8 letters or digits"
rule_words OwnerIsComponent = codes "the owner is no component"
rule_words ParameterOwner = codes "the parameter's owner owns a component"
rule_words Range = codes "the range is not -1000000 <= lo <= value <= hi <= 1000000"
rule_words LinkEnd = codes "the link does not lead to a required interface"
rule_words LinkOwners = codes "the owners of the linked interfaces do not differ, or do not share one component as owner"
rule_words OwnersEnd = codes "going from owner to owner does not end"
rule_words OwnName = codes "a lower row of the same owner has the same name"
