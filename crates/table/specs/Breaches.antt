-- What a breach says, in words.
use Rattle.std.specs.Prelude.{ℕ, List, ◌++◌, codes}
use Rattle.std.specs.Fmt.{decimal}
use Rattle.host.specs.Numbers.{rule_number}
use Rattle.host.specs.Words.{rule_words}
use Rattle.table.specs.declared.breaches.Breach.{Breach}

abbrev pub breach_words : Breach → List ℕ
breach_words b = codes "place " ++ (decimal b.place ++ (codes " breaks rule " ++ (decimal (rule_number b.rule) ++ (codes ": " ++ rule_words b.rule))))
