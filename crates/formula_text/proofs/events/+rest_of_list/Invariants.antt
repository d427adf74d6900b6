use Rattle.std.proofs.Common.{◌-◌, length}
use Rattle.formula_text.proofs.events.+rest_of_list.Given as goal

-- the words that are left fall
abbrev pub decreases-rest_of_list : goal.decreases-rest_of_list
decreases-rest_of_list l = length l.cursor.tokens.now - l.cursor.at
