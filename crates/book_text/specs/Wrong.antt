-- The first word that cannot stand where it does.
use Rattle.std.specs.Prelude.{ℕ, List, Option}
use Rattle.ftpl.specs.declared.properties.Binder.{Binder}
use Rattle.book_words.specs.Among.{WrongAt}
use Rattle.book_text.specs.declared.parts.Stop.{Stop}
use Rattle.book_text.specs.declared.parts.Stop.TheVariants.{Wrong, Memory}
use Rattle.book_text.specs.Rules.{Text, Form, RuleSays}

-- the words are some property's rule
abbrev pub IsRule : List Text → Type 0
IsRule p = (b : Binder) × (c : Option Binder) × (f : Form) × RuleSays b c f p

-- The word at e, an empty one behind the last, is the first that no rule can have there:
-- the words before it go on to a rule, and no rule goes on with this word. Where a word is lacking, they are no rule yet.
abbrev pub FirstWrong : List Text → ℕ → Type 0
FirstWrong s e = WrongAt IsRule s e

abbrev pub Stopped : List Text → Stop → Type 0
Stopped s (Wrong e) = FirstWrong s e
Stopped s Memory = Unit {0}
