-- Rules as text.
use Rattle.std.specs.Prelude.{ℕ, List}
use Rattle.ftpl.specs.declared.properties.Property.{Property}
use Rattle.book_words.specs.declared.bytes.Class.TheVariants.{Line}
use Rattle.book_words.specs.Layout.{Laid}
use Rattle.book_words.specs.Wrong.{FirstWrong}
use Rattle.book_text.specs.declared.texts.ReadError.{ReadError}
use Rattle.book_text.specs.declared.texts.ReadError.TheVariants.{Wrong, Memory}
use Rattle.book_text.specs.Rules.{Text, PropertySays}
use Rattle.book_text.specs.Wrong.{IsRule}

-- the text is a layout of the words of just this property's rule
abbrev pub RuleText : List ℕ → Property → Type 0
RuleText s x = (p : List Text) × PropertySays x p × Laid Line p s

-- the word that is handed out is the first that no rule's text can have there
abbrev pub Refused : List ℕ → ReadError → Type 0
Refused s (Wrong t) = FirstWrong IsRule s t.at t.word.now
Refused s Memory = Unit {0}
