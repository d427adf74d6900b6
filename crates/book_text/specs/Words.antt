-- The fixed words of a book text, and what each stands for.
use Rattle.std.specs.Prelude.{ℕ, cond, List, [], ◌∷◌, Some, None, codes, Option}
use Rattle.std.specs.Str.{bytes_eq}
use Rattle.ftpl.specs.declared.properties.Quantifier.{Quantifier}
use Rattle.ftpl.specs.declared.properties.Quantifier.TheVariants.{ForAll, Exists}
use Rattle.ftpl.specs.declared.properties.VariableKind.{VariableKind}
use Rattle.ftpl.specs.declared.properties.VariableKind.TheVariants.{Component, Provided, Required, Parameter}
use Rattle.ftpl.specs.declared.properties.Variable.{Variable}
use Rattle.ftpl.specs.declared.properties.Variable.TheVariants.{Outer, Inner}
use Rattle.book_text.specs.declared.words.Keyword.{Keyword}
use Rattle.book_text.specs.declared.words.Keyword.TheVariants.{Name, In, Bound, Child, Same, Up, AtMost}

abbrev pub quantifier_text : Quantifier → List ℕ
quantifier_text ForAll = codes "all"
quantifier_text Exists = codes "some"

-- the first word of a rule
abbrev pub opening_text : Quantifier → List ℕ
opening_text ForAll = codes "rule=all"
opening_text Exists = codes "rule=some"

abbrev pub kind_text : VariableKind → List ℕ
kind_text Component = codes "comp"
kind_text Provided = codes "prov"
kind_text Required = codes "req"
kind_text Parameter = codes "par"

abbrev pub variable_text : Variable → List ℕ
variable_text Outer = codes "v"
variable_text Inner = codes "w"

abbrev pub keyword_text : Keyword → List ℕ
keyword_text Name = codes "name"
keyword_text In = codes "in"
keyword_text Bound = codes "bound"
keyword_text Child = codes "child"
keyword_text Same = codes "same"
keyword_text Up = codes "up"
keyword_text AtMost = codes "atmost"

-- the first of some things that is written as the word
abbrev pub spelt : {A : Type 0} → (A → List ℕ) → List A → List ℕ → Option A
spelt f [] t = None
spelt f (x ∷ xs) t = cond (bytes_eq t (f x)) (Some x) (spelt f xs t)

abbrev pub quantifiers : List Quantifier
quantifiers = ForAll ∷ Exists ∷ []

abbrev pub kinds : List VariableKind
kinds = Component ∷ Provided ∷ Required ∷ Parameter ∷ []

abbrev pub keywords : List Keyword
keywords = Name ∷ In ∷ Bound ∷ Child ∷ Same ∷ Up ∷ AtMost ∷ []

abbrev pub quantifier_of : List ℕ → Option Quantifier
quantifier_of = spelt quantifier_text quantifiers

abbrev pub opening_of : List ℕ → Option Quantifier
opening_of = spelt opening_text quantifiers

abbrev pub kind_of : List ℕ → Option VariableKind
kind_of = spelt kind_text kinds

abbrev pub keyword_of : List ℕ → Option Keyword
keyword_of = spelt keyword_text keywords
