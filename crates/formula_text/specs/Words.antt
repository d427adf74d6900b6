-- The fixed words of a formula's rule, and what each stands for.
use Rattle.std.specs.Prelude.{ℕ, List, [], ◌∷◌, drop, codes, Option}
use Rattle.ftpl.specs.declared.formulas.Leaf.{Leaf}
use Rattle.ftpl.specs.declared.formulas.Leaf.TheVariants.{Always, Eventually, Never}
use Rattle.book_words.specs.declared.tokens.Token.{Token}
use Rattle.book_words.specs.Cuts.{words_of}
use Rattle.book_text.specs.Words.{spelt}
use Rattle.formula_text.specs.declared.events.EventWord.{EventWord}
use Rattle.formula_text.specs.declared.events.EventWord.TheVariants.{Called, Normal, Exceptional, Terminates}
use Rattle.formula_text.specs.declared.leaves.LeafWord.{LeafWord}
use Rattle.formula_text.specs.declared.leaves.LeafWord.TheVariants as says

abbrev pub event_text : EventWord → List ℕ
event_text Called = codes "called"
event_text Normal = codes "normal"
event_text Exceptional = codes "exceptional"
event_text Terminates = codes "terminates"

abbrev pub event_words : List EventWord
event_words = Called ∷ Normal ∷ Exceptional ∷ Terminates ∷ []

abbrev pub event_of : List ℕ → Option EventWord
event_of = spelt event_text event_words

abbrev pub leaf_text : LeafWord → List ℕ
leaf_text says.Always = codes "always"
leaf_text says.Eventually = codes "eventually"
leaf_text says.Never = codes "never"

abbrev pub leaf_words : List LeafWord
leaf_words = says.Always ∷ says.Eventually ∷ says.Never ∷ []

abbrev pub leaf_word_of : List ℕ → Option LeafWord
leaf_word_of = spelt leaf_text leaf_words

-- what the word says of the property with this number
abbrev pub leaf_of : LeafWord → ℕ → Leaf
leaf_of says.Always a = Always a
leaf_of says.Eventually a = Eventually a
leaf_of says.Never a = Never a

-- the words of a line's rule without what stands in front of the first, which has the length of `rule=`
abbrev pub unfronted : List (List ℕ) → List (List ℕ)
unfronted [] = []
unfronted (t ∷ p) = drop 5 t ∷ p

abbrev pub rule_words : List Token → List (List ℕ)
rule_words ts = unfronted (words_of ts)
