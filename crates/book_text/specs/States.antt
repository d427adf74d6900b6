-- What may stand next in the rule of a property, by what stood before: the states of a reader of single words.
-- Private contracts speak of them; what is promised to callers is said by the words of a rule alone.
use Rattle.std.specs.Prelude.{◌≡◌, ℕ, zero, suc, ◌+◌, ◌-◌, ◌≤◌, Bool, true, false, cond, ◌&&◌, ◌||◌, List, [], ◌∷◌, length, pos, negsuc, is_some, Some, None, codes, Option, ◌==◌, nat_le, nat_lt, slice_index_or}
use Rattle.std.specs.Fmt.{signed_decimal}
use Rattle.std.specs.Str.{bytes_eq}
use Rattle.host.specs.Names.{letter_or_digit}
use Rattle.ftpl.specs.declared.properties.VariableKind.{VariableKind}
use Rattle.ftpl.specs.declared.properties.VariableKind.TheVariants.{Component, Provided, Required, Parameter}
use Rattle.ftpl.specs.declared.properties.Variable.{Variable}
use Rattle.ftpl.specs.declared.properties.Variable.TheVariants.{Outer, Inner}
use Rattle.ftpl.specs.Properties.{kind_number}
use Rattle.book_text.specs.declared.words.Keyword.{Keyword}
use Rattle.book_text.specs.declared.words.Keyword.TheVariants.{Name, In, Bound, Child, Same, Up, AtMost}
use Rattle.book_text.specs.declared.scopes.Scope.{Scope}
use Rattle.book_words.specs.Cuts.{part}
use Rattle.book_text.specs.Rules.{Text}
use Rattle.book_text.specs.Words.{spelt, variable_text, quantifier_of, opening_of, kind_of, keyword_of}

abbrev pub all_plain : Text → Bool
all_plain [] = true
all_plain (b ∷ t) = letter_or_digit b && all_plain t

-- a word that may stand as a name
abbrev pub is_name : Text → Bool
is_name t = nat_le 1 (length t) && (nat_le (length t) 8 && all_plain t)

unfoldable pub any_below : (ℕ → Bool) → ℕ → Bool
any_below f zero = false
any_below f (suc n) = f n || any_below f n

-- a word that is a number within a million of 0
unfoldable pub is_number : Text → Bool
is_number t = any_below (λ k. bytes_eq t (signed_decimal (pos k))) 1000001 || any_below (λ k. bytes_eq t (signed_decimal (negsuc k))) 1000000

abbrev pub is_kind : VariableKind → VariableKind → Bool
is_kind j k = kind_number j == kind_number k

-- the kinds that the variables run over
abbrev pub variables : Option VariableKind → List Variable
variables None = Outer ∷ []
variables (Some k) = Outer ∷ Inner ∷ []

abbrev pub kind_in : Scope → Variable → VariableKind
kind_in sc Outer = sc.outer
kind_in sc Inner = elim sc.inner [ None ↦ sc.outer | Some k ↦ k ]

-- the variable that a word names, if it is bound
abbrev pub variable_of : Scope → Text → Option Variable
variable_of sc = spelt variable_text (variables sc.inner)

-- some variable runs over rows of this kind
abbrev pub has_kind : Scope → VariableKind → Bool
has_kind sc k = is_kind sc.outer k || elim sc.inner [ None ↦ false | Some j ↦ is_kind j k ]

-- a test that begins so can be completed
abbrev pub viable : Scope → Keyword → Bool
viable sc Name = true
viable sc In = true
viable sc Bound = has_kind sc Provided && has_kind sc Required
viable sc Child = true
viable sc Same = true
viable sc Up = has_kind sc Component
viable sc AtMost = has_kind sc Parameter

-- the first operand of a test may be over rows of this kind
abbrev pub first_fits : Keyword → VariableKind → Bool
first_fits Name k = true
first_fits In k = true
first_fits Bound k = is_kind k Provided
first_fits Child k = true
first_fits Same k = true
first_fits Up k = is_kind k Component
first_fits AtMost k = is_kind k Parameter

abbrev pub variable_fits : Scope → (VariableKind → Bool) → Option Variable → Bool
variable_fits sc f None = false
variable_fits sc f (Some x) = f (kind_in sc x)

-- the second operand
abbrev pub second_fits : Scope → Keyword → Text → Bool
second_fits sc Name t = is_name t
second_fits sc In t = is_name t
second_fits sc Bound t = variable_fits sc (λ k. is_kind k Required) (variable_of sc t)
second_fits sc Child t = is_some (variable_of sc t)
second_fits sc Same t = is_some (variable_of sc t)
second_fits sc Up t = false
second_fits sc AtMost t = variable_fits sc (λ k. is_kind k Parameter) (variable_of sc t) || is_number t

pub data State : Type 0 where
  -- after a word that cannot stand there
  dead : State
  -- after the end of the line
  ended : State
  -- at the first word
  opening : State
  -- v or, where v is bound over rows of this kind, w is to follow; then the colon; then the kind
  naming : Option VariableKind → State
  parting : Option VariableKind → State
  kinding : Option VariableKind → State
  -- after the quantifiers
  scoped : Scope → State
  -- a test is to follow, inside d parentheses and after k tests; or also an opening parenthesis; or also `!`
  testing : Scope → ℕ → ℕ → State
  grouping : Scope → ℕ → ℕ → State
  turning : Scope → ℕ → ℕ → State
  -- the first operand is to follow; the second
  first : Scope → ℕ → ℕ → Keyword → State
  second : Scope → ℕ → ℕ → Keyword → State
  -- after a test
  done : Scope → ℕ → ℕ → State

abbrev pub after : {A : Type 0} → Option A → (A → State) → State
after None f = dead
after (Some x) f = f x

abbrev pub name_of_next : Option VariableKind → Text
name_of_next None = codes "v"
name_of_next (Some k) = codes "w"

abbrev pub extended : Option VariableKind → VariableKind → Scope
extended None k = record { outer = k; inner = None }
extended (Some j) k = record { outer = j; inner = Some k }

-- a second quantifier may follow the first
abbrev pub another : Scope → Option VariableKind → State
another sc None = naming (Some sc.outer)
another sc (Some k) = dead

abbrev pub operated : Scope → ℕ → ℕ → Keyword → State
operated sc d k Name = second sc d k Name
operated sc d k In = second sc d k In
operated sc d k Bound = second sc d k Bound
operated sc d k Child = second sc d k Child
operated sc d k Same = second sc d k Same
operated sc d k Up = done sc d (k + 1)
operated sc d k AtMost = second sc d k AtMost

-- a test is begun
abbrev pub test_step : Scope → ℕ → ℕ → Text → State
test_step sc d k t = after (keyword_of t) (λ w. cond (viable sc w) (first sc d k w) dead)

abbrev pub group_step : Scope → ℕ → ℕ → Text → State
group_step sc d k t = cond (bytes_eq t (codes "(")) (cond (nat_lt d 8) (turning sc (d + 1) k) dead) (test_step sc d k t)

abbrev pub join_step : Scope → ℕ → ℕ → State
join_step sc d k = cond (nat_lt k 16) (turning sc d k) dead

abbrev pub done_step : Scope → ℕ → ℕ → Text → State
done_step sc d k t =
    cond (bytes_eq t (codes "&")) (join_step sc d k)
    (cond (bytes_eq t (codes "|")) (join_step sc d k)
    (cond (bytes_eq t (codes ")")) (cond (nat_lt 0 d) (done sc (d - 1) k) dead)
    (cond (bytes_eq t (codes "\n")) (cond (d == 0) ended dead) dead)))

-- the state after one more word
unfoldable pub step : State → Text → State
step dead t = dead
step ended t = dead
step opening t = after (opening_of t) (λ q. naming None)
step (naming o) t = cond (bytes_eq t (name_of_next o)) (parting o) dead
step (parting o) t = cond (bytes_eq t (codes ":")) (kinding o) dead
step (kinding o) t = after (kind_of t) (λ k. scoped (extended o k))
step (scoped sc) t = cond (bytes_eq t (codes ":")) (turning sc 0 0) (after (quantifier_of t) (λ q. another sc sc.inner))
step (testing sc d k) t = test_step sc d k t
step (grouping sc d k) t = group_step sc d k t
step (turning sc d k) t = cond (bytes_eq t (codes "!")) (grouping sc d k) (group_step sc d k t)
step (first sc d k w) t = cond (variable_fits sc (first_fits w) (variable_of sc t)) (operated sc d k w) dead
step (second sc d k w) t = cond (second_fits sc w t) (done sc d (k + 1)) dead
step (done sc d k) t = done_step sc d k t

-- the state after some words
abbrev pub run : State → List Text → State
run st [] = st
run st (t ∷ p) = run (step st t) p

-- more words are to follow
abbrev pub Running : State → Type 0
Running dead = ⊥
Running ended = ⊥
Running opening = Unit {0}
Running (naming o) = Unit {0}
Running (parting o) = Unit {0}
Running (kinding o) = Unit {0}
Running (scoped sc) = Unit {0}
Running (testing sc d k) = Unit {0}
Running (grouping sc d k) = Unit {0}
Running (turning sc d k) = Unit {0}
Running (first sc d k w) = Unit {0}
Running (second sc d k w) = Unit {0}
Running (done sc d k) = Unit {0}

-- from the state at a on, the words up to e may stand and do not end the line, and the word at e may not stand
pub record Stuck (st : State) (s : List Text) (a e : ℕ) : Type 0 where
  pub ahead : a ≤ e
  pub inside : e ≤ length s
  pub alive : Running (run st (part s a e))
  pub wrong : step (run st (part s a e)) (slice_index_or s e []) ≡ dead
