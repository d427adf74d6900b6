-- What may stand next in the rule of a formula, by what stood before: the states of a reader of single words.
-- Private contracts speak of them; what is promised to callers is said by the words of a rule alone.
use Rattle.std.specs.Prelude.{◌≡◌, ℕ, ◌+◌, ◌-◌, ◌≤◌, Bool, true, false, cond, ◌&&◌, List, [], ◌∷◌, ◌++◌, length, take, drop, Some, None, codes, decimal, Option, ◌==◌, nat_lt, slice_index_or}
use Rattle.std.specs.Str.{bytes_eq}
use Rattle.book_text.specs.Rules.{Text}
use Rattle.book_text.specs.States.{any_below}
use Rattle.book_words.specs.Cuts.{part as mid}
use Rattle.formula_text.specs.Words.{event_of, leaf_word_of}

-- a word that is a number from 1 to n
unfoldable pub is_up_to : ℕ → Text → Bool
is_up_to n t = any_below (λ i. bytes_eq t (decimal (i + 1))) n

pub data State : Type 0 where
  -- after a word that cannot stand there
  dead : State
  -- after the end of the line
  ended : State
  -- at the first word; behind `rule=` by itself
  opening : State
  fronting : State
  -- after j lists behind `after`
  ready : ℕ → State
  -- a leaf or a parenthesis is to follow, inside d parentheses and after k leaves, where `until` may follow or not; the number of a property
  tracing : Bool → ℕ → ℕ → State
  numbering : Bool → ℕ → ℕ → State
  -- after a leaf
  done : Bool → ℕ → ℕ → State
  -- a list of events is to follow, and then what follows a state; an operation; what is said of it; after an event
  bracket : State → State
  operation : State → State
  saying : State → State
  listed : State → State
  -- the end of the line is to follow
  closing : State

abbrev pub after : {A : Type 0} → Option A → State → State
after None st = dead
after (Some x) st = st

abbrev pub leaf_step : Bool → ℕ → ℕ → Text → State
leaf_step b d k t = after (leaf_word_of t) (numbering b d k)

abbrev pub trace_step : Bool → ℕ → ℕ → Text → State
trace_step b d k t = cond (bytes_eq t (codes "(")) (cond (nat_lt d 8) (tracing b (d + 1) k) dead) (leaf_step b d k t)

abbrev pub ready_step : ℕ → Text → State
ready_step j t =
    cond (bytes_eq t (codes "after")) (cond (nat_lt j 3) (bracket (ready (j + 1))) dead)
    (cond (bytes_eq t (codes "before")) (bracket (tracing false 0 0)) (trace_step true 0 0 t))

abbrev pub join_step : Bool → ℕ → ℕ → State
join_step b d k = cond (nat_lt k 4) (tracing b d k) dead

abbrev pub done_step : Bool → ℕ → ℕ → Text → State
done_step b d k t =
    cond (bytes_eq t (codes "&")) (join_step b d k)
    (cond (bytes_eq t (codes "|")) (join_step b d k)
    (cond (bytes_eq t (codes ")")) (cond (nat_lt 0 d) (done b (d - 1) k) dead)
    (cond (bytes_eq t (codes "\n")) (cond (d == 0) ended dead)
    (cond (bytes_eq t (codes "until")) (cond (b && d == 0) (bracket closing) dead) dead))))

abbrev pub front_step : Text → State
front_step t = cond (bytes_eq t []) fronting (cond (bytes_eq t (codes "(")) dead (ready_step 0 t))

-- the state after one more word, with properties numbered 1 to n
unfoldable pub step : ℕ → State → Text → State
step n dead t = dead
step n ended t = dead
step n opening t = cond (bytes_eq (take 5 t) (codes "rule=")) (front_step (drop 5 t)) dead
step n fronting t = cond (bytes_eq t (codes "(")) (tracing true 1 0) dead
step n (ready j) t = ready_step j t
step n (tracing b d k) t = trace_step b d k t
step n (numbering b d k) t = cond (is_up_to n t) (done b d (k + 1)) dead
step n (done b d k) t = done_step b d k t
step n (bracket st) t = cond (bytes_eq t (codes "[")) (operation st) dead
step n (operation st) t = cond (is_up_to 63 t) (saying st) dead
step n (saying st) t = after (event_of t) (listed st)
step n (listed st) t = cond (bytes_eq t (codes ",")) (operation st) (cond (bytes_eq t (codes "]")) st dead)
step n closing t = cond (bytes_eq t (codes "\n")) ended dead

-- the state after some words
abbrev pub run : ℕ → State → List Text → State
run n st [] = st
run n st (t ∷ p) = run n (step n st t) p

-- more words are to follow
abbrev pub Running : State → Type 0
Running dead = ⊥
Running ended = ⊥
Running opening = Unit {0}
Running fronting = Unit {0}
Running (ready j) = Unit {0}
Running (tracing b d k) = Unit {0}
Running (numbering b d k) = Unit {0}
Running (done b d k) = Unit {0}
Running (bracket st) = Unit {0}
Running (operation st) = Unit {0}
Running (saying st) = Unit {0}
Running (listed st) = Unit {0}
Running closing = Unit {0}

-- From the state at a on, the words up to e may stand and do not end the line, and the word at e may not stand;
-- these words go on to some that are as Q says.
pub record Stuck (n : ℕ) (Q : List Text → Type 0) (st : State) (s : List Text) (a e : ℕ) : Type 0 where
  pub ahead : a ≤ e
  pub inside : e ≤ length s
  pub onward : (u : List Text) × Q (mid s a e ++ u)
  pub alive : Running (run n st (mid s a e))
  pub wrong : step n (run n st (mid s a e)) (slice_index_or s e []) ≡ dead
