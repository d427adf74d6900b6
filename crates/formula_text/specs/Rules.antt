-- The rule of a formula: which words say which formula.
use Rattle.std.specs.Prelude.{◌≡◌, ℕ, zero, suc, ◌+◌, ◌^◌, ◌≤◌, cond, List, [], ◌∷◌, ◌++◌, length, Some, None, codes, decimal, Option, ◌==◌, bit_or, slice_index_or}
use Rattle.ftpl.specs.declared.formulas.EventList.{EventList}
use Rattle.ftpl.specs.declared.formulas.Leaf.{Leaf}
use Rattle.ftpl.specs.declared.formulas.Leaf.TheVariants.{Always}
use Rattle.ftpl.specs.declared.formulas.PerLeaf.{PerLeaf}
use Rattle.ftpl.specs.declared.formulas.Slot.{Slot}
use Rattle.ftpl.specs.declared.formulas.Slot.TheVariants.{First, Second, Third, Fourth}
use Rattle.ftpl.specs.declared.formulas.Trace.{Trace}
use Rattle.ftpl.specs.declared.formulas.Trace.TheVariants as traces
use Rattle.ftpl.specs.declared.formulas.Core.{Core}
use Rattle.ftpl.specs.declared.formulas.Core.TheVariants as cores
use Rattle.ftpl.specs.declared.formulas.Formula.{Formula}
use Rattle.book_text.specs.Rules.{Text, Level, loose, tight, plain}
use Rattle.formula_text.specs.declared.events.EventWord.{EventWord}
use Rattle.formula_text.specs.declared.events.EventWord.TheVariants.{Called, Normal, Exceptional, Terminates}
use Rattle.formula_text.specs.declared.leaves.LeafWord.{LeafWord}
use Rattle.formula_text.specs.Words.{event_text, leaf_text, leaf_of}

abbrev pub no_events : EventList
no_events = record { called = 0; normal = 0; exceptional = 0 }

-- the mask with the operation too
abbrev pub with_bit : ℕ → ℕ → ℕ
with_bit mask k = bit_or mask (2 ^ k)

-- the list with one event more
abbrev pub with_event : EventList → ℕ → EventWord → EventList
with_event e k Called = record { called = with_bit e.called k; normal = e.normal; exceptional = e.exceptional }
with_event e k Normal = record { called = e.called; normal = with_bit e.normal k; exceptional = e.exceptional }
with_event e k Exceptional = record { called = e.called; normal = e.normal; exceptional = with_bit e.exceptional k }
with_event e k Terminates = record { called = e.called; normal = with_bit e.normal k; exceptional = with_bit e.exceptional k }

-- `Listing e p f`: the words p, which follow the events e and are closed by `]`, make them the events f
pub data Listing : EventList → List Text → EventList → Type 0 where
  a_last : {e : EventList} (k : ℕ) (w : EventWord) → 1 ≤ k → k ≤ 63 → Listing e (decimal k ∷ event_text w ∷ codes "]" ∷ []) (with_event e k w)
  a_more : {e f : EventList} (k : ℕ) (w : EventWord) {p : List Text} → 1 ≤ k → k ≤ 63 → Listing (with_event e k w) p f → Listing e (decimal k ∷ event_text w ∷ codes "," ∷ p) f

-- the words of a list of events, one or more
abbrev pub ListSays : EventList → List Text → Type 0
ListSays e p = (q : List Text) × Listing no_events q e × (p ≡ codes "[" ∷ q)

-- how leaves are joined: `&` is joined, `|` is either
pub data Tree (A : Type 0) : Type 0 where
  leaf : A → Tree A
  joined : Tree A → Tree A → Tree A
  either : Tree A → Tree A → Tree A

-- the leaves in the order in which they stand
abbrev pub flat : {A : Type 0} → Tree A → List A
flat (leaf x) = x ∷ []
flat (joined f g) = flat f ++ flat g
flat (either f g) = flat f ++ flat g

abbrev pub size : {A : Type 0} → Tree A → ℕ
size f = length (flat f)

-- `Reads n l d p f`: the words p, of properties numbered 1 to n and with parentheses at most d deep, are the leaves f;
-- l says how tightly they hold together: joined by `|`, by `&`, or one by itself
pub data Reads (n : ℕ) : Level → ℕ → List Text → Tree Leaf → Type 0 where
  a_leaf : {d : ℕ} (m : ℕ) (w : LeafWord) → 1 ≤ m → m ≤ n → Reads n plain d (leaf_text w ∷ decimal m ∷ []) (leaf (leaf_of w m))
  a_group : {d : ℕ} {p : List Text} {f : Tree Leaf} → Reads n loose d p f → Reads n plain (d + 1) (codes "(" ∷ (p ++ (codes ")" ∷ []))) f
  one_tight : {d : ℕ} {p : List Text} {f : Tree Leaf} → Reads n plain d p f → Reads n tight d p f
  and_tight : {d : ℕ} {p q : List Text} {f g : Tree Leaf} → Reads n plain d p f → Reads n tight d q g → Reads n tight d (p ++ (codes "&" ∷ q)) (joined f g)
  one_loose : {d : ℕ} {p : List Text} {f : Tree Leaf} → Reads n tight d p f → Reads n loose d p f
  or_loose : {d : ℕ} {p q : List Text} {f g : Tree Leaf} → Reads n tight d p f → Reads n loose d q g → Reads n loose d (p ++ (codes "|" ∷ q)) (either f g)

-- what a formula says behind its `after`s
pub data CoreOf (A : Type 0) : Type 0 where
  just : Tree A → CoreOf A
  before : EventList → Tree A → CoreOf A
  until : Tree A → EventList → CoreOf A

-- a trace: at most four leaves, in parentheses at most 8 deep
pub record TraceSays (n : ℕ) (f : Tree Leaf) (p : List Text) : Type 0 where
  pub reads : Reads n loose 8 p f
  pub few : size f ≤ 4

abbrev pub CoreSays : ℕ → CoreOf Leaf → List Text → Type 0
CoreSays n (just f) p = TraceSays n f p
CoreSays n (before e f) p = (q r : List Text) × ListSays e q × TraceSays n f r × (p ≡ codes "before" ∷ (q ++ r))
CoreSays n (until f e) p = (q r : List Text) × TraceSays n f q × ListSays e r × (p ≡ q ++ (codes "until" ∷ r))

abbrev pub AftersSay : List EventList → List Text → Type 0
AftersSay [] p = p ≡ []
AftersSay (e ∷ es) p = (q r : List Text) × ListSays e q × AftersSay es r × (p ≡ codes "after" ∷ (q ++ r))

-- the words of a formula, up to the end of the line: at most three `after E`, then the core
pub record LineSays (n : ℕ) (es : List EventList) (f : CoreOf Leaf) (p : List Text) : Type 0 where
  pub afters : List Text
  pub core : List Text
  pub few : length es ≤ 3
  pub after : AftersSay es afters
  pub says : CoreSays n f core
  pub words : p ≡ afters ++ (core ++ (codes "\n" ∷ []))

-- `rule=` stands in front of the first word, as a part of it; before a parenthesis by itself
pub data Fronted : List Text → List Text → Type 0 where
  within : {t : Text} {p : List Text} → (t ≡ codes "(" → ⊥) → Fronted (t ∷ p) ((codes "rule=" ++ t) ∷ p)
  apart : {p : List Text} → Fronted (codes "(" ∷ p) (codes "rule=" ∷ codes "(" ∷ p)

pub record RuleSays (n : ℕ) (es : List EventList) (f : CoreOf Leaf) (p : List Text) : Type 0 where
  pub line : List Text
  pub says : LineSays n es f line
  pub fronted : Fronted line p

-- a trace as a tree without its boxes
abbrev pub shape : Trace → Tree Slot
shape (traces.At x) = leaf x
shape (traces.Both' p t q u) = joined (shape t) (shape u)
shape (traces.Either' p t q u) = either (shape t) (shape u)

abbrev pub core_shape : Core → CoreOf Slot
core_shape (cores.Plain t) = just (shape t)
core_shape (cores.Before e t) = before e (shape t)
core_shape (cores.Until t e) = until (shape t) e

abbrev pub slot_at : ℕ → Slot
slot_at k = cond (k == 0) First (cond (k == 1) Second (cond (k == 2) Third Fourth))

-- the leaves numbered from k on in the order in which they stand
abbrev pub numbered : ℕ → Tree Leaf → Tree Slot
numbered k (leaf x) = leaf (slot_at k)
numbered k (joined f g) = joined (numbered k f) (numbered (k + size f) g)
numbered k (either f g) = either (numbered k f) (numbered (k + size f) g)

abbrev pub core_numbered : CoreOf Leaf → CoreOf Slot
core_numbered (just f) = just (numbered 0 f)
core_numbered (before e f) = before e (numbered 0 f)
core_numbered (until f e) = until (numbered 0 f) e

abbrev pub core_tree : CoreOf Leaf → Tree Leaf
core_tree (just f) = f
core_tree (before e f) = f
core_tree (until f e) = f

-- the four leaves: what no leaf of the trace fills repeats the first
abbrev pub four : List Leaf → PerLeaf Leaf
four [] = record { first = Always 0; second = Always 0; third = Always 0; fourth = Always 0 }
four (x ∷ xs) = record { first = x; second = slice_index_or xs 0 x; third = slice_index_or xs 1 x; fourth = slice_index_or xs 2 x }

-- the list at an index, if there is one
abbrev pub nth : List EventList → ℕ → Option EventList
nth [] k = None
nth (e ∷ es) zero = Some e
nth (e ∷ es) (suc k) = nth es k

-- the formula has these lists behind its `after`s, and this core
pub record Means (x : Formula) (es : List EventList) (f : CoreOf Leaf) : Type 0 where
  pub first : x.first ≡ nth es 0
  pub second : x.second ≡ nth es 1
  pub third : x.third ≡ nth es 2
  pub core : core_shape x.core ≡ core_numbered f
  pub leaves : x.leaves ≡ four (flat (core_tree f))

-- the words are the rule of the formula, of properties numbered 1 to n
abbrev pub FormulaSays : ℕ → Formula → List Text → Type 0
FormulaSays n x p = (es : List EventList) × (f : CoreOf Leaf) × RuleSays n es f p × Means x es f
