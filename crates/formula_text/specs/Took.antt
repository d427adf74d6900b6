-- What was read from an index on.
use Rattle.std.specs.Prelude.{◌≡◌, ℕ, ◌+◌, ◌<◌, ◌≤◌, false, cond, ◌&&◌, List, [], ◌∷◌, ◌++◌, length, codes, ◌==◌, nat_lt, slice_index_or}
use Rattle.std.specs.Str.{bytes_eq}
use Rattle.ftpl.specs.declared.formulas.Leaf.{Leaf}
use Rattle.ftpl.specs.declared.formulas.PerLeaf.{PerLeaf}
use Rattle.book_text.specs.declared.parts.Stop.{Stop}
use Rattle.book_text.specs.declared.parts.Stop.TheVariants.{Wrong, Memory}
use Rattle.formula_text.specs.declared.places.Place.{Place}
use Rattle.formula_text.specs.declared.places.Part.{Part}
use Rattle.formula_text.specs.States.{State, Stuck}
use Rattle.ftpl.specs.declared.formulas.EventList.{EventList}
use Rattle.book_text.specs.Rules.{Text, Level, loose, tight, single, plain}
use Rattle.book_words.specs.Cuts.{part as mid}
use Rattle.formula_text.specs.declared.events.Events.{Events}
use Rattle.formula_text.specs.Rules.{Listing, ListSays, Tree, Reads, size, flat, shape, numbered, four, TraceSays, CoreOf, CoreSays, core_shape, core_numbered, core_tree, LineSays, Means}
use Rattle.formula_text.specs.declared.lines.Ending.{Ending}
use Rattle.formula_text.specs.declared.lines.Line.{Line}

-- some words that follow the events e
abbrev pub Lists : EventList → List Text → Type 0
Lists e p = (f : EventList) × Listing e p f

-- the words from a on, which follow the events e, end a list
pub record EventsTook (e : EventList) (s : List Text) (a : ℕ) (x : Events) : Type 0 where
  pub ahead : a < x.next
  pub inside : x.next ≤ length s
  pub listing : Listing e (mid s a x.next) x.list

-- some list of events
abbrev pub IsList : List Text → Type 0
IsList p = (e : EventList) × ListSays e p

-- the words from a on are a list of events
pub record ListTook (s : List Text) (a : ℕ) (x : Events) : Type 0 where
  pub ahead : a < x.next
  pub inside : x.next ≤ length s
  pub says : ListSays x.list (mid s a x.next)

-- the leaves with the one after k others; the first of them stands for all
abbrev pub put_leaf : PerLeaf Leaf → ℕ → Leaf → PerLeaf Leaf
put_leaf l k x =
    cond (k == 0) (record { first = x; second = x; third = x; fourth = x })
    (cond (k == 1) (record { first = l.first; second = x; third = l.third; fourth = l.fourth })
    (cond (k == 2) (record { first = l.first; second = l.second; third = x; fourth = l.fourth })
    (record { first = l.first; second = l.second; third = l.third; fourth = x })))

abbrev pub fill : PerLeaf Leaf → ℕ → List Leaf → PerLeaf Leaf
fill l k [] = l
fill l k (x ∷ xs) = fill (put_leaf l k x) (k + 1) xs

-- the sign does not stand at e, or no leaf may follow the first k
abbrev pub Unjoined : List Text → ℕ → ℕ → Text → Type 0
Unjoined s e k t = (nat_lt k 4 && bytes_eq (slice_index_or s e []) t) ≡ false

-- what was read ends at e, since nothing joins more to it
abbrev pub Shut : Level → List Text → ℕ → ℕ → Type 0
Shut loose s e k = Unjoined s e k (codes "&") × Unjoined s e k (codes "|")
Shut tight s e k = Unjoined s e k (codes "&")
Shut single s e k = Unit {0}
Shut plain s e k = Unit {0}

-- the words from the place a on are the part x, with parentheses at most d deep
pub record Took (l : Level) (n d : ℕ) (s : List Text) (a : Place) (x : Part) : Type 0 where
  pub ahead : a.at < x.place.at
  pub inside : x.place.at ≤ length s
  pub tree : Tree Leaf
  pub reads : Reads n l d (mid s a.at x.place.at) tree
  pub counted : x.place.count ≡ a.count + size tree
  pub more : a.count < x.place.count
  pub few : x.place.count ≤ 4
  pub slots : shape x.trace ≡ numbered a.count tree
  pub filled : x.place.leaves ≡ fill a.leaves a.count (flat tree)
  pub shut : Shut l s x.place.at x.place.count

-- some leaves that may follow k others
abbrev pub Tracks : ℕ → Level → ℕ → ℕ → List Text → Type 0
Tracks n l d k p = (f : Tree Leaf) × Reads n l d p f × (k + size f ≤ 4)

-- the reader stopped at a word that cannot stand there, or for want of memory
abbrev pub Failed : ℕ → (List Text → Type 0) → State → List Text → ℕ → Stop → Type 0
Failed n Q st s a (Wrong e) = Stuck n Q st s a e
Failed n Q st s a Memory = Unit {0}

-- some trace
abbrev pub IsTrace : ℕ → List Text → Type 0
IsTrace n p = (f : Tree Leaf) × TraceSays n f p

-- the words from a on are a trace
pub record TraceTook (n : ℕ) (s : List Text) (a : ℕ) (x : Part) : Type 0 where
  pub ahead : a < x.place.at
  pub inside : x.place.at ≤ length s
  pub tree : Tree Leaf
  pub says : TraceSays n tree (mid s a x.place.at)
  pub counted : x.place.count ≡ size tree
  pub slots : shape x.trace ≡ numbered 0 tree
  pub leaves : x.place.leaves ≡ four (flat tree)
  pub shut : Shut loose s x.place.at x.place.count

-- a core up to the end of the line
abbrev pub EndSays : ℕ → CoreOf Leaf → List Text → Type 0
EndSays n f p = (q : List Text) × CoreSays n f q × (p ≡ q ++ (codes "\n" ∷ []))

-- some core that begins with the words q
abbrev pub Ends : ℕ → List Text → List Text → Type 0
Ends n q p = (f : CoreOf Leaf) × EndSays n f (q ++ p)

-- the words q and those from a on are a core up to the end of the line
pub record EndTook (n : ℕ) (q : List Text) (s : List Text) (a : ℕ) (x : Ending) : Type 0 where
  pub ahead : a < x.next
  pub inside : x.next ≤ length s
  pub form : CoreOf Leaf
  pub says : EndSays n form (q ++ mid s a x.next)
  pub core : core_shape x.core ≡ core_numbered form
  pub leaves : x.leaves ≡ four (flat (core_tree form))

-- some line that may follow j lists behind `after`
abbrev pub Lines : ℕ → ℕ → List Text → Type 0
Lines n j p = (es : List EventList) × (f : CoreOf Leaf) × LineSays n es f p × (j + length es ≤ 3)

-- the words from a on, which follow j lists behind `after`, are a formula up to the end of the line
pub record LineTook (n j : ℕ) (s : List Text) (a : ℕ) (x : Line) : Type 0 where
  pub ahead : a < x.next
  pub inside : x.next ≤ length s
  pub lists : List EventList
  pub form : CoreOf Leaf
  pub says : LineSays n lists form (mid s a x.next)
  pub means : Means x.formula lists form
  pub room : j + length lists ≤ 3
