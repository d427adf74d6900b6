-- Where a key stands among the nine, and which lines may come next.
use Rattle.std.specs.Prelude.{ℕ, ◌≤◌, List, [], ◌∷◌}
use Rattle.std.specs.List.{flat_map}
use Rattle.table_text.specs.declared.lines.Key.{Key}
use Rattle.table_text.specs.declared.lines.Key.TheVariants.{Place, Kind, Name, Owner, Link, Up, Lo, Hi, Value}
use Rattle.table_text.specs.declared.lines.Line.{Line}
use Rattle.table_text.specs.Lines.{ended}
use Rattle.table_text.specs.Texts.{Sayable}

abbrev pub keys_before : Key → List Key
keys_before Place = []
keys_before Kind = Place ∷ []
keys_before Name = Place ∷ Kind ∷ []
keys_before Owner = Place ∷ Kind ∷ Name ∷ []
keys_before Link = Place ∷ Kind ∷ Name ∷ Owner ∷ []
keys_before Up = Place ∷ Kind ∷ Name ∷ Owner ∷ Link ∷ []
keys_before Lo = Place ∷ Kind ∷ Name ∷ Owner ∷ Link ∷ Up ∷ []
keys_before Hi = Place ∷ Kind ∷ Name ∷ Owner ∷ Link ∷ Up ∷ Lo ∷ []
keys_before Value = Place ∷ Kind ∷ Name ∷ Owner ∷ Link ∷ Up ∷ Lo ∷ Hi ∷ []

abbrev pub keys_after : Key → List Key
keys_after Place = Kind ∷ Name ∷ Owner ∷ Link ∷ Up ∷ Lo ∷ Hi ∷ Value ∷ []
keys_after Kind = Name ∷ Owner ∷ Link ∷ Up ∷ Lo ∷ Hi ∷ Value ∷ []
keys_after Name = Owner ∷ Link ∷ Up ∷ Lo ∷ Hi ∷ Value ∷ []
keys_after Owner = Link ∷ Up ∷ Lo ∷ Hi ∷ Value ∷ []
keys_after Link = Up ∷ Lo ∷ Hi ∷ Value ∷ []
keys_after Up = Lo ∷ Hi ∷ Value ∷ []
keys_after Lo = Hi ∷ Value ∷ []
keys_after Hi = Value ∷ []
keys_after Value = []

-- what stands in a line before the word of a key
abbrev pub before : Line → Key → List ℕ
before l k = flat_map (ended l) (keys_before k)

-- a line that may come where places below `next` are past
pub record Fits (next : ℕ) (l : Line) : Type 0 where
  pub rises : next ≤ l.place
  pub inside : l.place ≤ 254
  pub row : Sayable l.row
