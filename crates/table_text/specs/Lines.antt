-- Table text: one line for each filled row, places rising; nine words to a line, each ended by a blank, the last by a newline.
use Rattle.std.specs.Prelude.{ℕ, ◌+◌, cond, List, [], ◌∷◌, ◌++◌, codes, decimal, ◌==◌}
use Rattle.std.specs.List.{flat_map}
use Rattle.std.specs.Fmt.{signed_decimal}
use Rattle.host.specs.Names.{name_bytes}
use Rattle.host.specs.declared.rows.Row.{Row}
use Rattle.table_text.specs.declared.lines.Key.{Key}
use Rattle.table_text.specs.declared.lines.Key.TheVariants.{Place, Kind, Name, Owner, Link, Up, Lo, Hi, Value}
use Rattle.table_text.specs.declared.lines.Line.{Line}

-- how a kind is written; a kind above 4, which no lawful row has, by its number
abbrev pub kind_text : ℕ → List ℕ
kind_text k = cond (k == 1) (codes "comp") (cond (k == 2) (codes "prov") (cond (k == 3) (codes "req") (cond (k == 4) (codes "par") (decimal k))))

-- how an owner or a link is written
abbrev pub place_text : ℕ → List ℕ
place_text p = cond (p == 255) (codes "none") (decimal p)

abbrev pub key_text : Key → List ℕ
key_text Place = codes "place="
key_text Kind = codes "kind="
key_text Name = codes "name="
key_text Owner = codes "owner="
key_text Link = codes "link="
key_text Up = codes "up="
key_text Lo = codes "lo="
key_text Hi = codes "hi="
key_text Value = codes "value="

abbrev pub value_text : Key → Line → List ℕ
value_text Place l = decimal l.place
value_text Kind l = kind_text l.row.kind
value_text Name l = name_bytes l.row.name
value_text Owner l = place_text l.row.owner
value_text Link l = place_text l.row.link
value_text Up l = decimal l.row.up
value_text Lo l = signed_decimal l.row.lo
value_text Hi l = signed_decimal l.row.hi
value_text Value l = signed_decimal l.row.value

-- what ends a word: a blank, and a newline after the last
abbrev pub ending : Key → ℕ
ending Place = 32
ending Kind = 32
ending Name = 32
ending Owner = 32
ending Link = 32
ending Up = 32
ending Lo = 32
ending Hi = 32
ending Value = 10

unfoldable pub word : Line → Key → List ℕ
word l k = key_text k ++ value_text k l

abbrev pub ended : Line → Key → List ℕ
ended l k = word l k ++ (ending k ∷ [])

abbrev pub order : List Key
order = Place ∷ Kind ∷ Name ∷ Owner ∷ Link ∷ Up ∷ Lo ∷ Hi ∷ Value ∷ []

unfoldable pub line_text : Line → List ℕ
line_text l = flat_map (ended l) order

-- the text of a row at its place: nothing if it is not filled
abbrev pub row_text : ℕ → Row → List ℕ
row_text p r = cond (r.kind == 0) [] (line_text (record { place = p; row = r }))

-- the lines of a table: its filled rows, with their places counted from p
abbrev pub lines_of : ℕ → List Row → List Line
lines_of p [] = []
lines_of p (r ∷ t) = cond (r.kind == 0) (lines_of (p + 1) t) (record { place = p; row = r } ∷ lines_of (p + 1) t)

-- the written form of a table
abbrev pub text_of_table : List Row → List ℕ
text_of_table t = flat_map line_text (lines_of 0 t)
