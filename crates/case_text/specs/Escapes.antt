-- What a line of a file of cases writes.
use Rattle.std.specs.Prelude.{ℕ, List, [], ◌∷◌, ◌==◌, cond}

-- behind a backslash (92) `n` (110) stands for a newline (10) and any other byte for a zero byte; a backslash at the end stands for nothing
abbrev pub unescaped : List ℕ → List ℕ
unescaped [] = []
unescaped (b ∷ []) = cond (b == 92) [] (b ∷ [])
unescaped (b ∷ c ∷ bs) = cond (b == 92) (cond (c == 110) 10 0 ∷ unescaped bs) (b ∷ unescaped (c ∷ bs))
