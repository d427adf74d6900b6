-- Things that are numbered from 1.
use Rattle.std.specs.Prelude.{ℕ, zero, suc, List, None, Option, slice_get}

-- the thing with this number, where there is one
abbrev pub numbered : {T : Type 0} → List T → ℕ → Option T
numbered things zero = None
numbered things (suc k) = slice_get things k
