-- The parts of a line.
use Rattle.std.specs.Prelude.{ℕ, Bool, Option, None, Some, List, [], ◌==◌, ◌||◌}
use Rattle.std.specs.List.{slice_split}

-- a space or a tab
abbrev pub is_blank : ℕ → Bool
is_blank b = b == 32 || b == 9

-- the parts between blanks; between two blanks in a row there is a part of no bytes
abbrev pub parts_of : List ℕ → List (List ℕ)
parts_of line = slice_split is_blank line

-- the parts behind a part: none without a blank behind it
abbrev pub parts_behind : Option (List ℕ) → List (List ℕ)
parts_behind None = []
parts_behind (Some rest) = parts_of rest
