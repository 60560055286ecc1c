-- Words of a command line.
use Rattle.std.specs.Prelude.{ℕ, Bool, false, List, [], ◌∷◌, ◌==◌}

-- a word that begins with `-`
abbrev pub is_dashed : List ℕ → Bool
is_dashed [] = false
is_dashed (byte ∷ word) = byte == 45
