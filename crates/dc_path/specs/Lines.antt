-- The lines of a text (POSIX.1, "Line", but that the last one may lack its line feed).
use Rattle.std.specs.Prelude.{ℕ, List, [], ◌∷◌, length, nat_lt, ◌==◌, if◌then◌else◌}
use Rattle.std.specs.List.{slice_split}

-- the parts, without the last one where it has no bytes
abbrev pub ended : List (List ℕ) → List (List ℕ)
ended [] = []
ended (part ∷ []) = if nat_lt 0 (length part) then part ∷ [] else []
ended (part ∷ next ∷ parts) = part ∷ ended (next ∷ parts)

-- the lines of a text without their line feeds: what stands between line feeds, and behind the last one if there is something
unfoldable pub lines_of : List ℕ → List (List ℕ)
lines_of text = ended (slice_split (λ byte. byte == 10) text)
