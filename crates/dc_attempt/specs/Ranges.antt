-- Ranges of the bytes of files.
use Rattle.std.specs.Prelude.{ℕ, ◌+◌, nat_le, Bool, if◌then◌else◌, List, length, take, drop, Option, Some, None}
use Rattle.std.specs.Option.{is_some, is_none}
use Rattle.dc_path.specs.Paths.{Names}
use Rattle.dc_attrs.specs.Trees.{Tree, bytes_of, seen}
use Rattle.dc_attrs.specs.declared.shown.Seen.{Seen}
use Rattle.dc_attrs.specs.Refusals.{refused_file}

-- so many bytes from a place on, where there are so many
abbrev pub range_in : Option (List ℕ) → ℕ → ℕ → Option (List ℕ)
range_in None from count = None
range_in (Some bytes) from count = if nat_le (from + count) (length bytes) then Some (take count (drop from bytes)) else None

-- a file is seen
abbrev pub is_file : Seen → Bool
is_file shown = is_none (refused_file shown)

-- the bytes of a range of the file that is seen at a path, where a tree is told and the range lies in the file
abbrev pub told_range : Option Tree → Names → ℕ → ℕ → Option (List ℕ)
told_range None path from count = None
told_range (Some t) path from count = if is_file (seen t path) then range_in (bytes_of (t path)) from count else None

-- a tree is told, and the range lies in the file
abbrev pub lies_in : Option Tree → Names → ℕ → ℕ → Bool
lies_in tree path from count = is_some (told_range tree path from count)
