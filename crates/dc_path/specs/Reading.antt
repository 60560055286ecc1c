-- What a text reads as, and which paths pass the limits.
use Rattle.std.specs.Prelude.{ℕ, Bool, List, [], ◌∷◌, ◌++◌, length, Option, Some, None, nat_lt, nat_le, ◌==◌, ◌&&◌, Result, Ok, Err, if◌then◌else◌, filter}
use Rattle.std.specs.List.{slice_split, prefix_len}
use Rattle.dc_path.specs.declared.path.PathError.{PathError}
use Rattle.dc_path.specs.declared.path.PathError.TheVariants.{Empty, Relative, BadName, TooDeep, TooLong}
use Rattle.dc_path.specs.Names.{is_name}
use Rattle.dc_path.specs.Paths.{Names, joined, cut, max_names, max_bytes}

-- a part between two `/` that has bytes
abbrev pub is_filled : List ℕ → Bool
is_filled part = nat_lt 0 (length part)

-- the parts between runs of `/`
abbrev pub parts_of : List ℕ → List (List ℕ)
parts_of text = filter is_filled (slice_split (λ byte. byte == 47) text)

-- a path within the limits of depth and length, or the first limit that it passes
abbrev pub within_limits : Names → Result Names PathError
within_limits names =
    if nat_lt max_names (length names) then Err TooDeep else
    if nat_lt max_bytes (length (joined names)) then Err TooLong else Ok names

-- an answer with a path, as one that may have none
abbrev pub some_path : Result Names PathError → Result (Option Names) PathError
some_path (Ok names) = Ok (Some names)
some_path (Err e) = Err e

-- the one path followed by the rest, where there is one
abbrev pub followed_by : Names → Option Names → Result (Option Names) PathError
followed_by to None = Ok None
followed_by to (Some rest) = some_path (within_limits (to ++ rest))

-- `to` in the place of the front of a path
abbrev pub grafted : Names → Names → Names → Result (Option Names) PathError
grafted front to path = followed_by to (cut front path)

-- The path of these parts. The first that is no name is refused, unless a 257th name stands before it.
abbrev pub path_of : List (List ℕ) → Result Names PathError
path_of parts =
    let good = prefix_len is_name parts in
    if nat_lt good (length parts) && nat_le good max_names then Err (BadName good) else within_limits parts

-- the path that a text reads as
abbrev pub path_from : List ℕ → Result Names PathError
path_from [] = Err Empty
path_from (byte ∷ bytes) = if byte == 47 then path_of (parts_of (byte ∷ bytes)) else Err Relative
