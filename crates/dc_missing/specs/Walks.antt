-- What a walk of the target meets, and where it stops.
use Rattle.std.specs.Prelude.{◌≡◌, ◌⊎◌, ℕ, ◌+◌, ◌*◌, ◌≤◌, ◌<◌, ⊤, Bool, true, false, not, ◌&&◌, ◌||◌, List, [], ◌∷◌, ◌++◌, length, Option, Some, None, Result, Ok, Err}
use Rattle.std.specs.Option.{is_some}
use Rattle.dc_path.specs.Found.{has_path}
use Rattle.dc_path.specs.Order.{is_ascending}
use Rattle.dc_path.specs.Paths.{Names, fits}
use Rattle.dc_attrs.specs.Trees.{Tree, IsDirAt, is_dir_node, is_hidden, snapshot}
use Rattle.dc_listing.specs.Walking.{is_below}
use Rattle.dc_listing.specs.Walks.{is_before}
use Rattle.dc_missing.specs.Limits.{max_paths}
use Rattle.dc_missing.specs.declared.error.DeleteError.{DeleteError}
use Rattle.dc_missing.specs.declared.error.DeleteError.TheVariants as delete_error

-- what stands at this path from a directory is met: it is not hidden
abbrev pub is_met : Tree → Names → Names → Bool
is_met t dir q = is_some (t (dir ++ q)) && not (is_hidden q)

-- what stands there is within the limits of a path, and so is the place of snapshots in it, if it is a directory
abbrev pub has_room : Tree → Names → Bool
has_room t p = fits p && (not (is_dir_node (t p)) || fits (p ++ snapshot ∷ []))

-- these are the paths, in their order, that a walk of a part of a directory meets before it stops; all are within the limits
pub record Meets (t : Tree) (dir : Names) (part : Names → Bool) (stop : Option Names) (met : List Names) : Type 0 where
  pub ascending : is_ascending met ≡ true
  pub all : (q : Names) → has_path met q ≡ (part q && (is_met t dir q && is_before stop q))
  pub within : (q : Names) → has_path met q ≡ true → has_room t (dir ++ q) ≡ true

-- a walk stops at a path that it meets after so many others: the path passes the limits, or there are too many, or the place
-- of snapshots in this directory passes the limits
abbrev pub IsLimit : DeleteError → Tree → Names → ℕ → Type 0
IsLimit delete_error.TooMany t p count = (fits p ≡ true) × (count ≡ max_paths)
IsLimit (delete_error.TooLong parent name) t p count =
    ((p ≡ parent ++ name ∷ []) × (fits p ≡ false) × (count ≤ max_paths)) ⊎
    ((p ≡ parent) × (snapshot ≡ name) × IsDirAt t p × (fits p ≡ true) × (fits (p ++ snapshot ∷ []) ≡ false) × (count < max_paths))
IsLimit (delete_error.Changed path) t p count = ⊥
IsLimit delete_error.Fault t p count = ⊥
IsLimit delete_error.Memory t p count = ⊥

-- the walk of a part has stopped at a path, by a limit
pub record StopsAt (e : DeleteError) (t : Tree) (dir : Names) (part : Names → Bool) (before : ℕ) : Type 0 where
  pub stop : Names
  pub here : part stop ≡ true
  pub stands : is_met t dir stop ≡ true
  pub met : List Names
  pub meets : Meets t dir part (Some stop) met
  pub limit : IsLimit e t (dir ++ stop) (before + length met)

-- the same, unless the target failed or memory ran out
abbrev pub Stops : DeleteError → Tree → Names → (Names → Bool) → ℕ → Type 0
Stops delete_error.TooMany t dir part before = StopsAt delete_error.TooMany t dir part before
Stops (delete_error.TooLong parent name) t dir part before = StopsAt (delete_error.TooLong parent name) t dir part before
Stops (delete_error.Changed path) t dir part before = ⊥
Stops delete_error.Fault t dir part before = ⊤
Stops delete_error.Memory t dir part before = ⊤

-- a walk has met all of a part, and counted it
pub record MeetsAll (t : Tree) (dir : Names) (part : Names → Bool) (before now : ℕ) : Type 0 where
  pub met : List Names
  pub meets : Meets t dir part None met
  pub count : now ≡ before + length met

-- a walk has met all that stands below the base, not too many, and looked at most three times for each
pub record WalksAll (t : Tree) (base : Names) (looks_before looks_now : ℕ) : Type 0 where
  pub met : List Names
  pub meets : Meets t base is_below None met
  pub few : length met ≤ max_paths
  pub looks : looks_now ≤ looks_before + (2 + 3 * length met)

-- a walk of all that stands below the base has come to its end, or stopped
abbrev pub Walks : {A : Type 0} → Tree → Names → Result A DeleteError → ℕ → ℕ → Type 0
Walks t base (Ok x) looks_before looks_now = WalksAll t base looks_before looks_now
Walks t base (Err e) looks_before looks_now = Stops e t base is_below 0
