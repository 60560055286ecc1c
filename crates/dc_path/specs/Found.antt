-- A list as a map from paths: the first item that has a path.
use Rattle.std.specs.Prelude.{List, [], ◌∷◌, Bool, cond, Option, Some, None}
use Rattle.std.specs.List.{list_any}
use Rattle.dc_path.specs.Paths.{Names, same_path}

-- the first item with this path
abbrev pub found : {A : Type 0} → (A → Names) → List A → Names → Option A
found path_of [] q = None
found path_of (x ∷ xs) q = cond (same_path (path_of x) q) (Some x) (found path_of xs q)

-- the path is in the list
abbrev pub has_path : List Names → Names → Bool
has_path paths q = list_any (λ p. same_path p q) paths
