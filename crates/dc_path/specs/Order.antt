-- The order of paths as tests: what comes first, what comes after a whole part, what ascends.
use Rattle.std.specs.Prelude.{ℕ, Bool, true, false, List, [], ◌∷◌, nat_eq, nat_lt, ◌&&◌, ◌||◌}
use Rattle.std.specs.List.{list_all}
use Rattle.dc_path.specs.Names.{same_name}
use Rattle.dc_path.specs.Paths.{Names}

-- a name before another: by bytes, a prefix first
abbrev pub name_lt : List ℕ → List ℕ → Bool
name_lt [] [] = false
name_lt [] (b ∷ y) = true
name_lt (a ∷ x) [] = false
name_lt (a ∷ x) (b ∷ y) = nat_lt a b || (nat_eq a b && name_lt x y)

-- a path before another: by names, a prefix first
abbrev pub path_lt : Names → Names → Bool
path_lt [] [] = false
path_lt [] (y ∷ q) = true
path_lt (x ∷ p) [] = false
path_lt (x ∷ p) (y ∷ q) = name_lt x y || (same_name x y && path_lt p q)

-- a path comes after the first one and after all that is under it
abbrev pub is_after : Names → Names → Bool
is_after [] q = false
is_after (x ∷ p) [] = false
is_after (x ∷ p) (y ∷ q) = name_lt x y || (same_name x y && is_after p q)

-- each path comes before this one
abbrev pub all_below : List Names → Names → Bool
all_below paths q = list_all (λ p. path_lt p q) paths

-- each path comes before those after it
abbrev pub is_ascending : List Names → Bool
is_ascending [] = true
is_ascending (p ∷ paths) = list_all (path_lt p) paths && is_ascending paths
