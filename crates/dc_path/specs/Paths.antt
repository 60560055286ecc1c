-- Paths as lists of names (POSIX.1, "Pathname", without `.` and `..`): limits, texts, order, prefixes.
use Rattle.std.specs.Prelude.{ℕ, Bool, true, false, cond, List, [], ◌∷◌, ◌-◌, length, nat_eq, nat_le, ◌≤◌, IsTrue, Option, Some, None, take, ◌&&◌}
use Rattle.std.specs.Option.{is_some}
use Rattle.std.specs.List.{flat_map, list_all, list_any}
use Rattle.std.specs.Cmp.Lexicographic.{pointwise, slice_cmp}
use Rattle.std.specs.Ordering.{nat_cmp}
use Rattle.std.specs.declared.cmp.Ordering.{Ordering}
use Rattle.dc_path.specs.Names.{is_name, same_name}

-- a path is a list of names, of any length; each name is a list of bytes
abbrev pub Names : Type 0
Names = List (List ℕ)

-- a `/` and a name for each name
abbrev pub joined : Names → List ℕ
joined names = flat_map (λ name. 47 ∷ name) names

-- the text of a path: `/` for the root
abbrev pub text_of : Names → List ℕ
text_of [] = 47 ∷ []
text_of (name ∷ names) = joined (name ∷ names)

-- `.` followed by the text, and `.` alone for the root
abbrev pub dotted_of : Names → List ℕ
dotted_of names = 46 ∷ joined names

-- the most names of a `Path`, and the most bytes of its text
abbrev pub max_names : ℕ
max_names = 256

abbrev pub max_bytes : ℕ
max_bytes = 4096

-- a list of names within the limits of a `Path`
pub record IsWithin (names : Names) : Type 0 where
  pub few : length names ≤ max_names
  pub short : length (joined names) ≤ max_bytes

-- the same as a test
abbrev pub fits : Names → Bool
fits names = nat_le (length names) max_names && nat_le (length (joined names)) max_bytes

-- what a `Path` is
pub record IsPath (names : Names) : Type 0 where
  pub named : IsTrue (list_all is_name names)
  pub few : length names ≤ max_names
  pub short : length (joined names) ≤ max_bytes

-- the order of paths: name by name by bytes, a prefix first
abbrev pub path_cmp : Names → Names → Ordering
path_cmp = slice_cmp (slice_cmp nat_cmp)

-- two paths are the same names
abbrev pub same_path : Names → Names → Bool
same_path = pointwise (pointwise nat_eq)

-- what follows the front in the path, where the path begins with it
abbrev pub cut : Names → Names → Option Names
cut [] path = Some path
cut (x ∷ front) [] = None
cut (x ∷ front) (y ∷ path) = cond (same_name x y) (cut front path) None

-- one answer where there is no rest, and another by the rest
abbrev pub at_cut : {A : Type 0} → Option Names → A → (Names → A) → A
at_cut None other here = other
at_cut (Some rest) other here = here rest

-- the path begins with the front
abbrev pub is_under : Names → Names → Bool
is_under front path = is_some (cut front path)

-- the names but the last
abbrev pub front_of : Names → Names
front_of path = take (length path - 1) path

-- the path without its last name; none for the root
abbrev pub parent_of : Names → Option Names
parent_of [] = None
parent_of (name ∷ names) = Some (front_of (name ∷ names))

-- the path of no names
abbrev pub is_root : Names → Bool
is_root [] = true
is_root (x ∷ path) = false

-- the one path is a proper prefix of the other
abbrev pub is_above : Names → Names → Bool
is_above [] [] = false
is_above [] (y ∷ path) = true
is_above (x ∷ front) [] = false
is_above (x ∷ front) (y ∷ path) = same_name x y && is_above front path

-- one of the names of the path is this one
abbrev pub has_name : List ℕ → Names → Bool
has_name name path = list_any (same_name name) path
