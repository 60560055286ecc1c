-- What a walk of one root adds to a list, and where it stops.
use Rattle.std.specs.Prelude.{◌≡◌, ℕ, ◌≤◌, ⊤, Bool, true, ◌&&◌, List, [], ◌∷◌, ◌++◌, map, length, Option, Some, None, Result, Ok, Err, IsTrue}
use Rattle.std.specs.List.{list_all, All}
use Rattle.dc_path.specs.Found.{has_path}
use Rattle.dc_path.specs.Order.{path_lt, is_ascending}
use Rattle.dc_path.specs.Paths.{Names, is_under}
use Rattle.dc_attrs.specs.Trees.{Tree, Node}
use Rattle.dc_listing.specs.Entries.{Entry, rel_of, from_of, entry_of, fits_under}
use Rattle.dc_listing.specs.Errors.{Passes}
use Rattle.dc_listing.specs.Listed.{Rules, is_listed, is_met, past}
use Rattle.dc_listing.specs.declared.item.Root.{Root}
use Rattle.dc_listing.specs.declared.item.ListError.{ListError}
use Rattle.dc_listing.specs.declared.item.ListError.TheVariants as list_error

-- the most entries of a listing
abbrev pub max_items : ℕ
max_items = 1048576

-- the path comes before the one at which a walk stops, if it stops
abbrev pub is_before : Option Names → Names → Bool
is_before None q = true
is_before (Some stop) q = path_lt q stop

-- the entry is that of what stands in the source
pub record IsShown (s : Tree) (entry : Entry) : Type 0 where
  pub node : Node
  pub stands : s entry.from ≡ Some node
  pub is : entry ≡ entry_of entry.rel entry.from node

-- these are the paths, in their order, that pass the test
pub record InOrder (test : Names → Bool) (paths : List Names) : Type 0 where
  pub ascending : is_ascending paths ≡ true
  pub all : (q : Names) → has_path paths q ≡ test q

-- the list has gained entries at these paths from two others, one in the source and one under the target, each within the
-- limits under the base
pub record Adds (from rel base : Names) (rests : List Names) (old new added : List Entry) : Type 0 where
  pub is : new ≡ old ++ added
  pub rels : map rel_of added ≡ map (λ rest. rel ++ rest) rests
  pub froms : map from_of added ≡ map (λ rest. from ++ rest) rests
  pub ascending : is_ascending rests ≡ true
  pub places : list_all (fits_under base) added ≡ true

-- for every store: a list has gained entries under a root in path order, each within the limits under the base
pub record Gains (root : Root) (base : Names) (old new : List Entry) : Type 0 where
  pub rests : List Names
  pub added : List Entry
  pub adds : Adds root.source root.prefix base rests old new added

-- a list has gained, in path order, the entries of all that the root lists before the path at which the walk stops; no path
-- that the walk meets before passes the limits
pub record Lists (rules : Rules) (s : Tree) (root : Root) (base : Names) (stop : Option Names) (old new : List Entry) : Type 0 where
  pub rests : List Names
  pub added : List Entry
  pub adds : Adds root.source root.prefix base rests old new added
  pub listed : (q : Names) → has_path rests q ≡ (is_listed rules s root q && is_before stop q)
  pub shown : All (IsShown s) added
  pub within : (q : Names) → IsTrue (is_met rules s root q) → IsTrue (is_before stop q) → past rules s root base q ≡ None

-- the first path that passes the limits on the way to this one, told by its parent and its last name
pub record IsFirstPast (path parent : Names) (name : List ℕ) : Type 0 where
  pub front : is_under (parent ++ name ∷ []) path ≡ true
  pub passes : Passes parent name

-- the refusal of a path that passes the limits, or want of memory
abbrev pub IsPastOn : ListError → Names → Type 0
IsPastOn (list_error.TooLong parent name) path = IsFirstPast path parent name
IsPastOn list_error.Memory path = ⊤
IsPastOn (list_error.NoSource other) path = ⊥
IsPastOn (list_error.Duplicate rel first second) path = ⊥
IsPastOn list_error.TooMany path = ⊥
IsPastOn (list_error.Changed other) path = ⊥
IsPastOn list_error.Fault path = ⊥

-- the limit that is passed where the walk stops, at a path that it meets there
abbrev pub IsLimit : ListError → Rules → Tree → Root → Names → Names → List Entry → Type 0
IsLimit list_error.TooMany rules s root base stop entries = IsTrue (is_listed rules s root stop) × (past rules s root base stop ≡ None) × (max_items ≤ length entries)
IsLimit (list_error.TooLong parent name) rules s root base stop entries = IsTrue (is_met rules s root stop) × (path : Names) × (past rules s root base stop ≡ Some path) × IsFirstPast path parent name
IsLimit (list_error.NoSource path) rules s root base stop entries = ⊥
IsLimit (list_error.Duplicate rel first second) rules s root base stop entries = ⊥
IsLimit (list_error.Changed path) rules s root base stop entries = ⊤
IsLimit list_error.Fault rules s root base stop entries = ⊤
IsLimit list_error.Memory rules s root base stop entries = ⊤

-- what a walk has added: all of the root, or what comes before the path at which it stops by its error
abbrev pub Walks : {A : Type 0} → Rules → Tree → Root → Names → Result A ListError → List Entry → List Entry → Type 0
Walks rules s root base (Ok x) old new = Lists rules s root base None old new
Walks rules s root base (Err e) old new = (stop : Names) × Lists rules s root base (Some stop) old new × IsLimit e rules s root base stop new
