-- Trees as functions from paths (HDFS, "The File System Namespace"), what a change makes of them, and what a look at them shows.
use Rattle.std.specs.Prelude.{◌≡◌, ℕ, Bool, true, false, cond, List, [], ◌∷◌, ◌++◌, length, Option, Some, None, codes}
use Rattle.dc_path.specs.Names.{same_name}
use Rattle.dc_path.specs.Paths.{Names, same_path, cut, at_cut, has_name}
use Rattle.dc_attrs.specs.Attributes.{Attributes, default_dir}
use Rattle.dc_attrs.specs.declared.shown.Seen.{Seen}
use Rattle.dc_attrs.specs.declared.shown.Seen.TheVariants as seen_as

-- what stands at a path: a directory, or a file with its bytes
pub data Node : Type 0 where
  Dir : (attrs : Attributes) → Node
  File : (bytes : List ℕ) → (attrs : Attributes) → Node

-- a tree: what stands at each path, or nothing
abbrev pub Tree : Type 0
Tree = Names → Option Node

abbrev pub IsDirAt : Tree → Names → Type 0
IsDirAt t p = (a : Attributes) × (t p ≡ Some (Dir a))

-- something stands at the path
abbrev pub IsThere : Tree → Names → Type 0
IsThere t p = (n : Node) × (t p ≡ Some n)

-- nothing stands at the path, and its parent is a directory
pub record IsFree (t : Tree) (p : Names) : Type 0 where
  pub absent : t p ≡ None
  pub parent : Names
  pub name : List ℕ
  pub path : p ≡ parent ++ name ∷ []
  pub dir : IsDirAt t parent

-- the root is a directory, and so is the parent of each path that stands
pub record IsTree (t : Tree) : Type 0 where
  pub root : IsDirAt t []
  pub parents : (p : Names) (x : List ℕ) (n : Node) → t (p ++ x ∷ []) ≡ Some n → IsDirAt t p

-- the name under which snapshots are read (HDFS Snapshots, "Snapshot Paths")
abbrev pub snapshot : List ℕ
snapshot = codes ".snapshot"

-- a path below a walk's root is hidden where it has that name
abbrev pub is_hidden : Names → Bool
is_hidden rel = has_name snapshot rel

-- a valid tree: under a directory that has snapshots, no path outside them has their name
pub record IsValid (t : Tree) : Type 0 where
  pub tree : IsTree t
  pub snapshots : (d : Names) (x : List ℕ) (rest : Names) → IsThere t (d ++ snapshot ∷ []) → IsThere t (d ++ x ∷ rest) → same_name x snapshot ≡ false → is_hidden rest ≡ false

-- the paths under one path, cut there
abbrev pub at : Tree → Names → Tree
at t d q = t (d ++ q)

-- ---- changes
-- the tree with what stands at p changed
abbrev pub updated : Tree → Names → (Option Node → Option Node) → Tree
updated t p change q = cond (same_path p q) (change (t q)) (t q)

-- the tree with this node at p
abbrev pub with_node : Tree → Names → Node → Tree
with_node t p n = updated t p (λ _. Some n)

-- the root alone, as a new directory
abbrev pub bare : Tree
bare = with_node (λ _. None) [] (Dir default_dir)

-- the tree without p and what is under it
abbrev pub without : Tree → Names → Tree
without t p q = at_cut (cut p q) (t q) (λ rest. None)

-- the tree in which what stood at one path and under it stands at another
abbrev pub moved : Tree → Names → Names → Tree
moved t from to q = at_cut (cut to q) (without t from q) (λ rest. t (from ++ rest))

-- ---- what a look shows
abbrev pub seen_node : Option Node → Seen
seen_node None = seen_as.Missing
seen_node (Some (Dir a)) = seen_as.Dir
seen_node (Some (File b a)) = seen_as.File (length b)

-- a prefix that is no directory ends the way
abbrev pub seen_on : Option Node → Seen → Seen
seen_on None s = seen_as.Missing
seen_on (Some (Dir a)) s = s
seen_on (Some (File b a)) s = seen_as.NotDir

abbrev pub seen_from : Tree → Names → Names → Seen
seen_from t front [] = seen_node (t front)
seen_from t front (x ∷ rest) = seen_on (t front) (seen_from t (front ++ x ∷ []) rest)

-- what a look at a path shows: going from the root, the first prefix that is no directory decides
abbrev pub seen : Tree → Names → Seen
seen t p = seen_from t [] p

-- ---- a node, taken apart
-- a directory, and a directory where something stands
abbrev pub is_dir : Node → Bool
is_dir (Dir a) = true
is_dir (File b a) = false

abbrev pub is_dir_node : Option Node → Bool
is_dir_node None = false
is_dir_node (Some n) = is_dir n

abbrev pub bytes_of : Option Node → Option (List ℕ)
bytes_of None = None
bytes_of (Some (Dir a)) = None
bytes_of (Some (File b a)) = Some b

abbrev pub attrs_of : Option Node → Option Attributes
attrs_of None = None
attrs_of (Some (Dir a)) = Some a
attrs_of (Some (File b a)) = Some a

-- a default directory where nothing stands
abbrev pub made : Option Node → Option Node
made None = Some (Dir default_dir)
made (Some n) = Some n

-- the same node with these attributes
abbrev pub with_attrs : Attributes → Option Node → Option Node
with_attrs a None = None
with_attrs a (Some (Dir b)) = Some (Dir a)
with_attrs a (Some (File bytes b)) = Some (File bytes a)

-- the same file with these bytes at its end
abbrev pub appended : List ℕ → Option Node → Option Node
appended more None = None
appended more (Some (Dir a)) = Some (Dir a)
appended more (Some (File b a)) = Some (File (b ++ more) a)
