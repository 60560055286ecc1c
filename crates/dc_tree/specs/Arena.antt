-- An arena of cells, read as a tree.
use Rattle.std.specs.Prelude.{◌≡◌, ◌≢◌, ℕ, List, [], ◌∷◌, Option, Some, None, get_or, IsTrue}
use Rattle.std.specs.Option.{option_and_then}
use Rattle.std.specs.Map.{lookup}
use Rattle.std.specs.Ordering.{nat_cmp, is_eq}
use Rattle.std.specs.Cmp.Lexicographic.{slice_cmp}
use Rattle.dc_path.specs.Paths.{Names}
use Rattle.dc_attrs.specs.Attributes.{Attributes}
use Rattle.dc_attrs.specs.Trees.{Node, Dir, File, Tree, seen_node}
use Rattle.dc_attrs.specs.declared.shown.Seen.{Seen}
use Rattle.dc_attrs.specs.declared.shown.Seen.TheVariants as seen_as
use Rattle.dc_tree.specs.declared.slots.Slot.{Slot}
use Rattle.dc_tree.specs.declared.slots.Slot.TheVariants as slot
use Rattle.dc_tree.specs.declared.slots.Way.{Way}
use Rattle.dc_tree.specs.declared.slots.Way.TheVariants as way_is
use Rattle.dc_attrs.specs.Fitting.{is_fitting}

-- a slot's content: a directory, a file, or what was cut off and may be taken again
pub data Cell : Type 0 where
  DirCell : (attrs : Attributes) → (links : List (List ℕ × ℕ)) → Cell
  FileCell : (bytes : List ℕ) → (attrs : Attributes) → Cell
  GoneCell : (links : List (List ℕ × ℕ)) → Cell

abbrev pub cell_of : Slot → Cell
cell_of (slot.Dir attrs children) = DirCell attrs children.entries
cell_of (slot.File bytes attrs) = FileCell bytes attrs
cell_of (slot.Gone next children) = GoneCell children.entries

abbrev pub links_of : Cell → List (List ℕ × ℕ)
links_of (DirCell a links) = links
links_of (FileCell b a) = []
links_of (GoneCell links) = links

abbrev pub node_of : Cell → Option Node
node_of (DirCell a links) = Some (Dir a)
node_of (FileCell b a) = Some (File b a)
node_of (GoneCell links) = None

-- to which cell a name leads
abbrev pub find : List ℕ → List (List ℕ × ℕ) → Option ℕ
find x links = lookup (λ k. is_eq (slice_cmp nat_cmp x k)) links

-- the cell at a place; past the end nothing stands, and nothing leads on
abbrev pub cell_at : List Cell → ℕ → Cell
cell_at cells k = get_or cells k (GoneCell [])

-- to which cell a name leads from a cell
unfoldable pub link : List Cell → ℕ → List ℕ → Option ℕ
link cells k x = find x (links_of (cell_at cells k))

-- what stands in a cell
unfoldable pub node : List Cell → ℕ → Option Node
node cells k = node_of (cell_at cells k)

-- to which cell a path leads from a cell
abbrev pub reach : (ℕ → List ℕ → Option ℕ) → ℕ → Names → Option ℕ
reach g at [] = Some at
reach g at (x ∷ p) = option_and_then (λ k. reach g k p) (g at x)

-- the tree of an arena: what stands in the cell to which a path leads from the first
unfoldable pub tree_of : List Cell → Tree
tree_of cells p = option_and_then (node cells) (reach (link cells) 0 p)

-- The first cell is a directory to which nothing leads; each other is led to from one place at most; attributes fit.
pub record IsForest (g : ℕ → List ℕ → Option ℕ) (n : ℕ → Option Node) : Type 0 where
  pub root : (a : Attributes) × (n 0 ≡ Some (Dir a))
  pub live : (k : ℕ) (x : List ℕ) (c : ℕ) → g k x ≡ Some c → n c ≢ None
  pub no_root : (k : ℕ) (x : List ℕ) → g k x ≢ Some 0
  pub apart : (k : ℕ) (x : List ℕ) (l : ℕ) (y : List ℕ) (c : ℕ) → g k x ≡ Some c → g l y ≡ Some c → (k ≡ l) × (x ≡ y)
  pub leaves : (k : ℕ) (x : List ℕ) (b : List ℕ) (a : Attributes) → n k ≡ Some (File b a) → g k x ≡ None
  pub fits : (k : ℕ) → IsTrue (is_fitting (n k))

-- the arena of a tree
abbrev pub IsArena : List Cell → Type 0
IsArena cells = IsForest (link cells) (node cells)

-- the step of a way
abbrev pub way_on : Option Node → Option ℕ → (ℕ → Way) → Way
way_on None to f = way_is.Missing
way_on (Some (File b a)) to f = way_is.NotDir
way_on (Some (Dir a)) None f = way_is.Missing
way_on (Some (Dir a)) (Some c) f = f c

-- the way of a path from a cell: to a cell, or to where it ends before
abbrev pub way_from : List Cell → ℕ → Names → Way
way_from cells at [] = way_is.At at
way_from cells at (x ∷ p) = way_on (node cells at) (link cells at x) (λ c. way_from cells c p)

-- what a way shows
abbrev pub seen_way : List Cell → Way → Seen
seen_way cells (way_is.At k) = seen_node (node cells k)
seen_way cells way_is.Missing = seen_as.Missing
seen_way cells way_is.NotDir = seen_as.NotDir

-- what stands at the end of a way
abbrev pub node_way : List Cell → Way → Option Node
node_way cells (way_is.At k) = node cells k
node_way cells way_is.Missing = None
node_way cells way_is.NotDir = None

abbrev pub IsFileNode : Option Node → Type 0
IsFileNode o = (b : List ℕ) × (a : Attributes) × (o ≡ Some (File b a))

abbrev pub IsDirNode : Option Node → Type 0
IsDirNode o = (a : Attributes) × (o ≡ Some (Dir a))
