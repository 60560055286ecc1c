-- What is at a path of an arena, and under what.
use Rattle.std.specs.Prelude.{◌≡◌, ◌≢◌, ℕ, List, [], ◌∷◌, ◌++◌, ◌-◌, Some, None, Result, Ok, Err, slice_get, length}
use Rattle.dc_path.specs.Paths.{Names, front_of}
use Rattle.dc_attrs.specs.Attributes.{Attributes}
use Rattle.dc_attrs.specs.Trees.{Node, Dir, Tree, IsTree, seen_node, seen}
use Rattle.dc_attrs.specs.Fitting.{HasFittingAttrs}
use Rattle.dc_attrs.specs.Refusals.{refused_in, refused_at, refused_file}
use Rattle.dc_attrs.specs.declared.shown.Seen.TheVariants as seen_as
use Rattle.dc_attrs.specs.declared.refusals.TreeError.{TreeError}
use Rattle.dc_attrs.specs.declared.refusals.TreeError.TheVariants as tree_error
use Rattle.dc_tree.specs.declared.slots.Way.{Way}
use Rattle.dc_tree.specs.declared.slots.Way.TheVariants as way_is
use Rattle.dc_tree.specs.declared.slots.Place.{Place}
use Rattle.dc_tree.specs.declared.slots.Place.TheVariants as place_is
use Rattle.dc_tree.specs.Arena.{Cell, reach, link, node, tree_of, IsArena, seen_way, node_way}

-- a path at which what is in a cell stands
pub record IsAt (cells : List Cell) (p : Names) (slot : ℕ) : Type 0 where
  pub forest : IsArena cells
  pub at : reach (link cells) 0 p ≡ Some slot
  pub there : (v : Node) × (node cells slot ≡ Some v)
  pub seen : seen (tree_of cells) p ≡ seen_node (node cells slot)
  pub node : tree_of cells p ≡ node cells slot

-- a path at which nothing stands
pub record IsAbsent (cells : List Cell) (p : Names) (why : TreeError) : Type 0 where
  pub memory : why ≢ tree_error.Memory
  pub absent : tree_of cells p ≡ None
  pub at : refused_at (seen (tree_of cells) p) ≡ Some why
  pub file : refused_file (seen (tree_of cells) p) ≡ Some why
  pub dir : refused_in (seen (tree_of cells) p) ≡ Some why

-- a path whose parent is a directory
pub record IsUnder (cells : List Cell) (p : Names) (parent : ℕ) : Type 0 where
  pub name : List ℕ
  pub last : slice_get p (length p - 1) ≡ Some name
  pub is : p ≡ front_of p ++ name ∷ []
  pub there : reach (link cells) 0 (front_of p) ≡ Some parent
  pub dir : (a : Attributes) × (node cells parent ≡ Some (Dir a))
  pub front : seen (tree_of cells) (front_of p) ≡ seen_as.Dir

-- a path whose parent is no directory
pub record IsCutOff (cells : List Cell) (p : Names) (why : TreeError) : Type 0 where
  pub some : p ≢ []
  pub absent : IsAbsent cells p why
  pub front : refused_in (seen (tree_of cells) (front_of p)) ≡ Some why

-- the root
pub record IsRoot (cells : List Cell) (p : Names) : Type 0 where
  pub forest : IsArena cells
  pub is : p ≡ []
  pub dir : (a : Attributes) × (tree_of cells p ≡ Some (Dir a))
  pub seen : seen (tree_of cells) p ≡ seen_as.Dir

-- a path at which something stands, in the cell `child` under the cell `parent`
pub record IsTaken (cells : List Cell) (p : Names) (parent child : ℕ) : Type 0 where
  pub some : p ≢ []
  pub stands : IsAt cells p child
  pub under : IsUnder cells p parent
  pub held : link cells parent under.name ≡ Some child

-- a path at which nothing stands, under the cell `parent`
pub record IsVacant (cells : List Cell) (p : Names) (parent : ℕ) : Type 0 where
  pub forest : IsArena cells
  pub some : p ≢ []
  pub under : IsUnder cells p parent
  pub vacant : link cells parent under.name ≡ None
  pub absent : tree_of cells p ≡ None
  pub seen : seen (tree_of cells) p ≡ seen_as.Missing

-- what is at a path, and under what
abbrev pub FitsPlace : List Cell → Names → Place → Type 0
FitsPlace cells p place_is.Root = IsRoot cells p
FitsPlace cells p (place_is.Taken parent child) = IsTaken cells p parent child
FitsPlace cells p (place_is.Vacant parent) = IsVacant cells p parent
FitsPlace cells p (place_is.Refused why) = IsCutOff cells p why

-- where a path leads
pub record Leads (cells : List Cell) (p : Names) (way : Way) : Type 0 where
  pub forest : IsArena cells
  pub seen : seen (tree_of cells) p ≡ seen_way cells way
  pub node : tree_of cells p ≡ node_way cells way
  pub at : (k : ℕ) → way ≡ way_is.At k → reach (link cells) 0 p ≡ Some k

-- a tree, with attributes that fit
pub record IsSound (t : Tree) : Type 0 where
  pub tree : IsTree t
  pub fits : HasFittingAttrs t

-- an arena, and that it holds a tree
abbrev pub IsWhole : List Cell → Type 0
IsWhole cells = IsArena cells × IsTree (tree_of cells)

-- in which cell what is at a path stands, or why nothing does
abbrev pub FitsSlot : List Cell → Names → Result ℕ TreeError → Type 0
FitsSlot cells p (Ok slot) = IsAt cells p slot
FitsSlot cells p (Err why) = IsAbsent cells p why
