-- What a step changes in an arena.
use Rattle.std.specs.Prelude.{◌≡◌, ℕ, List, [], Option, Some, None}
use Rattle.dc_attrs.specs.Trees.{Node}
use Rattle.dc_tree.specs.declared.slots.Popped.{Popped}
use Rattle.dc_tree.specs.declared.slots.Popped.TheVariants as popped
use Rattle.dc_tree.specs.Homes.{home_at, Rehomed}
use Rattle.dc_tree.specs.declared.homes.Home.{Home}
use Rattle.dc_tree.specs.Arena.{Cell, GoneCell, cell_at, node_of, links_of, find, link, node, tree_of, IsArena}

-- h is g with a link set
pub record Relinked (g h : ℕ → List ℕ → Option ℕ) (at : ℕ) (name : List ℕ) (to : Option ℕ) : Type 0 where
  pub here : h at name ≡ to
  pub others : (k : ℕ) (x : List ℕ) → (k ≡ at → x ≡ name → ⊥) → h k x ≡ g k x

-- m is n with this at one cell
pub record Renoded (n m : ℕ → Option Node) (at : ℕ) (to : Option Node) : Type 0 where
  pub here : m at ≡ to
  pub others : (k : ℕ) → (k ≡ at → ⊥) → m k ≡ n k

-- a link is set in the cells
pub record Links (old : List Cell) (at : ℕ) (name : List ℕ) (to : Option ℕ) (new : List Cell) : Type 0 where
  pub set : Relinked (link old) (link new) at name to
  pub nodes : node new ≡ node old

-- a node is set in the cells
pub record Nodes (old : List Cell) (at : ℕ) (to : Option Node) (new : List Cell) : Type 0 where
  pub links : link new ≡ link old
  pub put : Renoded (node old) (node new) at to

-- one cell is another
pub record Puts (old : List Cell) (at : ℕ) (cell : Cell) (new : List Cell) : Type 0 where
  pub here : cell_at new at ≡ cell
  pub others : (k : ℕ) → (k ≡ at → ⊥) → cell_at new k ≡ cell_at old k

-- a new cell is hung at a link
pub record Adds (old : List Cell) (at : ℕ) (name : List ℕ) (to : Option Node) (new : List Cell) : Type 0 where
  pub cell : ℕ
  pub nothing : node old cell ≡ None
  pub bare : (x : List ℕ) → link old cell x ≡ None
  pub set : Relinked (link old) (link new) at name (Some cell)
  pub put : Renoded (node old) (node new) cell to

-- a link is set in one cell
pub record Child (old : Cell) (name : List ℕ) (to : Option ℕ) (new : Cell) : Type 0 where
  pub node : node_of new ≡ node_of old
  pub here : find name (links_of new) ≡ to
  pub others : (x : List ℕ) → (x ≡ name → ⊥) → find x (links_of new) ≡ find x (links_of old)

-- a cell is edited, with the links that it had
pub record Edit (old : Cell) (to : Option Node) (new : Cell) : Type 0 where
  pub node : node_of new ≡ to
  pub links : links_of new ≡ links_of old

-- what is taken out of a cell that was given up: a link with what it led to, or nothing
abbrev pub Pops : Cell → Popped → Cell → Type 0
Pops old (popped.Child c) new = (x : List ℕ) × (find x (links_of old) ≡ Some c) × (node_of old ≡ None) × Child old x None new
Pops old (popped.Bare next) new = new ≡ old
Pops old popped.Kept new = new ≡ old

-- the same in the cells
abbrev pub PopsAt : List Cell → ℕ → Popped → List Cell → Type 0
PopsAt old at (popped.Child c) new = (x : List ℕ) × (link old at x ≡ Some c) × (node old at ≡ None) × Links old at x None new
PopsAt old at (popped.Bare next) new = new ≡ old
PopsAt old at popped.Kept new = new ≡ old

-- an arena stays one, and the same tree, and no link is new
pub record Keeps (old new : List Cell) : Type 0 where
  pub fewer : (k : ℕ) (x : List ℕ) (c : ℕ) → link new k x ≡ Some c → link old k x ≡ Some c
  pub arena : IsArena old → IsArena new
  pub tree : IsArena old → tree_of new ≡ tree_of old

-- a link to a cell is set, and it is noted where that cell hangs
pub record Hangs (old : List Cell) (was : List (Option Home)) (at : ℕ) (name : List ℕ) (place : ℕ) (new : List Cell) (now : List (Option Home)) : Type 0 where
  pub set : Links old at name (Some place) new
  pub home : Rehomed was now place (record { parent = at; name = name })

-- so of a cell that holds nothing
pub record Takes (old : List Cell) (was : List (Option Home)) (at : ℕ) (name : List ℕ) (place : ℕ) (new : List Cell) (now : List (Option Home)) : Type 0 where
  pub blank : cell_at old place ≡ GoneCell []
  pub hangs : Hangs old was at name place new now

-- a new cell is hung, and it is noted where
pub record Grows (old : List Cell) (was : List (Option Home)) (at : ℕ) (name : List ℕ) (to : Option Node) (new : List Cell) (now : List (Option Home)) : Type 0 where
  pub adds : Adds old at name to new
  pub home : (c : ℕ) → link new at name ≡ Some c → Rehomed was now c (record { parent = at; name = name })

-- each cell and each note is as it was
pub record Stays (old : List Cell) (was : List (Option Home)) (new : List Cell) (now : List (Option Home)) : Type 0 where
  pub cells : cell_at new ≡ cell_at old
  pub homes : home_at now ≡ home_at was
