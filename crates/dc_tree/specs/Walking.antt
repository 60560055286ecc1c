-- Two parts of arenas, walked in step: words for private functions.
use Rattle.std.specs.Prelude.{◌≡◌, ◌≢◌, ℕ, ◌≤◌, List, [], Bool, true, false, ◌&&◌, not, ◌⊎◌, Option, Some, None, length, ⊤}
use Rattle.std.specs.Option.{option_and_then}
use Rattle.std.specs.BTreeMap.{BTreeMap}
use Rattle.dc_path.specs.Names.{same_name}
use Rattle.dc_path.specs.Order.{name_lt, path_lt}
use Rattle.dc_path.specs.Paths.{Names}
use Rattle.dc_attrs.specs.Keeping.{Kept}
use Rattle.dc_attrs.specs.Trees.{Node, snapshot, is_hidden}
use Rattle.dc_tree.specs.Arena.{Cell, link, node, reach}
use Rattle.dc_tree.specs.Same.{alike, counted}
use Rattle.dc_tree.specs.declared.same.Next.{Next}
use Rattle.dc_tree.specs.declared.same.Next.TheVariants as next_is
use Rattle.dc_tree.specs.declared.same.Pair.{Pair}
use Rattle.dc_tree.specs.declared.same.Turn.{Turn}
use Rattle.dc_tree.specs.declared.same.Turn.TheVariants as turn_is

-- ---- names in a directory

-- the links of a directory, or none
abbrev pub links_in : Option (BTreeMap (List ℕ) ℕ) → List (List ℕ × ℕ)
links_in None = []
links_in (Some m) = m.entries

-- a name comes after another one; any name does where there is no other
abbrev pub comes_after : Option (List ℕ) → List ℕ → Bool
comes_after None y = true
comes_after (Some x) y = name_lt x y

-- such a name that is not hidden
abbrev pub is_next : Option (List ℕ) → List ℕ → Bool
is_next after y = comes_after after y && not (same_name snapshot y)

-- the first name of a test that leads anywhere
pub record IsFirst (g : List ℕ → Option ℕ) (test : List ℕ → Bool) (x : List ℕ) : Type 0 where
  pub passes : test x ≡ true
  pub there : g x ≢ None
  pub first : (y : List ℕ) → test y ≡ true → name_lt y x ≡ true → g y ≡ None

abbrev pub NoneLeads : (List ℕ → Option ℕ) → (List ℕ → Bool) → Type 0
NoneLeads g test = (y : List ℕ) → test y ≡ true → g y ≡ None

-- the first name of a test that leads anywhere, or none
abbrev pub FitsFirst : (List ℕ → Option ℕ) → (List ℕ → Bool) → Option (List ℕ) → Type 0
FitsFirst g test None = NoneLeads g test
FitsFirst g test (Some x) = IsFirst g test x

-- ---- one pair of slots

-- each name under the second slot that is not hidden is one under the first
abbrev pub AreKnown : List Cell → ℕ → List Cell → ℕ → Type 0
AreKnown a i b j = (x : List ℕ) → same_name snapshot x ≡ false → link a i x ≡ None → link b j x ≡ None

-- a name is under the second slot, and not under the first
pub record IsUnknown (a : List Cell) (i : ℕ) (b : List Cell) (j : ℕ) : Type 0 where
  pub name : List ℕ
  pub slot : ℕ
  pub shown : same_name snapshot name ≡ false
  pub absent : link a i name ≡ None
  pub there : link b j name ≡ Some slot

-- two slots are alike, and the second has no name that the first lacks
pub record Matched (keep : Kept) (a : List Cell) (i : ℕ) (b : List Cell) (j : ℕ) : Type 0 where
  pub same : alike keep (node a i) (node b j) ≡ true
  pub known : AreKnown a i b j

abbrev pub Unmatched : Kept → List Cell → ℕ → List Cell → ℕ → Type 0
Unmatched keep a i b j = (alike keep (node a i) (node b j) ≡ false) ⊎ IsUnknown a i b j

-- a step to the first child after a name in both, or what keeps from it
abbrev pub FitsNext : List Cell → ℕ → List Cell → ℕ → Option (List ℕ) → Next → Type 0
FitsNext a i b j after (next_is.To c d) = (x : List ℕ) × IsFirst (link a i) (is_next after) x × (link a i x ≡ Some c) × (link b j x ≡ Some d)
FitsNext a i b j after next_is.Differs = (x : List ℕ) × (c : ℕ) × (same_name snapshot x ≡ false) × (link a i x ≡ Some c) × (link b j x ≡ None)
FitsNext a i b j after next_is.Nowhere = NoneLeads (link a i) (is_next after)

-- ---- the walk from two tops

-- what stands at a path from a cell
abbrev pub node_from : List Cell → ℕ → Names → Option Node
node_from cells at p = option_and_then (node cells) (reach (link cells) at p)

abbrev pub SameBelow : Kept → List Cell → ℕ → List Cell → ℕ → Type 0
SameBelow keep a i b j = (q : Names) → is_hidden q ≡ false → alike (counted keep q) (node_from a i q) (node_from b j q) ≡ true

abbrev pub DiffersBelow : Kept → List Cell → ℕ → List Cell → ℕ → Type 0
DiffersBelow keep a i b j = (q : Names) × (is_hidden q ≡ false) × (alike (counted keep q) (node_from a i q) (node_from b j q) ≡ false)

-- a path leads from both tops to this pair of slots
pub record Stands (a : List Cell) (i : ℕ) (b : List Cell) (j : ℕ) (r : Names) (at : Pair) : Type 0 where
  pub here : reach (link a) i r ≡ Some at.here
  pub there : reach (link b) j r ≡ Some at.there
  pub deep : length r ≡ at.depth
  pub shown : is_hidden r ≡ false

-- the walk goes to the first path of a test that leads anywhere in the first part
pub record Turns (a : List Cell) (i : ℕ) (b : List Cell) (j : ℕ) (test : Names → Bool) (at : Pair) : Type 0 where
  pub path : Names
  pub stands : Stands a i b j path at
  pub passes : test path ≡ true
  pub first : (q : Names) → is_hidden q ≡ false → test q ≡ true → path_lt q path ≡ true → reach (link a) i q ≡ None

-- a path leads from the first top alone
pub record Parts (a : List Cell) (i : ℕ) (b : List Cell) (j : ℕ) : Type 0 where
  pub path : Names
  pub slot : ℕ
  pub shown : is_hidden path ≡ false
  pub here : reach (link a) i path ≡ Some slot
  pub absent : reach (link b) j path ≡ None

-- how the walk goes on
abbrev pub FitsTurn : List Cell → ℕ → List Cell → ℕ → (Names → Bool) → Turn → Type 0
FitsTurn a i b j test (turn_is.To at) = Turns a i b j test at
FitsTurn a i b j test turn_is.Differs = Parts a i b j
FitsTurn a i b j test turn_is.Over = (q : Names) → is_hidden q ≡ false → test q ≡ true → reach (link a) i q ≡ None

-- it goes no deeper than this
abbrev pub IsNoDeeper : ℕ → Turn → Type 0
IsNoDeeper limit (turn_is.To at) = at.depth ≤ limit
IsNoDeeper limit turn_is.Differs = ⊤
IsNoDeeper limit turn_is.Over = ⊤
