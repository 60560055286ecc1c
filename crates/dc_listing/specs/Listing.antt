-- What the listing of all roots has, and why there is none.
use Rattle.std.specs.Prelude.{◌≡◌, ℕ, ◌+◌, ◌≤◌, ◌<◌, ⊤, true, false, List, ◌∷◌, ◌++◌, length, Some, None, Result, Ok, Err, IsTrue, slice_index_or}
use Rattle.std.specs.List.{All, AllAdjacentBelow}
use Rattle.dc_path.specs.Order.{path_lt}
use Rattle.dc_path.specs.Paths.{Names, same_path}
use Rattle.dc_attrs.specs.Trees.{Tree, IsThere}
use Rattle.dc_listing.specs.Entries.{Entry}
use Rattle.dc_listing.specs.Listed.{Rules, is_met, past, all_listed, entries_at, AreListed, AreTwo}
use Rattle.dc_listing.specs.Walks.{Lists, IsLimit, max_items}
use Rattle.dc_listing.specs.declared.item.Root.{Root}
use Rattle.dc_listing.specs.declared.item.ListError.{ListError}
use Rattle.dc_listing.specs.declared.item.ListError.TheVariants as list_error

-- the sources of all roots stand in the tree
abbrev pub AllStand : Tree → List Root → Type 0
AllStand s roots = All (λ root. IsThere s root.source) roots

-- no path that the walk of the root meets passes the limits
abbrev pub PassesNone : Rules → Tree → Names → Root → Type 0
PassesNone rules s base root = (q : Names) → IsTrue (is_met rules s root q) → past rules s root base q ≡ None

-- the entries are those of all that the roots list, and no path that their walks meet passes the limits
pub record ListsAll (rules : Rules) (s : Tree) (roots : List Root) (base : Names) (entries : List Entry) : Type 0 where
  pub are : AreListed (all_listed rules s roots) entries
  pub within : All (PassesNone rules s base) roots

-- the roots before one are listed whole, and the walk of that one stops at a path, by this error
pub record StopsAt (e : ListError) (rules : Rules) (s : Tree) (roots : List Root) (base : Names) : Type 0 where
  pub before : List Root
  pub root : Root
  pub after : List Root
  pub roots_are : roots ≡ before ++ root ∷ after
  pub old : List Entry
  pub whole : ListsAll rules s before base old
  pub stop : Names
  pub new : List Entry
  pub lists : Lists rules s root base (Some stop) old new
  pub limit : IsLimit e rules s root base stop new

-- why there is no listing: the first limit that a walk meets, or two at one path where all roots are listed within the limits
abbrev pub ListsNot : ListError → Rules → Tree → List Root → Names → Type 0
ListsNot (list_error.Duplicate rel first second) rules s roots base = AreTwo (all_listed rules s roots) rel first second × (entries : List Entry) × ListsAll rules s roots base entries × (length entries ≤ max_items)
ListsNot list_error.TooMany rules s roots base = StopsAt list_error.TooMany rules s roots base
ListsNot (list_error.TooLong parent name) rules s roots base = StopsAt (list_error.TooLong parent name) rules s roots base
ListsNot (list_error.NoSource path) rules s roots base = ⊥
ListsNot (list_error.Changed path) rules s roots base = ⊤
ListsNot list_error.Fault rules s roots base = ⊤
ListsNot list_error.Memory rules s roots base = ⊤

-- the listing of the roots, or why there is none
abbrev pub IsListing : Rules → Tree → List Root → Names → Result (List Entry) ListError → Type 0
IsListing rules s roots base (Ok entries) = ListsAll rules s roots base entries
IsListing rules s roots base (Err e) = ListsNot e rules s roots base

-- ---- a list in order of its paths
-- of two neighbours below this place, no two have one path
abbrev pub NoneTwiceBelow : List Entry → ℕ → Type 0
NoneTwiceBelow entries high = AllAdjacentBelow (λ (x y : Entry). same_path x.rel y.rel ≡ false) entries high

-- the entry at this place and the next one have one path, and no two neighbours before them
pub record IsTwiceAt (entries : List Entry) (at : ℕ) : Type 0 where
  pub inside : at + 1 < length entries
  pub same : (d : Entry) → same_path (slice_index_or entries at d).rel (slice_index_or entries (at + 1) d).rel ≡ true
  pub first : NoneTwiceBelow entries (at + 1)

-- two entries have this path, the first two from these paths in the source; at no lesser path are there two
pub record HasTwo (entries : List Entry) (rel first second : Names) : Type 0 where
  pub one : Entry
  pub two : Entry
  pub more : List Entry
  pub here : entries_at entries rel ≡ one ∷ two ∷ more
  pub first_is : first ≡ one.from
  pub second_is : second ≡ two.from
  pub least : (q : Names) → IsTrue (path_lt q rel) → length (entries_at entries q) ≤ 1

-- the refusal of a list in which two have one path, or want of memory
abbrev pub IsTwiceIn : List Entry → ListError → Type 0
IsTwiceIn entries (list_error.Duplicate rel first second) = HasTwo entries rel first second
IsTwiceIn entries list_error.Memory = ⊤
IsTwiceIn entries list_error.TooMany = ⊥
IsTwiceIn entries (list_error.TooLong parent name) = ⊥
IsTwiceIn entries (list_error.NoSource path) = ⊥
IsTwiceIn entries (list_error.Changed path) = ⊥
IsTwiceIn entries list_error.Fault = ⊥
