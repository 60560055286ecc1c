-- What a walk of a part of a directory finds.
use Rattle.std.specs.Prelude.{◌≡◌, ◌⊎◌, ℕ, ◌+◌, ⊤, Bool, true, false, List, [], ◌∷◌, ◌++◌, map, take, Option, Result, Ok, Err, IfSome}
use Rattle.std.specs.List.{list_all}
use Rattle.dc_path.specs.Found.{has_path}
use Rattle.dc_path.specs.Paths.{Names, fits}
use Rattle.dc_attrs.specs.Trees.{Tree, IsTree, IsThere, IsDirAt, is_hidden, snapshot}
use Rattle.dc_fs.specs.Looks.{is_shown}
use Rattle.dc_listing.specs.Walking.{is_below}
use Rattle.dc_decide.specs.Plans.{Decisions}
use Rattle.dc_missing.specs.Missing.{Goes, covers, are_apart, is_place}
use Rattle.dc_missing.specs.Walks.{has_room, StopsAt, Stops, MeetsAll}
use Rattle.dc_missing.specs.declared.error.DeleteError.{DeleteError}
use Rattle.dc_missing.specs.declared.error.DeleteError.TheVariants as delete_error
use Rattle.dc_missing.specs.declared.found.Found.{Found}

-- ---- parts of what stands at and under a directory, besides those of a listing
-- all of it
abbrev pub is_any : Names → Bool
is_any q = true

-- what is below it, but its snapshots
abbrev pub is_open : Names → Bool
is_open [] = false
is_open (x ∷ rest) = is_shown x

-- ---- what is found
-- something keeps a directory: a listed path at or under it, or something hidden that stands under it
pub record IsHeld (t : Tree) (listed : Names → Bool) (dir : Names) : Type 0 where
  pub rest : Names
  pub why : (listed (dir ++ rest) ≡ true) ⊎ (IsThere t (dir ++ rest) × (is_hidden rest ≡ true))

-- these are what goes of a part, none under another; and whether something in the part is kept
pub record Finds (t : Tree) (listed : Names → Bool) (dir : Names) (part : Names → Bool) (kept : Bool) (rests : List Names) : Type 0 where
  pub goes : (q : Names) → has_path rests q ≡ true → IsThere t (dir ++ q) × Goes t listed dir q
  pub all : (q : Names) → part q ≡ true → IsThere t (dir ++ q) → Goes t listed dir q → covers rests q ≡ true
  pub clear : kept ≡ false → (q : Names) → part q ≡ true → IsThere t (dir ++ q) → is_hidden q ≡ false
  pub held : kept ≡ true → IsHeld t listed dir

-- for every store: the list has gained paths of a part, none under another, none hidden, and none with a listed path under it
pub record Adds (listed : Names → Bool) (dir : Names) (part : Names → Bool) (rests old new : List Names) : Type 0 where
  pub is : new ≡ old ++ map (λ q. dir ++ q) rests
  pub apart : are_apart rests ≡ true
  pub inside : list_all part rests ≡ true
  pub shown : (q : Names) → has_path rests q ≡ true → is_hidden q ≡ false
  pub unlisted : (q : Names) → covers rests q ≡ true → listed (dir ++ q) ≡ false

-- where a tree of directories is told, this holds of it
abbrev pub IfTree : Option Tree → (Tree → Type 0) → Type 0
IfTree told P = IfSome told (λ t. IsTree t → P t)

-- a part was walked to its end
pub record FindsPart (told : Option Tree) (listed : Names → Bool) (dir : Names) (part : Names → Bool) (kept : Bool) (old new : Found) : Type 0 where
  pub rests : List Names
  pub adds : Adds listed dir part rests old.gone.items new.gone.items
  pub finds : IfTree told (λ t. Finds t listed dir part kept rests)
  pub meets : IfTree told (λ t. MeetsAll t dir part old.met new.met)

-- a walk of a part has found what goes, or stopped
abbrev pub WalksPart : Option Tree → (Names → Bool) → Names → (Names → Bool) → Result Bool DeleteError → Found → Found → Type 0
WalksPart told listed dir part (Ok kept) old new = FindsPart told listed dir part kept old new
WalksPart told listed dir part (Err e) old new = IfTree told (λ t. Stops e t dir part old.met)

-- the place of snapshots in the directory passes the limits
pub record IsLong (t : Tree) (p parent : Names) (name : List ℕ) : Type 0 where
  pub dir : IsDirAt t p
  pub parent_is : p ≡ parent
  pub name_is : snapshot ≡ name
  pub past : fits (p ++ snapshot ∷ []) ≡ false

-- a walk of what is under a path has stopped there by a limit
pub record StopsBelow (e : DeleteError) (t : Tree) (p : Names) (before : ℕ) : Type 0 where
  pub room : has_room t p ≡ true
  pub stops : StopsAt e t p is_below before

-- the same, or it has stopped at the path itself
abbrev pub StopsInside : DeleteError → Tree → Names → ℕ → Type 0
StopsInside delete_error.TooMany t p before = StopsBelow delete_error.TooMany t p before
StopsInside (delete_error.TooLong parent name) t p before = IsLong t p parent name ⊎ StopsBelow (delete_error.TooLong parent name) t p before
StopsInside (delete_error.Changed path) t p before = ⊥
StopsInside delete_error.Fault t p before = ⊤
StopsInside delete_error.Memory t p before = ⊤

-- what is under a path was walked to its end
pub record FindsInside (told : Option Tree) (listed : Names → Bool) (p : Names) (kept : Bool) (old new : Found) : Type 0 where
  pub part : FindsPart told listed p is_below kept old new
  pub room : IfTree told (λ t. has_room t p ≡ true)

-- a walk of what is under a path has found what goes, or stopped
abbrev pub WalksInside : Option Tree → (Names → Bool) → Names → Result Bool DeleteError → Found → Found → Type 0
WalksInside told listed p (Ok kept) old new = FindsInside told listed p kept old new
WalksInside told listed p (Err e) old new = IfTree told (λ t. StopsInside e t p old.met)

-- ---- steps of what is found
-- one path more was met
pub record IsCounted (old new : Found) : Type 0 where
  pub met : new.met ≡ old.met + 1
  pub gone : new.gone.items ≡ old.gone.items

-- a path that goes stands in the place of all from a mark on; where it is kept, nothing changes
abbrev pub Closes : ℕ → Names → Bool → List Names → List Names → Type 0
Closes mark place true old new = new ≡ old
Closes mark place false old new = new ≡ take mark old ++ place ∷ []

-- ---- all of it
-- the list has what goes of what stands below the base of a plan
pub record FindsList (told : Option Tree) (plan : Decisions) (paths : List Names) : Type 0 where
  pub rests : List Names
  pub kept : Bool
  pub adds : Adds (is_place plan) plan.base is_open rests [] paths
  pub finds : IfTree told (λ t. Finds t (is_place plan) plan.base is_open kept rests)
