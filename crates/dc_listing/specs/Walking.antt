-- The steps of a walk below a directory: what each adds, and where it stops.
use Rattle.std.specs.Prelude.{◌≡◌, ◌⊎◌, ℕ, ◌≤◌, ◌<◌, ⊤, Bool, true, false, cond, not, ◌&&◌, List, [], ◌∷◌, ◌++◌, length, Option, Some, None, Result, Ok, Err, IfSome, slice_get}
use Rattle.std.specs.Option.{is_some}
use Rattle.std.specs.List.{list_all, list_any, All}
use Rattle.dc_path.specs.Found.{has_path}
use Rattle.dc_path.specs.Names.{same_name}
use Rattle.dc_path.specs.Paths.{Names, fits}
use Rattle.dc_attrs.specs.Trees.{Tree, IsTree}
use Rattle.dc_listing.specs.Entries.{Entry}
use Rattle.dc_listing.specs.Errors.{is_of_look}
use Rattle.dc_listing.specs.Listed.{Rules, is_left_out, is_missed, past_at}
use Rattle.dc_listing.specs.Walks.{Adds, IsShown, IsFirstPast, is_before, max_items}
use Rattle.dc_listing.specs.declared.item.Root.{Root}
use Rattle.dc_listing.specs.declared.item.ListError.{ListError}
use Rattle.dc_listing.specs.declared.item.ListError.TheVariants as list_error
use Rattle.dc_listing.specs.declared.walking.Place.{Place}

-- ---- the directory of a walk
-- its paths: of the entry at this place, or of the root
abbrev pub place_in : Root → Option Entry → Place
place_in root None = record { from = root.source; rel = root.prefix }
place_in root (Some entry) = record { from = entry.from; rel = entry.rel }

abbrev pub dir_at : Root → List Entry → Option ℕ → Place
dir_at root entries None = place_in root None
dir_at root entries (Some at) = place_in root (slice_get entries at)

-- the place is that of an entry, or of the root
abbrev pub IsAmong : List Entry → Option ℕ → Type 0
IsAmong entries at = IfSome at (λ k. k < length entries)

-- what has this name in a directory
abbrev pub child_of : Place → List ℕ → Place
child_of dir name = record { from = dir.from ++ name ∷ []; rel = dir.rel ++ name ∷ [] }

-- the refusal of the first of two paths with a name more that passes the limits
abbrev pub put : Names → Place → List ℕ → Result (Option Place) ListError
put base dir name = cond (fits (base ++ (dir.rel ++ name ∷ []))) (Ok (Some (child_of dir name))) (Err (list_error.TooLong (base ++ dir.rel) name))

-- what has this name in a directory, unless it is left out or passes the limits
abbrev pub entered : Rules → Names → Place → List ℕ → Result (Option Place) ListError
entered rules base dir name =
    cond (rules.without (dir.rel ++ name ∷ [])) (Ok None)
    (cond (fits (dir.from ++ name ∷ [])) (cond (rules.excluded (dir.from ++ name ∷ [])) (Ok None) (put base dir name)) (Err (list_error.TooLong dir.from name)))

-- ---- what is below a directory
-- below a directory, what is listed, what is met, and the path that passes the limits
abbrev pub listed_below : Rules → Tree → Place → Names → Bool
listed_below rules s dir [] = false
listed_below rules s dir (x ∷ rest) = is_some (s (dir.from ++ x ∷ rest)) && not (is_left_out rules dir.from dir.rel (x ∷ rest))

abbrev pub met_below : Rules → Tree → Place → Names → Bool
met_below rules s dir [] = false
met_below rules s dir (x ∷ rest) = is_some (s (dir.from ++ x ∷ rest)) && not (is_missed rules dir.from dir.rel (x ∷ rest))

abbrev pub past_below : Rules → Tree → Place → Names → Names → Option Names
past_below rules s dir base rest = past_at (dir.from ++ rest) (listed_below rules s dir rest) (base ++ (dir.rel ++ rest))

-- a part of what is below a directory: all, and what is at and under these names
abbrev pub is_below : Names → Bool
is_below [] = false
is_below (x ∷ rest) = true

abbrev pub is_in : List (List ℕ) → Names → Bool
is_in names [] = false
is_in names (x ∷ rest) = list_any (same_name x) names

-- ---- what is added
-- the paths are those of the part that are listed before the stop; no path of the part that is met before it passes the limits
pub record Holds (rules : Rules) (s : Tree) (dir : Place) (base : Names) (part : Names → Bool) (stop : Option Names) (rests : List Names) (added : List Entry) : Type 0 where
  pub listed : (q : Names) → has_path rests q ≡ (part q && (listed_below rules s dir q && is_before stop q))
  pub shown : All (IsShown s) added
  pub within : (q : Names) → part q ≡ true → met_below rules s dir q ≡ true → is_before stop q ≡ true → past_below rules s dir base q ≡ None

-- the list has gained the entries of a part of what is below a directory
pub record GainsPart (told : Option Tree) (rules : Rules) (dir : Place) (base : Names) (part : Names → Bool) (stop : Option Names) (old new : List Entry) : Type 0 where
  pub rests : List Names
  pub added : List Entry
  pub adds : Adds dir.from dir.rel base rests old new added
  pub inside : list_all part rests ≡ true
  pub holds : IfSome told (λ s. IsTree s → Holds rules s dir base part stop rests added)

-- the limit that is passed at a path below a directory
abbrev pub IsLimitBelow : ListError → Rules → Tree → Place → Names → Names → List Entry → Type 0
IsLimitBelow list_error.TooMany rules s dir base stop entries = (listed_below rules s dir stop ≡ true) × (past_below rules s dir base stop ≡ None) × (max_items ≤ length entries)
IsLimitBelow (list_error.TooLong parent name) rules s dir base stop entries = (met_below rules s dir stop ≡ true) × (path : Names) × (past_below rules s dir base stop ≡ Some path) × IsFirstPast path parent name
IsLimitBelow (list_error.NoSource path) rules s dir base stop entries = ⊥
IsLimitBelow (list_error.Duplicate rel first second) rules s dir base stop entries = ⊥
IsLimitBelow (list_error.Changed path) rules s dir base stop entries = ⊤
IsLimitBelow list_error.Fault rules s dir base stop entries = ⊤
IsLimitBelow list_error.Memory rules s dir base stop entries = ⊤

-- a walk of a part stopped: at this path, by its error
pub record StopsPart (e : ListError) (told : Option Tree) (rules : Rules) (dir : Place) (base : Names) (part : Names → Bool) (old new : List Entry) : Type 0 where
  pub stop : Names
  pub here : part stop ≡ true
  pub gains : GainsPart told rules dir base part (Some stop) old new
  pub limit : IfSome told (λ s. IsTree s → IsLimitBelow e rules s dir base stop new)

-- what a walk of a part has added: all of it, or what comes before its stop
abbrev pub WalksPart : {A : Type 0} → Option Tree → Rules → Place → Names → (Names → Bool) → Result A ListError → List Entry → List Entry → Type 0
WalksPart told rules dir base part (Ok x) old new = GainsPart told rules dir base part None old new
WalksPart told rules dir base part (Err e) old new = StopsPart e told rules dir base part old new

-- the list has gained one entry, of what stands at these paths
pub record GainsEntry (told : Option Tree) (place : Place) (dir : Bool) (old new : List Entry) : Type 0 where
  pub entry : Entry
  pub is : new ≡ old ++ entry ∷ []
  pub rel : entry.rel ≡ place.rel
  pub from : entry.from ≡ place.from
  pub dir_is : entry.dir ≡ dir
  pub shown : IfSome told (λ s. IsShown s entry)

-- the look at a place has stopped the walk
abbrev pub LooksAt : {A : Type 0} → Result A ListError → List Entry → List Entry → Type 0
LooksAt (Ok x) old new = ⊥
LooksAt (Err e) old new = (new ≡ old) × (is_of_look e ≡ true) × (e ≡ list_error.TooMany → max_items ≤ length old)

-- what a walk of a place has added: the entry and what is below it, or what comes before its stop
abbrev pub WalksPlace : {A : Type 0} → Option Tree → Rules → Place → Names → Result A ListError → List Entry → List Entry → Type 0
WalksPlace told rules place base result old new = LooksAt result old new ⊎ ((dir : Bool) × (mid : List Entry) × GainsEntry told place dir old mid × WalksPart told rules place base is_below result mid new)
