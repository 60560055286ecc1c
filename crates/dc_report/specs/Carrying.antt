-- What a report carries, and where to (HDFS-7535).
use Rattle.std.specs.Prelude.{◌≡◌, not, ◌⊎◌, ℕ, List, [], ◌∷◌, ◌++◌, Bool, false, cond, ◌&&◌, ◌||◌, Option, Some, None, Result, Ok, length}
use Rattle.std.specs.List.{list_any, filter_map}
use Rattle.dc_path.specs.Order.{path_lt}
use Rattle.dc_path.specs.Paths.{Names, cut, is_above, same_path}
use Rattle.dc_path.specs.Reading.{some_path, within_limits}
use Rattle.dc_path.specs.declared.path.PathError.{PathError}
use Rattle.dc_report.specs.declared.entries.Entry.{Entry}
use Rattle.dc_report.specs.declared.entries.Entry.TheVariants.{Created, Deleted, Modified, Renamed}

-- the list has the item
abbrev pub Has : {X : Type 0} → List X → X → Type 0
Has [] x = ⊥
Has (y ∷ ys) x = (x ≡ y) ⊎ Has ys x

-- the list with the item in front of the first that is greater
abbrev pub insert_by : {X : Type 0} → (X → X → Bool) → X → List X → List X
insert_by lt x [] = x ∷ []
insert_by lt x (y ∷ ys) = cond (lt x y) (x ∷ y ∷ ys) (y ∷ insert_by lt x ys)

-- the items in order
abbrev pub sort_by : {X : Type 0} → (X → X → Bool) → List X → List X
sort_by lt [] = []
sort_by lt (x ∷ xs) = insert_by lt x (sort_by lt xs)

-- the path of an entry that carries what is under it away, and where to
pub record Carry : Type 0 where
  pub old : Names
  pub new : Option Names

-- how an entry carries: nothing is carried by what is created or modified
abbrev pub carry_of : Entry → Option Carry
carry_of (Deleted p) = Some (record { old = p; new = None })
carry_of (Renamed a b) = Some (record { old = a; new = Some b })
carry_of (Created c) = None
carry_of (Modified p) = None

-- the one old path comes before the other
abbrev pub old_lt : Carry → Carry → Bool
old_lt c d = path_lt c.old d.old

-- Deleted and Renamed, ascending by old path
abbrev pub carries_of : List Entry → List Carry
carries_of R = sort_by old_lt (filter_map carry_of R)

-- what carries a path: nothing, or an entry with a rest after its old path
pub data Carried : Type 0 where
  Stays : Carried
  With : (c : Carry) → (rest : Names) → Carried

-- a path with this rest after the old path, or with none
abbrev pub carried_by : Carry → Option Names → Carried
carried_by c None = Stays
carried_by c (Some r) = With c r

-- the first of two that carries
abbrev pub or_carried : Carried → Carried → Carried
or_carried Stays k = k
or_carried (With c r) k = With c r

-- by the longest old path; the list is ascending, so the last that fits is the longest
abbrev pub carrier : List Carry → Names → Carried
carrier [] p = Stays
carrier (c ∷ cs) p = or_carried (carrier cs p) (carried_by c (cut c.old p))

-- a path followed by a rest; none where there is no path
abbrev pub then_rest : Option Names → Names → Option Names
then_rest None r = None
then_rest (Some b) r = Some (b ++ r)

-- where a path goes by what carries it
abbrev pub moved_as : Names → Carried → Option Names
moved_as p Stays = Some p
moved_as p (With c r) = then_rest c.new r

-- where a path goes: by the longest old path that it begins with; none where that was deleted
abbrev pub moved : List Carry → Names → Option Names
moved cs p = moved_as p (carrier cs p)

-- a renamed item: its new path, its old one, and its name in the stage
pub record Place : Type 0 where
  pub new : Names
  pub old : Names
  pub label : ℕ

-- the greatest old path is staged first; a label is the number of those staged before
abbrev pub add_item : Option Names → Names → ℕ → List Place → List Place
add_item None old l ns = ns
add_item (Some b) old l ns = record { new = b; old = old; label = l } ∷ ns

-- the renamed items, with their labels
abbrev pub items_of : List Carry → List Place
items_of [] = []
items_of (c ∷ cs) = add_item c.new c.old (length cs) (items_of cs)

-- the one new path comes after the other
abbrev pub new_gt : Place → Place → Bool
new_gt n m = path_lt m.new n.new

-- moved of the parent, and the last name
abbrev pub place_from : List Carry → Names → List ℕ → Names → Option Names
place_from cs front x [] = then_rest (moved cs front) (x ∷ [])
place_from cs front x (y ∷ p) = place_from cs (front ++ x ∷ []) y p

-- where what is created at a path stands; none where its parent was deleted, and none for the root
abbrev pub place : List Carry → Names → Option Names
place cs [] = None
place cs (x ∷ p) = place_from cs [] x p

-- the answer with the path, or the first limit of paths that it passes
abbrev pub limited : Option Names → Result (Option Names) PathError
limited None = Ok None
limited (Some p) = some_path (within_limits p)

-- the place of what an entry creates
abbrev pub place_of : List Carry → Entry → Option Names
place_of cs (Deleted p) = None
place_of cs (Renamed a b) = None
place_of cs (Created c) = place cs c
place_of cs (Modified p) = None

-- what the moves need of a report
pub record Plan : Type 0 where
  pub carries : List Carry  -- ascending by old path
  pub news : List Place  -- descending by new path
  pub places : List Names  -- of Created

-- the plan of a report
abbrev pub plan : List Entry → Plan
plan R = record {
  carries = carries_of R;
  news = sort_by new_gt (items_of (carries_of R));
  places = filter_map (place_of (carries_of R)) R;
}

-- whether the longest prefix that is a place or a new path is a place
abbrev pub verdict : Plan → Names → Bool → Bool
verdict P q before = list_any (λ c. same_path c q) P.places || (not (list_any (λ n. same_path n.new q) P.news) && before)

-- the verdict of the longest prefix: from front on, by one name of rest after the other
abbrev pub fresh_from : Plan → Names → Names → Bool → Bool
fresh_from P front [] b = verdict P front b
fresh_from P front (x ∷ rest) b = fresh_from P (front ++ x ∷ []) rest (verdict P front b)

-- the longest prefix of the path that is a place or a new path is a place
abbrev pub is_fresh : Plan → Names → Bool
is_fresh P q = fresh_from P [] q false

-- the parents to be made for these new paths
abbrev pub is_made : Plan → List Place → Names → Bool
is_made P ns q = is_fresh P q && list_any (λ n. is_above q n.new) ns
