-- What roots list (Hadoop DistCp, `SimpleCopyListing` and `RegexCopyFilter`).
use Rattle.std.specs.Prelude.{◌≡◌, ◌≤◌, ℕ, Bool, true, false, cond, not, ◌&&◌, ◌||◌, List, [], ◌∷◌, ◌++◌, map, Option, Some, None, length, IsTrue}
use Rattle.dc_path.specs.Order.{path_lt}
use Rattle.std.specs.Option.{is_some}
use Rattle.std.specs.List.{filter, flat_map}
use Rattle.dc_path.specs.Found.{has_path}
use Rattle.dc_path.specs.Names.{same_name}
use Rattle.dc_path.specs.Paths.{Names, is_root, same_path, cut, at_cut, fits}
use Rattle.dc_attrs.specs.Trees.{Tree, Node, snapshot, is_dir_node}
use Rattle.dc_filter.specs.Filters.{is_excluded}
use Rattle.dc_listing.specs.Entries.{Entry, entry_of}
use Rattle.dc_listing.specs.declared.item.Root.{Root}

-- what is left out of a walk, with all that is under it: items by their paths in the source, and paths under the target
pub record Rules : Type 0 where
  pub excluded : Names → Bool
  pub without : Names → Bool

-- the lines of a filter, and these relative paths
abbrev pub rules_of : List (List ℕ) → List Names → Rules
rules_of lines paths = record { excluded = is_excluded lines; without = has_path paths }

-- an item at these two paths is left out
abbrev pub is_barred : Rules → Names → Names → Bool
is_barred rules from rel = rules.without rel || rules.excluded from

-- on the way from a directory to what is below it, the last path too, something is hidden or left out
abbrev pub is_left_out : Rules → Names → Names → Names → Bool
is_left_out rules from rel [] = false
is_left_out rules from rel (x ∷ rest) = same_name snapshot x || (is_barred rules (from ++ x ∷ []) (rel ++ x ∷ []) || is_left_out rules (from ++ x ∷ []) (rel ++ x ∷ []) rest)

-- the same, but that the filter is not asked of the last path
abbrev pub is_missed : Rules → Names → Names → Names → Bool
is_missed rules from rel [] = false
is_missed rules from rel (x ∷ []) = same_name snapshot x || rules.without (rel ++ x ∷ [])
is_missed rules from rel (x ∷ y ∷ rest) = same_name snapshot x || (is_barred rules (from ++ x ∷ []) (rel ++ x ∷ []) || is_missed rules (from ++ x ∷ []) (rel ++ x ∷ []) (y ∷ rest))

-- a directory that is itself put at the target is no item
abbrev pub is_bare : Tree → Root → Bool
is_bare s root = is_root root.prefix && is_dir_node (s root.source)

-- the root itself is left out
abbrev pub is_barred_root : Rules → Tree → Root → Bool
is_barred_root rules s root = rules.without root.prefix || (not (is_bare s root) && rules.excluded root.source)

-- the root lists what stands at this path from it
abbrev pub is_listed : Rules → Tree → Root → Names → Bool
is_listed rules s root [] = is_some (s root.source) && (not (is_barred_root rules s root) && not (is_bare s root))
is_listed rules s root (x ∷ rest) = is_some (s (root.source ++ x ∷ rest)) && (not (is_barred_root rules s root) && not (is_left_out rules root.source root.prefix (x ∷ rest)))

-- the walk meets what stands at this path from the root: the path is listed, or only the filter keeps it out
abbrev pub is_met : Rules → Tree → Root → Names → Bool
is_met rules s root [] = is_some (s root.source) && not (rules.without root.prefix)
is_met rules s root (x ∷ rest) = is_some (s (root.source ++ x ∷ rest)) && (not (is_barred_root rules s root) && not (is_missed rules root.source root.prefix (x ∷ rest)))

-- ---- limits
-- the place of an item where that passes the limits, if it is an item
abbrev pub place_past : Bool → Names → Option Names
place_past true place = cond (fits place) None (Some place)
place_past false place = None

-- the path in the source where that passes the limits, and else the place under the target that does, if it is an item's
abbrev pub past_at : Names → Bool → Names → Option Names
past_at from is_item place = cond (fits from) (place_past is_item place) (Some from)

-- the path that passes the limits where the walk meets this path from the root
abbrev pub past : Rules → Tree → Root → Names → Names → Option Names
past rules s root base rest = past_at (root.source ++ rest) (is_listed rules s root rest) (base ++ (root.prefix ++ rest))

-- ---- what is listed at each place, from all roots
-- where it stands in the source, and what stands there
pub record Origin : Type 0 where
  pub from : Names
  pub node : Node

abbrev pub origins_of : Names → Option Node → Bool → List Origin
origins_of from None listed = []
origins_of from (Some node) listed = cond listed (record { from = from; node = node } ∷ []) []

-- what one root lists at a path under the target: one thing or nothing
abbrev pub listed_by : Rules → Tree → Root → Names → List Origin
listed_by rules s root rel = at_cut (cut root.prefix rel) [] (λ rest. origins_of (root.source ++ rest) (s (root.source ++ rest)) (is_listed rules s root rest))

-- all that is listed there, in order of the roots
abbrev pub all_listed : Rules → Tree → List Root → Names → List Origin
all_listed rules s roots rel = flat_map (λ root. listed_by rules s root rel) roots

-- its entry there
abbrev pub entry_at : Names → Origin → Entry
entry_at rel origin = entry_of rel origin.from origin.node

-- the entries of a list at a path under the target, in their order
abbrev pub entries_at : List Entry → Names → List Entry
entries_at entries rel = filter (λ entry. same_path entry.rel rel) entries

-- at each path under the target the list has what is listed there, and nothing else
abbrev pub AreListed : (Names → List Origin) → List Entry → Type 0
AreListed listed entries = (rel : Names) → entries_at entries rel ≡ map (entry_at rel) (listed rel)

-- two are listed at one path under the target, the first two from these paths in the source; at no lesser path are there two
pub record AreTwo (listed : Names → List Origin) (rel first second : Names) : Type 0 where
  pub one : Origin
  pub two : Origin
  pub more : List Origin
  pub here : listed rel ≡ one ∷ two ∷ more
  pub first_is : first ≡ one.from
  pub second_is : second ≡ two.from
  pub least : (q : Names) → IsTrue (path_lt q rel) → length (listed q) ≤ 1
