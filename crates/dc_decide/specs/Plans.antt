-- What becomes of listed items at the target (Hadoop DistCp, `CopyMapper`), and all of them together.
use Rattle.std.specs.Prelude.{◌≡◌, ℕ, ◌^◌, ◌<◌, Bool, true, false, cond, nat_lt, IsTrue, zero, suc, List, [], ◌∷◌, length, map, Option, Some, None}
use Rattle.std.specs.List.{list_all}
use Rattle.dc_path.specs.Order.{is_ascending}
use Rattle.dc_path.specs.Paths.{Names}
use Rattle.dc_attrs.specs.Attributes.{Attributes, fits_file, fits_dir}
use Rattle.dc_listing.specs.Entries.{Entry, fits_under}
use Rattle.dc_decide.specs.declared.action.Action.{Action}
use Rattle.dc_decide.specs.declared.action.Action.TheVariants as action

-- an item with its action, the attributes that the target has at its place, and whether the copy goes on without it
pub record Decision : Type 0 where
  pub item : Entry
  pub action : Action
  pub before : Option Attributes
  pub out : Bool

-- the path of its item under the base
abbrev pub item_rel : Decision → Names
item_rel decision = decision.item.rel

-- the action of a directory
abbrev pub is_folder : Action → Bool
is_folder action.Folder = true
is_folder action.Skip = false
is_folder action.Replace = false
is_folder (action.Extend from) = false

-- the action that adds to the target's file
abbrev pub is_extend : Action → Bool
is_extend action.Folder = false
is_extend action.Skip = false
is_extend action.Replace = false
is_extend (action.Extend from) = true

-- a file of this length has bytes from there on, if it is extended
abbrev pub extends_within : Action → ℕ → Bool
extends_within action.Folder long = true
extends_within action.Skip long = true
extends_within action.Replace long = true
extends_within (action.Extend from) long = nat_lt from long

-- the attributes, if any are given, are those of a directory, or of a file
abbrev pub fits_before : Bool → Option Attributes → Bool
fits_before dir None = true
fits_before dir (Some attrs) = cond dir (fits_dir attrs) (fits_file attrs)

-- what a decision always keeps: it fits the kind and the length of its item
pub record IsDecision (d : Decision) : Type 0 where
  pub kind : is_folder d.action ≡ d.item.dir
  pub extends : IsTrue (extends_within d.action d.item.length)
  pub fitting : IsTrue (fits_before d.item.dir d.before)

-- the same decision, but that the copy goes on without the item
abbrev pub left_out : Decision → Decision
left_out d = record { item = d.item; action = d.action; before = d.before; out = true }

-- an item that the copy goes on without, with nothing to be done
abbrev pub clashing : Entry → Decision
clashing entry = record { item = entry; action = cond entry.dir action.Folder action.Skip; before = None; out = true }

-- the same decisions, but that the copy goes on without the item at this place
abbrev pub left_out_at : ℕ → List Decision → List Decision
left_out_at place [] = []
left_out_at zero (d ∷ ds) = left_out d ∷ ds
left_out_at (suc place) (d ∷ ds) = d ∷ left_out_at place ds

-- the decisions on the items of a copy, and the path under which the items go
pub record Decisions : Type 0 where
  pub base : Names
  pub items : List Decision

-- its place under the base is within the limits of a path
abbrev pub is_placed : Names → Decision → Bool
is_placed base d = fits_under base d.item

-- what the decisions on a copy always keep: they are in path order, few, and each place is within the limits of a path
pub record IsPlan (p : Decisions) : Type 0 where
  pub ascending : is_ascending (map item_rel p.items) ≡ true
  pub few : length p.items < 2 ^ 32
  pub within : list_all (is_placed p.base) p.items ≡ true
