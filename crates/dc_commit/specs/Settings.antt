-- Attributes that are set on what is listed.
use Rattle.std.specs.Prelude.{Bool, false, cond, not, ◌&&◌, ◌++◌, List, map, reverse, Option, Some, None}
use Rattle.std.specs.List.{filter}
use Rattle.dc_path.specs.Paths.{Names}
use Rattle.dc_attrs.specs.Attributes.{Attributes, default_file, default_dir, fits_file, fits_dir}
use Rattle.dc_attrs.specs.Keeping.{Kept, overlay}
use Rattle.dc_attrs.specs.Trees.{updated, with_attrs, seen}
use Rattle.dc_attrs.specs.declared.shown.Seen.{Seen}
use Rattle.dc_attrs.specs.declared.shown.Seen.TheVariants as seen_as
use Rattle.dc_decide.specs.Plans.{Decision, Decisions}
use Rattle.dc_decide.specs.declared.action.Action.{Action}
use Rattle.dc_decide.specs.declared.action.Action.TheVariants as action
use Rattle.dc_commit.specs.Steps.{Step}

-- a directory, and a file, that the copy goes on with
abbrev pub is_dir_item : Decision → Bool
is_dir_item d = not d.out && d.item.dir

abbrev pub is_file_item : Decision → Bool
is_file_item d = not d.out && not d.item.dir

-- where an item goes
abbrev pub place_of : Names → Decision → Names
place_of base d = base ++ d.item.rel

-- ---- attributes
-- of a directory, or of a file
abbrev pub fits_as : Bool → Attributes → Bool
fits_as dir a = cond dir (fits_dir a) (fits_file a)

-- these attributes, if any are given
abbrev pub given_or : Option Attributes → Attributes → Attributes
given_or None other = other
given_or (Some a) other = a

-- the attributes over which those of the source are laid: the target's, but the defaults of what is new or replaced
abbrev pub attrs_under : Action → Option Attributes → Attributes
attrs_under action.Folder before = given_or before default_dir
attrs_under action.Skip before = given_or before default_file
attrs_under action.Replace before = default_file
attrs_under (action.Extend from) before = given_or before default_file

-- the attributes of an item at the end of the copy
abbrev pub final_attrs : Kept → Decision → Attributes
final_attrs keep d = overlay keep d.item.attrs (attrs_under d.action d.before)

-- ---- steps
-- a directory, or a file, is seen
abbrev pub is_kind : Bool → Seen → Bool
is_kind dir seen_as.Dir = dir
is_kind dir (seen_as.File length) = not dir
is_kind dir seen_as.Missing = false
is_kind dir seen_as.NotDir = false

-- attributes are set at a path, where a directory or a file is seen
abbrev pub set_at : Bool → Names → Attributes → Step
set_at dir p a = record {
  place = p;
  may = λ t. is_kind dir (seen t p);
  change = λ t. updated t p (with_attrs a);
}

-- those of an item are set at its place
abbrev pub set_step : Kept → Names → Decision → Step
set_step keep base d = set_at d.item.dir (place_of base d) (final_attrs keep d)

-- those of all files, in path order
abbrev pub file_steps : Kept → Decisions → List Step
file_steps keep plan = map (set_step keep plan.base) (filter is_file_item plan.items)

-- those of all directories, the last one first
abbrev pub dir_steps : Kept → Decisions → List Step
dir_steps keep plan = reverse (map (set_step keep plan.base) (filter is_dir_item plan.items))
