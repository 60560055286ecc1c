-- The counters of a copy (Hadoop DistCp, `CopyMapper.Counter`), each over the items of its plan.
use Rattle.std.specs.Prelude.{ℕ, Bool, true, false, not, ◌&&◌, List, map, length}
use Rattle.std.specs.List.{filter, sum_by}
use Rattle.dc_path.specs.Paths.{Names}
use Rattle.dc_decide.specs.Plans.{Decision, item_rel}
use Rattle.dc_decide.specs.declared.action.Action.{Action}
use Rattle.dc_decide.specs.declared.action.Action.TheVariants as action
use Rattle.dc_commit.specs.Landing.{is_landing}
use Rattle.dc_commit.specs.Settings.{is_dir_item}
use Rattle.dc_ready.specs.Laws.{copied_bytes}

-- ---- which items
-- the target's file stays as it is
abbrev pub is_skip : Action → Bool
is_skip action.Folder = false
is_skip action.Skip = true
is_skip action.Replace = false
is_skip (action.Extend from) = false

-- a file that the copy goes on with and leaves as the target has it
abbrev pub is_skipped : Decision → Bool
is_skipped d = not d.out && is_skip d.action

-- an item that the copy goes on without
abbrev pub is_out : Decision → Bool
is_out d = d.out

-- the bytes of an item in the source
abbrev pub source_length : Decision → ℕ
source_length d = d.item.length

-- ---- the counters
-- files that land
abbrev pub copied_of : List Decision → ℕ
copied_of items = length (filter is_landing items)

-- listed directories
abbrev pub dirs_of : List Decision → ℕ
dirs_of items = length (filter is_dir_item items)

-- files that are skipped
abbrev pub skipped_of : List Decision → ℕ
skipped_of items = length (filter is_skipped items)

-- items that the copy goes on without
abbrev pub failed_of : List Decision → ℕ
failed_of items = length (filter is_out items)

-- bytes of all landings
abbrev pub bytes_copied_of : List Decision → ℕ
bytes_copied_of items = sum_by copied_bytes (filter is_landing items)

-- source lengths of the files that are skipped
abbrev pub bytes_skipped_of : List Decision → ℕ
bytes_skipped_of items = sum_by source_length (filter is_skipped items)

-- ---- what is left out
-- the paths of the items that the copy goes on without, in the order of the plan, which is path order
abbrev pub paths_out : List Decision → List Names
paths_out items = map item_rel (filter is_out items)
