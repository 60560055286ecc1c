-- Whether the target will do, and the path under which all is put (Hadoop DistCp Guide, `-atomic` and `-tmp`; the order is this project's).
use Rattle.std.specs.Prelude.{ℕ, Bool, true, false, not, ◌&&◌, ◌||◌, ⊤, List, [], ◌∷◌, ◌++◌, length, nat_lt, codes, Option, Some, None, unwrap_or, Result, Ok, Err, if◌then◌else◌}
use Rattle.std.specs.List.{list_any}
use Rattle.dc_path.specs.Paths.{Names, fits, front_of, is_under}
use Rattle.dc_attrs.specs.Trees.{Tree, seen, is_hidden}
use Rattle.dc_attrs.specs.declared.shown.Seen.{Seen}
use Rattle.dc_attrs.specs.declared.shown.Seen.TheVariants as seen_as
use Rattle.dc_options.specs.Settings.{Settings}
use Rattle.dc_listing.specs.Roots.{and_then, is_absent, is_file}
use Rattle.dc_listing.specs.declared.item.Root.{Root}
use Rattle.dc_engine.specs.declared.outcome.BadTarget.TheVariants as bad_target
use Rattle.dc_engine.specs.declared.targets.TargetError.{TargetError}
use Rattle.dc_engine.specs.declared.targets.TargetError.TheVariants as target_error

-- ---- paths, by the options alone
-- the name of what is filled before it is moved to the target
abbrev pub work_name : List ℕ
work_name = codes ".distcp.work"

-- the folder of the work path: that of `-tmp`, or else the target's
abbrev pub work_folder : Settings → Names
work_folder o = unwrap_or o.tmp (front_of o.target)

abbrev pub work_path : Names → Names
work_path folder = folder ++ work_name ∷ []

-- the path under which all is put: the target, or with `-atomic` the work path
abbrev pub base_of : Settings → Names
base_of o = if o.atomic then work_path (work_folder o) else o.target

-- ---- tests
-- a directory is seen
abbrev pub is_folder : Seen → Bool
is_folder seen_as.Dir = true
is_folder (seen_as.File n) = false
is_folder seen_as.Missing = false
is_folder seen_as.NotDir = false

-- a file is seen above the path
abbrev pub is_under_file : Seen → Bool
is_under_file seen_as.Dir = false
is_under_file (seen_as.File n) = false
is_under_file seen_as.Missing = false
is_under_file seen_as.NotDir = true

-- a path is given that has the name of snapshots
abbrev pub is_hidden_given : Option Names → Bool
is_hidden_given None = false
is_hidden_given (Some path) = is_hidden path

-- the target, the folder of `-tmp` or the place of a source has the name of snapshots
abbrev pub is_in_snapshot : Settings → List Root → Bool
is_in_snapshot o roots = is_hidden o.target || (is_hidden_given o.tmp || list_any (λ root. is_hidden root.prefix) roots)

-- the first source is a directory
abbrev pub is_first_dir : Tree → List Root → Bool
is_first_dir s [] = false
is_first_dir s (root ∷ roots) = is_folder (seen s root.source)

-- a folder is given that is no directory
abbrev pub lacks_given : Tree → Option Names → Bool
lacks_given t None = false
lacks_given t (Some path) = not (is_folder (seen t path))

-- the two paths are one, or one is above the other
abbrev pub overlap : Names → Names → Bool
overlap one other = is_under one other || is_under other one

-- ---- refusals
-- by the names of paths, by what stands at the target and by how many sources there are
abbrev pub test_shown : Settings → Seen → List Root → Result (Unit {0}) TargetError
test_shown o shown roots =
    if is_in_snapshot o roots then Err (target_error.Bad bad_target.InSnapshot) else
    if is_under_file shown then Err (target_error.Bad bad_target.UnderFile) else
    if is_file shown && nat_lt 1 (length roots) then Err (target_error.Bad bad_target.ManyOntoFile) else Ok tt

-- a directory is not put onto a file
abbrev pub test_source : Tree → Seen → List Root → Result (Unit {0}) TargetError
test_source s shown roots = if is_file shown && is_first_dir s roots then Err (target_error.Bad bad_target.DirOntoFile) else Ok tt

-- with `-atomic` nothing stands at the target, and the folder of `-tmp` is there
abbrev pub test_free : Settings → Seen → Result (Unit {0}) TargetError
test_free o shown = if o.atomic && not (is_absent shown) then Err (target_error.Bad bad_target.AtomicExists) else Ok tt

abbrev pub test_tmp : Settings → Tree → Result (Unit {0}) TargetError
test_tmp o t = if lacks_given t o.tmp then Err (target_error.Bad bad_target.NoTmp) else Ok tt

-- the work path in this folder: within the limits, apart from the target, and free
abbrev pub work_in : Tree → Names → Names → Result Names TargetError
work_in t target folder =
    if not (fits (work_path folder)) then Err (target_error.TooLong folder work_name) else
    if overlap (work_path folder) target then Err (target_error.Bad bad_target.TmpInside) else
    if not (is_absent (seen t (work_path folder))) then Err (target_error.WorkExists (work_path folder)) else Ok (work_path folder)

abbrev pub place_in : Settings → Tree → Result Names TargetError
place_in o t = if o.atomic then work_in t o.target (work_folder o) else Ok o.target

-- the path under which all is put, or the first refusal, by what is seen at the target
abbrev pub base_in : Settings → Tree → Tree → Seen → List Root → Result Names TargetError
base_in o s t shown roots =
    and_then (test_shown o shown roots) (λ _. and_then (test_source s shown roots) (λ _. and_then (test_free o shown) (λ _. and_then (test_tmp o t) (λ _. place_in o t))))

-- ---- kinds
-- options and trees decide that there is such a refusal
abbrev pub is_target_decided : TargetError → Bool
is_target_decided (target_error.Bad kind) = true
is_target_decided (target_error.TooLong parent name) = true
is_target_decided (target_error.WorkExists path) = true
is_target_decided target_error.SourceFault = false
is_target_decided target_error.TargetFault = false
is_target_decided target_error.Memory = false

abbrev pub is_from_source : TargetError → Bool
is_from_source (target_error.Bad kind) = false
is_from_source (target_error.TooLong parent name) = false
is_from_source (target_error.WorkExists path) = false
is_from_source target_error.SourceFault = true
is_from_source target_error.TargetFault = false
is_from_source target_error.Memory = false

abbrev pub is_from_target : TargetError → Bool
is_from_target (target_error.Bad kind) = false
is_from_target (target_error.TooLong parent name) = false
is_from_target (target_error.WorkExists path) = false
is_from_target target_error.SourceFault = false
is_from_target target_error.TargetFault = true
is_from_target target_error.Memory = false

-- a fact of the path that passes the limits, told by its parent and its last name
abbrev pub IfLong : TargetError → (Names → List ℕ → Type 0) → Type 0
IfLong (target_error.Bad kind) P = ⊤
IfLong (target_error.TooLong parent name) P = P parent name
IfLong (target_error.WorkExists path) P = ⊤
IfLong target_error.SourceFault P = ⊤
IfLong target_error.TargetFault P = ⊤
IfLong target_error.Memory P = ⊤
