-- Directories that are made.
use Rattle.std.specs.Prelude.{Bool, true, false, cond, not, ◌&&◌, List, [], ◌∷◌, ◌++◌, map, Option, Some, None}
use Rattle.std.specs.List.{filter, list_any}
use Rattle.dc_path.specs.Paths.{Names, front_of, is_root}
use Rattle.dc_attrs.specs.Refusals.{refused_dir}
use Rattle.dc_attrs.specs.Trees.{updated, made}
use Rattle.dc_attrs.specs.declared.refusals.TreeError.{TreeError}
use Rattle.dc_attrs.specs.declared.refusals.TreeError.TheVariants as tree_error
use Rattle.dc_decide.specs.Plans.{Decision, Decisions}
use Rattle.dc_commit.specs.Settings.{is_dir_item, place_of}
use Rattle.dc_commit.specs.Steps.{Step}

-- the prefixes of a path but the root, the shortest first
abbrev pub ways : Names → List Names
ways [] = []
ways (x ∷ path) = (x ∷ []) ∷ map (λ (way : Names). x ∷ way) (ways path)

-- a refusal other than that something stands there already
abbrev pub is_hindrance : Option TreeError → Bool
is_hindrance None = false
is_hindrance (Some tree_error.Exists) = false
is_hindrance (Some e) = true

-- a directory with default attributes is made where nothing stands
abbrev pub make_step : Names → Step
make_step p = record {
  place = p;
  may = λ t. not (is_hindrance (refused_dir t p));
  change = λ t. updated t p made;
}

-- at the place of an item
abbrev pub make_item : Names → Decision → Step
make_item base d = make_step (place_of base d)

-- on the way to a path, and at it
abbrev pub way_steps : Names → List Step
way_steps path = map make_step (ways path)

-- a file is listed at the root path
abbrev pub has_root_file : List Decision → Bool
has_root_file items = list_any (λ d. is_root d.item.rel && not d.item.dir) items

-- at the base, unless a file goes there
abbrev pub base_steps : Decisions → List Step
base_steps plan = cond (has_root_file plan.items) [] (make_step plan.base ∷ [])

-- at the place of each directory, in path order
abbrev pub folder_steps : Decisions → List Step
folder_steps plan = map (make_item plan.base) (filter is_dir_item plan.items)

-- at the base and below it
abbrev pub inner_steps : Decisions → List Step
inner_steps plan = base_steps plan ++ folder_steps plan

-- on the way to the target without it, at the base, and below it
abbrev pub make_steps : Names → Decisions → List Step
make_steps place plan = way_steps (front_of place) ++ inner_steps plan
