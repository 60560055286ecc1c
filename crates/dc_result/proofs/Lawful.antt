-- The laws hold.
use Rattle.std.proofs.Common.{◌≡◌, Some, ap, subst, sym, ◌∙◌, List}
use Rattle.dc_attrs.specs.Trees.{Tree}
use Rattle.dc_path.specs.Paths.{Names}
use Rattle.dc_commit.specs.Landing.{Landing}
use Rattle.dc_decide.specs.Plans.{Decision}
use Rattle.dc_result.specs.Commits.{IsCommit, dirs_set}
use Rattle.dc_result.specs.Begins.{Begins}
use Rattle.dc_result.specs.Jobs.{IsJob, Job, at_target}
use Rattle.dc_result.specs.Laws.{Allows, EffectsLand, MoveGivesResult, LandStopsAreFronts, MoveNotRefused, NoneRefused, OthersAreSpared, Passes, PhasesBuild, PointsArePartly, StopsAreFronts}
use Rattle.dc_result.specs.Result.{IsBuilt}
use Rattle.dc_result.proofs.Allowed.{dirs_allowed, done_tree, files_allowed, folders_allowed, landings_allowed, removals_allowed}
use Rattle.dc_result.proofs.Building.{commit_of}
use Rattle.dc_result.proofs.Built.{built_is, under_base}
use Rattle.dc_result.proofs.Effecting.{all_are_told, effects_are, landed_are}
use Rattle.dc_result.proofs.MoveAllowed.{move_allowed}
use Rattle.dc_result.proofs.Partly.{elements_are, elements_of, trees_at}
use Rattle.dc_result.proofs.Sparing.{spared}
use Rattle.dc_result.proofs.Stopping.{land_stops_at, stops_at}
use Rattle.dc_result.proofs.Moved.{moved_is}

base_is_target : (job : Job) → job.base ≡ job.target → job ≡ at_target job
base_is_target job e = ap (λ (base : Names). record job { base = base }) e

pub phases_build : PhasesBuild
phases_build s job commit is c =
    let built = built_is s job commit is c in
    record { built = built; result = λ e. subst (λ (j : Job). IsBuilt j (Some (dirs_set job commit))) (base_is_target job e) built }

pub move_gives_result : MoveGivesResult
move_gives_result = moved_is

pub effects_land : EffectsLand
effects_land s job commit is c = record {
  told = all_are_told s job commit.plan commit.landings is.shown c.planned c.lands;
  recorded = landed_are s commit.plan commit.landings c.lands;
  defined = effects_are job commit.plan c.planned;
}

-- of a plan under the base itself
all_allowed : (s : Tree) (job : Job) (items : List Decision) (landings : List Landing) (paths : List Names) → IsJob s job → IsCommit s job (commit_of job items landings paths) → Begins job → Allows job (commit_of job items landings paths)
all_allowed s job items landings paths is c begins = record {
  dirs = dirs_allowed s job items landings paths is c begins;
  landings = landings_allowed s job items landings paths is c begins;
  file_attrs = files_allowed s job items landings paths is c begins;
  removals = removals_allowed s job items landings paths is c begins;
  dir_attrs = folders_allowed s job items landings paths is c begins;
  tree = done_tree s job items landings paths is c begins;
}

pub none_refused : NoneRefused
none_refused s job commit is begins c =
    let e = under_base job commit c.planned.under in
    subst (Allows job) (sym e) (all_allowed s job commit.plan.items commit.landings commit.paths is (subst (IsCommit s job) e c) begins)

pub move_not_refused : MoveNotRefused
move_not_refused s job commit is begins atomic work c = move_allowed s job commit is begins atomic c (none_refused s job commit is begins c).tree work

passes_under : (s : Tree) (job : Job) (items : List Decision) (landings : List Landing) (paths : List Names) → IsJob s job → IsCommit s job (commit_of job items landings paths) → Passes job (commit_of job items landings paths)
passes_under s job items landings paths is c = record {
  elements = elements_of job items paths;
  are = elements_are s job items landings paths is c;
  trees = trees_at s job items landings paths is c;
}

pub points_are_partly : PointsArePartly
points_are_partly s job commit is c =
    let e = under_base job commit c.planned.under in
    subst (Passes job) (sym e) (passes_under s job commit.plan.items commit.landings commit.paths is (subst (IsCommit s job) e c))

pub others_are_spared : OthersAreSpared
others_are_spared s job commit is c point p n h aside =
    let k = points_are_partly s job commit is c in
    k.trees point p ∙ spared job k.elements k.are p aside point n h

pub stops_are_fronts : StopsAreFronts
stops_are_fronts = stops_at

pub land_stops_are_fronts : LandStopsAreFronts
land_stops_are_fronts = land_stops_at
