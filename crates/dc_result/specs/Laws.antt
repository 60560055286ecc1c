-- What the phases of a commit leave, and what lands in them.
use Rattle.std.specs.Prelude.{◌≡◌, true, false, ◌++◌, List, map, Option, Some, None}
use Rattle.std.specs.List.{list_all}
use Rattle.dc_attrs.specs.Refusals.{refused_rename}
use Rattle.dc_path.specs.Paths.{Names, is_under}
use Rattle.dc_attrs.specs.Trees.{Node, Tree, IsTree, moved}
use Rattle.dc_fs.specs.Views.{View}
use Rattle.dc_commit.specs.Landing.{LandStops, Landing, is_told, land_step, landed_of}
use Rattle.dc_commit.specs.Making.{make_steps}
use Rattle.dc_commit.specs.Removals.{remove_steps}
use Rattle.dc_commit.specs.Settings.{dir_steps, file_steps}
use Rattle.dc_commit.specs.Steps.{Step, Stops, allows}
use Rattle.dc_commit.specs.declared.steps.StepError.{StepError}
use Rattle.dc_result.specs.Atomic.{HasWork, IsAtomic}
use Rattle.dc_result.specs.Begins.{Begins}
use Rattle.dc_result.specs.Commits.{Commit, IsCommit, dirs_made, dirs_set, files_landed, files_set, missing_gone}
use Rattle.dc_result.specs.During.{AreElements, Elements, IsAside, Point, partly, progress, tree_at}
use Rattle.dc_result.specs.Effects.{AreEffects, effects}
use Rattle.dc_result.specs.Jobs.{Job, IsJob}
use Rattle.dc_result.specs.Result.{IsBuilt, IsResult}
use Rattle.dc_result.specs.Stops.{LandStopsAt, StopsAt}

-- all phases, one after the other, build under the base what the copy defines, and this is the result where the base is the target
pub record Builds (job : Job) (commit : Commit) : Type 0 where
  pub built : IsBuilt job (Some (dirs_set job commit))
  pub result : job.base ≡ job.target → IsResult job (Some (dirs_set job commit))

abbrev pub PhasesBuild : Type 0
PhasesBuild = (s : Tree) (job : Job) (commit : Commit) → IsJob s job → IsCommit s job commit → Builds job commit

-- what is built under a work path and then moved to the target is the result there
abbrev pub MoveGivesResult : Type 0
MoveGivesResult = (s : Tree) (job : Job) (commit : Commit) → IsJob s job → IsAtomic job → IsCommit s job commit
    → IsResult job (Some (moved (dirs_set job commit) job.base job.target))

-- each file that lands is told, and is recorded once, in listing order, as the copy defines it
pub record LandsEffects (job : Job) (commit : Commit) : Type 0 where
  pub told : list_all is_told commit.landings ≡ true
  pub recorded : map landed_of commit.landings ≡ effects commit.plan
  pub defined : AreEffects job (effects commit.plan)

abbrev pub EffectsLand : Type 0
EffectsLand = (s : Tree) (job : Job) (commit : Commit) → IsJob s job → IsCommit s job commit → LandsEffects job commit

-- each phase is allowed on the tree that those before it leave, and what they all leave is a tree
pub record Allows (job : Job) (commit : Commit) : Type 0 where
  pub dirs : allows (make_steps job.target commit.plan) job.before ≡ true
  pub landings : allows (map land_step commit.landings) (dirs_made job commit) ≡ true
  pub file_attrs : allows (file_steps job.settings.keep commit.plan) (files_landed job commit) ≡ true
  pub removals : allows (remove_steps commit.paths) (files_set job commit) ≡ true
  pub dir_attrs : allows (dir_steps job.settings.keep commit.plan) (missing_gone job commit) ≡ true
  pub tree : IsTree (dirs_set job commit)

-- no tree refuses a step of a commit
abbrev pub NoneRefused : Type 0
NoneRefused = (s : Tree) (job : Job) (commit : Commit) → IsJob s job → Begins job → IsCommit s job commit → Allows job commit

-- nor the move of what was built under a work path
abbrev pub MoveNotRefused : Type 0
MoveNotRefused = (s : Tree) (job : Job) (commit : Commit) → IsJob s job → Begins job → IsAtomic job → HasWork job → IsCommit s job commit
    → refused_rename (dirs_set job commit) job.base job.target ≡ None

-- at each point of a commit the tree is as far as the elements tell that are done
pub record Passes (job : Job) (commit : Commit) : Type 0 where
  pub elements : Elements
  pub are : AreElements job elements
  pub trees : (point : Point) (p : Names) → tree_at job commit point p ≡ partly job (progress job elements point) p

abbrev pub PointsArePartly : Type 0
PointsArePartly = (s : Tree) (job : Job) (commit : Commit) → IsJob s job → IsCommit s job commit → Passes job commit

-- at each point all that stood before stands as it was, but for what is copied and what goes
abbrev pub OthersAreSpared : Type 0
OthersAreSpared = (s : Tree) (job : Job) (commit : Commit) → IsJob s job → IsCommit s job commit
    → (point : Point) (p : Names) (n : Node) → job.before p ≡ Some n → IsAside job p → tree_at job commit point p ≡ Some n

-- under a work path that is not under the target, at each point all at and under the target is as it was
abbrev pub TargetIsUntouched : Type 0
TargetIsUntouched = (s : Tree) (job : Job) (commit : Commit) → IsJob s job → IsAtomic job → is_under job.target job.base ≡ false → IsCommit s job commit
    → (point : Point) (rest : Names) → tree_at job commit point (job.target ++ rest) ≡ job.before (job.target ++ rest)

-- where a phase stops on a told tree, its first steps are done, as many as it says, and after a fault maybe one more
abbrev pub StopsAreFronts : Type 0
StopsAreFronts = (steps : List Step) (t : Tree) (now : Option Tree) (e : StepError) → Stops steps (Some t) now e → StopsAt steps t now e

-- of files that land, exactly as many as it says
abbrev pub LandStopsAreFronts : Type 0
LandStopsAreFronts = (landings : List Landing) (t : Tree) (old new : View) (e : StepError) → old.tree ≡ Some t → list_all is_told landings ≡ true
    → LandStops landings old new e → LandStopsAt landings t old new e
