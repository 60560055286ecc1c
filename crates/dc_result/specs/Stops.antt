-- What a phase leaves of a told tree where it stops.
use Rattle.std.specs.Prelude.{◌≡◌, ◌⊎◌, ℕ, ◌+◌, ◌<◌, false, List, length, map, take, Option, Some}
use Rattle.dc_attrs.specs.Trees.{Tree}
use Rattle.dc_fs.specs.Views.{View}
use Rattle.dc_commit.specs.Landing.{Landing, all_landed, land_step}
use Rattle.dc_commit.specs.Steps.{Step, after, allows}
use Rattle.dc_commit.specs.declared.steps.StepError.{StepError}
use Rattle.dc_commit.specs.declared.steps.StepError.TheVariants as step_error

-- the first so many steps are done, and after a fault maybe one more; it comes to `Changed` only where the tree does not
-- allow all of them
abbrev pub StopsAt : List Step → Tree → Option Tree → StepError → Type 0
StopsAt steps t now (step_error.Fault k) = (k < length steps) × ((now ≡ Some (after (take k steps) t)) ⊎ (now ≡ Some (after (take (k + 1) steps) t)))
StopsAt steps t now (step_error.Memory k) = (k < length steps) × (now ≡ Some (after (take k steps) t))
StopsAt steps t now (step_error.Changed path) = allows steps t ≡ false

-- exactly the first so many files have landed, and each of them is recorded
pub record LandsFirst (k : ℕ) (landings : List Landing) (t : Tree) (old new : View) : Type 0 where
  pub inside : k < length landings
  pub tree : new.tree ≡ Some (after (take k (map land_step landings)) t)
  pub rest : new.rest ≡ all_landed (take k landings) old.rest

abbrev pub LandStopsAt : List Landing → Tree → View → View → StepError → Type 0
LandStopsAt landings t old new (step_error.Fault k) = LandsFirst k landings t old new
LandStopsAt landings t old new (step_error.Memory k) = LandsFirst k landings t old new
LandStopsAt landings t old new (step_error.Changed path) = allows (map land_step landings) t ≡ false
