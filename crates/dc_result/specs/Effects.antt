-- What lands in a copy (Hadoop DistCp, `CopyMapper`, and `CopyMapper.Counter` for what is counted of it).
use Rattle.std.specs.Prelude.{◌≡◌, ℕ, ◌-◌, true, cond, List, map, length, ◌++◌, Option, Some, None}
use Rattle.std.specs.List.{filter}
use Rattle.std.specs.Option.{option_and_then}
use Rattle.dc_path.specs.Found.{found}
use Rattle.dc_path.specs.Order.{is_ascending}
use Rattle.dc_path.specs.Paths.{Names, cut, at_cut}
use Rattle.dc_attrs.specs.Trees.{Node, Dir, File}
use Rattle.dc_fs.specs.declared.target.Landed.{Landed}
use Rattle.dc_decide.specs.Deciding.{action_of}
use Rattle.dc_decide.specs.Plans.{Decision, Decisions}
use Rattle.dc_decide.specs.declared.action.Action.{Action}
use Rattle.dc_decide.specs.declared.action.Action.TheVariants as action
use Rattle.dc_commit.specs.Landing.{is_landing, is_written, landing_mode}
use Rattle.dc_commit.specs.Settings.{place_of}
use Rattle.dc_result.specs.Jobs.{Job, in_run, old_at}

-- where in the source the bytes begin that land
abbrev pub first_byte : Action → ℕ
first_byte action.Folder = 0
first_byte action.Skip = 0
first_byte action.Replace = 0
first_byte (action.Extend from) = from

-- ---- by a plan
-- what is recorded of an item that lands
abbrev pub effect_of : Names → Decision → Landed
effect_of base d = record { path = place_of base d; mode = landing_mode d.action; bytes = d.item.length - first_byte d.action }

-- what is recorded of all items that land, in their order
abbrev pub effects : Decisions → List Landed
effects plan = map (effect_of plan.base) (filter is_landing plan.items)

-- ---- by what is listed
-- what is recorded at this place of a listed file that is written: all its bytes, or those behind the target's
abbrev pub effect_on : Names → Node → Action → Option Landed
effect_on place (Dir a) act = None
effect_on place (File b a) act = cond (is_written act) (Some (record { path = place; mode = landing_mode act; bytes = length b - first_byte act })) None

-- what is recorded of what is listed at a path
abbrev pub effect_at : Job → Names → Option Landed
effect_at job rel = option_and_then (λ origin. effect_on (job.base ++ rel) origin.node (action_of job.settings origin.node (old_at job rel))) (in_run job rel)

-- each listed file that is not skipped has landed once, at its place, in path order, and nothing else has
pub record AreEffects (job : Job) (landed : List Landed) : Type 0 where
  pub ascending : is_ascending (map (λ (one : Landed). one.path) landed) ≡ true
  pub each : (p : Names) → found (λ (one : Landed). one.path) landed p ≡ at_cut (cut job.base p) None (effect_at job)
