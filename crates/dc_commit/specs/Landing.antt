-- Files that land.
use Rattle.std.specs.Prelude.{◌≡◌, ℕ, ◌-◌, Bool, true, false, not, ◌&&◌, nat_le, List, [], ◌∷◌, ◌++◌, length, map, Option, Some, None, IfSome, Result, Ok, Err, slice_get}
use Rattle.std.specs.List.{list_all, sum_by}
use Rattle.std.specs.Option.{is_none, is_some, option_map, option_map_or}
use Rattle.dc_path.specs.Paths.{Names}
use Rattle.dc_attrs.specs.Trees.{Node, Tree, updated}
use Rattle.dc_fs.specs.Answers.{refused_land}
use Rattle.dc_fs.specs.Rest.{Rest}
use Rattle.dc_fs.specs.Views.{View}
use Rattle.dc_fs.specs.Temporaries.{all_told, landed_by}
use Rattle.dc_fs.specs.declared.target.Landed.{Landed}
use Rattle.dc_fs.specs.declared.target.Mode.{Mode}
use Rattle.dc_fs.specs.declared.target.Mode.TheVariants as mode_of
use Rattle.dc_decide.specs.Plans.{Decision, Decisions, item_rel}
use Rattle.dc_decide.specs.declared.action.Action.{Action}
use Rattle.dc_decide.specs.declared.action.Action.TheVariants as action
use Rattle.dc_commit.specs.Steps.{Step, after}
use Rattle.dc_commit.specs.declared.landing.Ready.{Ready}
use Rattle.dc_commit.specs.declared.steps.StepError.{StepError}
use Rattle.dc_commit.specs.declared.steps.StepError.TheVariants as step_error

-- ---- what lands
-- an action that writes a file
abbrev pub is_written : Action → Bool
is_written action.Folder = false
is_written action.Skip = false
is_written action.Replace = true
is_written (action.Extend from) = true

-- how it lands
abbrev pub landing_mode : Action → Mode
landing_mode action.Folder = mode_of.Replace
landing_mode action.Skip = mode_of.Replace
landing_mode action.Replace = mode_of.Replace
landing_mode (action.Extend from) = mode_of.Extend

-- a file that the copy goes on with and writes
abbrev pub is_landing : Decision → Bool
is_landing d = not d.out && is_written d.action

-- a file that is ready is an item that the plan writes, and has a part
abbrev pub is_ready : {P : Type 0} → Decisions → Ready P → Bool
is_ready plan file = option_map_or is_landing (slice_get plan.items file.item) false && nat_le 1 (length file.parts)

-- the path and the action of the item at this place of a plan
abbrev pub rel_at : Decisions → ℕ → Names
rel_at plan n = option_map_or item_rel (slice_get plan.items n) []

abbrev pub action_at : Decisions → ℕ → Action
action_at plan n = option_map_or (λ d. d.action) (slice_get plan.items n) action.Skip

-- a file that lands: where, how, the bytes of its parts where they are told, and how many they are
pub record Landing : Type 0 where
  pub place : Names
  pub mode : Mode
  pub parts : List (Option (List ℕ))
  pub bytes : ℕ

-- a file that is ready, as it lands
abbrev pub landing_of : {P : Type 0} → (P → Option (List ℕ)) → (P → ℕ) → Decisions → Ready P → Landing
landing_of content size plan file = record {
  place = plan.base ++ rel_at plan file.item;
  mode = landing_mode (action_at plan file.item);
  parts = map content file.parts;
  bytes = sum_by size file.parts;
}

-- how many temporaries it has
abbrev pub parts_of : {P : Type 0} → Ready P → ℕ
parts_of file = length file.parts

abbrev pub part_count : Landing → ℕ
part_count landing = length landing.parts

-- what is recorded of it
abbrev pub landed_of : Landing → Landed
landed_of landing = record { path = landing.place; mode = landing.mode; bytes = landing.bytes }

-- ---- one file
-- its bytes are told
abbrev pub is_told : Landing → Bool
is_told landing = is_some (all_told landing.parts)

-- what stands where it has landed, if its bytes are told
abbrev pub landed_as : Mode → Option (List ℕ) → Option Node → Option Node
landed_as mode None old = old
landed_as mode (Some bytes) old = landed_by mode bytes old

-- its parts land, one after the other
abbrev pub land_step : Landing → Step
land_step landing = record {
  place = landing.place;
  may = λ t. is_none (refused_land landing.mode t landing.place);
  change = λ t. updated t landing.place (landed_as landing.mode (all_told landing.parts));
}

-- ---- files in a row
-- what the target keeps after they have landed: each is recorded once, in order, and their temporaries are gone
abbrev pub all_landed : List Landing → Rest → Rest
all_landed landings rest = record rest { landed = rest.landed ++ map landed_of landings; scratch = rest.scratch - sum_by part_count landings }

-- they have landed, and no other; of the tree this is said where the bytes of each are told
pub record HaveLanded (landings : List Landing) (old new : View) : Type 0 where
  pub rest : new.rest ≡ all_landed landings old.rest
  pub tree : list_all is_told landings ≡ true → new.tree ≡ option_map (after (map land_step landings)) old.tree

-- why a file does not land, after so many others: where the target denies it, its tree does
abbrev pub StopsBefore : ℕ → Landing → Option Tree → StepError → Type 0
StopsBefore count landing now (step_error.Fault done) = done ≡ count
StopsBefore count landing now (step_error.Memory done) = done ≡ count
StopsBefore count landing now (step_error.Changed path) = (path ≡ landing.place) × IfSome now (λ t. (land_step landing).may t ≡ false)

-- a file has landed, or all is as it was
pub record StaysOff (count : ℕ) (landing : Landing) (old new : View) (error : StepError) : Type 0 where
  pub tree : new.tree ≡ old.tree
  pub rest : new.rest ≡ old.rest
  pub stop : StopsBefore count landing new.tree error

abbrev pub LandsOne : {X : Type 0} → ℕ → Landing → View → View → Result X StepError → Type 0
LandsOne count landing old new (Ok x) = HaveLanded (landing ∷ []) old new
LandsOne count landing old new (Err e) = StaysOff count landing old new e

-- the phase stops before one of its files: exactly those before it have landed
pub record LandStops (landings : List Landing) (old new : View) (error : StepError) : Type 0 where
  pub before : List Landing
  pub landing : Landing
  pub behind : List Landing
  pub all : landings ≡ before ++ landing ∷ behind
  pub landed : HaveLanded before old new
  pub stop : StopsBefore (length before) landing new.tree error
