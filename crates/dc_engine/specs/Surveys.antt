-- What a survey finds, and why there is none: the first refusal decides (the order is this project's).
use Rattle.std.specs.Prelude.{◌≡◌, ◌⊎◌, ℕ, Bool, true, false, List, [], Result, Ok, Err, if◌then◌else◌}
use Rattle.dc_path.specs.Paths.{Names}
use Rattle.dc_attrs.specs.Trees.{Tree, seen}
use Rattle.dc_options.specs.Settings.{Settings}
use Rattle.dc_options.specs.declared.settings.SyncBy.{SyncBy}
use Rattle.dc_options.specs.declared.settings.SyncBy.TheVariants as sync
use Rattle.dc_listing.specs.Entries.{Entry}
use Rattle.dc_listing.specs.Listed.{rules_of}
use Rattle.dc_listing.specs.Listing.{ListsAll, ListsNot}
use Rattle.dc_listing.specs.Roots.{and_then, roots_of}
use Rattle.dc_listing.specs.declared.item.ListError.{ListError}
use Rattle.dc_listing.specs.declared.item.ListError.TheVariants as list_error
use Rattle.dc_listing.specs.declared.item.Root.{Root}
use Rattle.dc_engine.specs.Inputs.{Held, inputs_in}
use Rattle.dc_engine.specs.Outcomes.{is_decided}
use Rattle.dc_engine.specs.Refusals.{refused_as}
use Rattle.dc_engine.specs.Targets.{base_in}
use Rattle.dc_engine.specs.declared.inputs.InputError.{InputError}
use Rattle.dc_engine.specs.declared.inputs.InputError.TheVariants as input_error
use Rattle.dc_engine.specs.declared.outcome.Outcome.{Outcome}
use Rattle.dc_engine.specs.declared.outcome.Outcome.TheVariants as outcome
use Rattle.dc_engine.specs.declared.outcome.Phase.TheVariants as phase_of
use Rattle.dc_engine.specs.declared.outcome.TooManyOf.TheVariants as too_many
use Rattle.dc_engine.specs.declared.surveying.Placed.{Placed}
use Rattle.dc_engine.specs.declared.surveying.Surveyed.{Surveyed}
use Rattle.dc_engine.specs.declared.targets.TargetError.{TargetError}
use Rattle.dc_engine.specs.declared.targets.TargetError.TheVariants as target_error

-- ---- how refusals end a run
abbrev pub outcome_of_input : InputError → Outcome
outcome_of_input (input_error.NoFile path) = outcome.NoFile path
outcome_of_input (input_error.TooBig path) = outcome.TooBig path
outcome_of_input (input_error.BadList line) = outcome.BadList line
outcome_of_input (input_error.BadPattern line) = outcome.BadPattern line
outcome_of_input (input_error.BigPattern line) = outcome.BigPattern line
outcome_of_input (input_error.BadPlan line) = outcome.BadPlan line
outcome_of_input (input_error.Changed path) = outcome.Changed path
outcome_of_input input_error.Fault = outcome.SourceFault
outcome_of_input input_error.Memory = outcome.Memory

abbrev pub outcome_of_target : TargetError → Outcome
outcome_of_target (target_error.Bad kind) = outcome.BadTarget kind
outcome_of_target (target_error.TooLong parent name) = outcome.TooLong parent name
outcome_of_target (target_error.WorkExists path) = outcome.WorkExists path
outcome_of_target target_error.SourceFault = outcome.SourceFault
outcome_of_target target_error.TargetFault = outcome.TargetFault phase_of.Check 0
outcome_of_target target_error.Memory = outcome.Memory

abbrev pub outcome_of_list : ListError → Outcome
outcome_of_list (list_error.NoSource path) = outcome.NoSource path
outcome_of_list (list_error.Duplicate rel first second) = outcome.Duplicate rel first second
outcome_of_list list_error.TooMany = outcome.TooMany too_many.Items
outcome_of_list (list_error.TooLong parent name) = outcome.TooLong parent name
outcome_of_list (list_error.Changed path) = outcome.Changed path
outcome_of_list list_error.Fault = outcome.SourceFault
outcome_of_list list_error.Memory = outcome.Memory

-- ---- before the listing
-- the options ask for a report
abbrev pub asks_report : SyncBy → Bool
asks_report sync.None = false
asks_report (sync.Diff from to) = true
asks_report (sync.Rdiff newer older) = true

-- what is listed, where nothing refuses it: where the sources stand and are put, without what these lines exclude, under the base
pub record Asked : Type 0 where
  pub sources : List Names
  pub lines : List (List ℕ)
  pub roots : List Root
  pub base : Names

-- where these sources stand and are put, and under which path, or the first refusal: of the sources and then of the target
abbrev pub placed_in : Settings → Tree → Tree → List Names → Result Placed Outcome
placed_in o s t sources =
    and_then (refused_as outcome_of_list (roots_of o (seen t o.target) s sources)) (λ roots.
    and_then (refused_as outcome_of_target (base_in o s t (seen t o.target) roots)) (λ base.
    Ok (record { roots = roots; base = base })))

abbrev pub asked_of : Held → Placed → Asked
asked_of held placed = record { sources = held.sources; lines = held.lines; roots = placed.roots; base = placed.base }

-- what is to be listed, or the first refusal: of a report, of the files that options name, of the sources, of the target
abbrev pub before_listing : Settings → Tree → Tree → Result Asked Outcome
before_listing o s t =
    if asks_report o.sync then Err outcome.Unbuilt else
    and_then (refused_as outcome_of_input (inputs_in o s)) (λ held. and_then (placed_in o s t held.sources) (λ placed. Ok (asked_of held placed)))

-- ---- the whole
-- nothing refuses the listing, and these are its entries
pub record IsSurveyed (o : Settings) (s t : Tree) (entries : List Entry) : Type 0 where
  pub asked : Asked
  pub allowed : before_listing o s t ≡ Ok asked
  pub lists : ListsAll (rules_of asked.lines []) s asked.roots asked.base entries

-- nothing refuses a listing, and there is none for this reason
pub record LacksListing (o : Settings) (s t : Tree) (e : Outcome) : Type 0 where
  pub asked : Asked
  pub allowed : before_listing o s t ≡ Ok asked
  pub why : ListError
  pub named : e ≡ outcome_of_list why
  pub lacks : ListsNot why (rules_of asked.lines []) s asked.roots asked.base

-- What options and trees decide of a survey: what it lists, or the first refusal before the listing, and else the listing's own.
abbrev pub SurveyAnswers : Settings → Tree → Tree → Result Surveyed Outcome → Type 0
SurveyAnswers o s t (Ok surveyed) = IsSurveyed o s t surveyed.items
SurveyAnswers o s t (Err e) = is_decided e ≡ true → (before_listing o s t ≡ Err e) ⊎ LacksListing o s t e
