-- What is found and settled before anything is copied, and why there is nothing to copy.
use Rattle.std.specs.Prelude.{◌≡◌, ◌⊎◌, ℕ, ◌≤◌, Bool, true, false, ◌||◌, ◌+◌, List, length, count_by, Option, All, IfSome}
use Rattle.dc_path.specs.Paths.{Names}
use Rattle.dc_attrs.specs.Trees.{Tree}
use Rattle.dc_fs.specs.Causes.{Rose, counted, steady_at}
use Rattle.dc_fs.specs.Rest.{Rest, SweepStops}
use Rattle.dc_fs.specs.Views.{BothTrees, View}
use Rattle.dc_kills.specs.Entries as kill
use Rattle.dc_kills.specs.Plans.{IsInOrder}
use Rattle.dc_options.specs.Settings.{Settings}
use Rattle.dc_listing.specs.Entries.{Entry}
use Rattle.dc_listing.specs.Errors.{Passes}
use Rattle.dc_decide.specs.Plans.{Decisions}
use Rattle.dc_pieces.specs.Cutting.{plan_pieces}
use Rattle.dc_plan.specs.Planning.{IsAsked}
use Rattle.dc_crew.specs.Advances.{is_reached_entry}
use Rattle.dc_crew.specs.Slots.{but_forks}
use Rattle.dc_engine.specs.Finishing.{HasCreated, IsAsItWas, is_of_finish, is_of_look}
use Rattle.dc_engine.specs.Inputs.{KillsAre}
use Rattle.dc_engine.specs.Outcomes.{IfTooLong, is_changed, is_decided, is_of_survey, is_source_fault, is_target_fault, is_unbuilt}
use Rattle.dc_engine.specs.Running.{IfTargetFault, IsPrepared, IsRefused, is_look}
use Rattle.dc_engine.specs.Settling.{is_of_settle}
use Rattle.dc_engine.specs.Surveys.{asks_report}
use Rattle.dc_engine.specs.declared.outcome.Outcome.{Outcome}
use Rattle.dc_engine.specs.declared.running.Prepared.{Prepared}

-- how a run may end whose options are read
abbrev pub is_of_run : Outcome → Bool
is_of_run e = is_of_look e || is_of_finish e

-- what a run keeps of its source: all but its counts, which do not fall but to their last values; one that is steady stays so
pub record KeepsSource (old new : View) : Type 0 where
  pub tree : new.tree ≡ old.tree
  pub rest : but_forks new.rest ≡ but_forks old.rest
  pub forks : counted old.rest.fork_faults 0 ≤ new.rest.fork_faults
  pub later : old.faults ≤ new.faults
  pub calm : steady_at new.steady new.faults ≡ steady_at old.steady old.faults

-- all is settled between what two stores tell, with the attempts that are to be stopped
pub record IsPreparedFor (o : Settings) (source target : Option Tree) (prepared : Prepared) : Type 0 where
  pub asked : All (IsAsked o) prepared.settled.plan.items
  pub pieces : prepared.settled.pieces ≡ plan_pieces o.blocks prepared.settled.plan
  pub few : length prepared.kills ≤ 65536
  pub ordered : IsInOrder prepared.kills
  pub kills : IfSome source (λ s. KillsAre o.kills s prepared.kills)
  pub told : BothTrees source target (λ s t. (entries : List Entry) × IsPrepared o s t entries prepared.settled.plan prepared.settled.deletes)

-- why nothing is settled, and what both stores show then
pub record IsHeldBack (o : Settings) (e : Outcome) (source source_now target target_now : View) : Type 0 where
  pub kind : is_of_look e ≡ true
  pub keeps : KeepsSource source source_now
  pub source_cause : is_source_fault e ≡ true → Rose source.faults source_now.faults
  pub as_it_was : IsAsItWas target target_now
  pub looked : IfTargetFault e (λ phase done. (is_look phase ≡ true) × (done ≡ 0))
  pub later : target.faults ≤ target_now.faults
  pub calm : steady_at target_now.steady target_now.faults ≡ steady_at target.steady target.faults
  pub target_cause : is_target_fault e ≡ true → Rose target.faults target_now.faults
  pub first : is_of_settle e ≡ false → target_now.rest ≡ target.rest
  pub cleared : is_of_survey e ≡ false → (target_now.rest.scratch ≡ 0) ⊎ Rose target.faults target_now.faults
  pub swept : SweepStops target.rest target_now.rest
  pub left : (target_now.rest ≡ target.rest) ⊎ ((target_now.rest.scratch ≡ 0) ⊎ Rose target.faults target_now.faults)
  pub built : is_unbuilt e ≡ true → asks_report o.sync ≡ true
  pub too_long : IfTooLong e Passes
  pub refused : is_decided e ≡ true → BothTrees source.tree target.tree (λ s t. IsRefused o s t e)
  pub shown : is_changed e ≡ true → BothTrees source.tree target.tree (λ s t. ⊥)

-- at least as many more temporaries were created as the copy has pieces, and attempts that are stopped after one was made
pub record AreWaves (o : Settings) (s t : Tree) (old new : Rest) : Type 0 where
  pub entries : List Entry
  pub plan : Decisions
  pub paths : List Names
  pub prepared : IsPrepared o s t entries plan paths
  pub kills : List (kill.Entry)
  pub stops : KillsAre o.kills s kills
  pub created : HasCreated old new (length (plan_pieces o.blocks plan) + count_by (is_reached_entry kills (plan_pieces o.blocks plan) o.buffer) kills)
