-- The laws are proved of the definitions.
use Rattle.dc_engine.proofs.BegunLemmas.{plans_are_ready}
use Rattle.dc_engine.proofs.MissingLemmas.{same_items_lack}
use Rattle.dc_engine.proofs.PlanLemmas.{decisions_are_plans, files_may_be_left}
use Rattle.dc_engine.proofs.laws.survey_laws.Goals as goal

pub returns : goal.returns
returns c = record {
  plans = decisions_are_plans;
  left = files_may_be_left;
  same = same_items_lack;
  ready = plans_are_ready;
}
