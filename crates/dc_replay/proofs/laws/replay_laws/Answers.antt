-- The laws are proved of the definitions.
use Rattle.dc_replay.proofs.Accepting.{checked_is_replayed, nameless_is_not_hidden, true_reports_are_accepted}
use Rattle.dc_replay.proofs.Bounds.{makes_are_parents, moves_are_few}
use Rattle.dc_replay.proofs.EndSnapshot.{copy_is_one, end_reached, true_reports_list}
use Rattle.dc_replay.proofs.LimitLaws.{limits_are_exact}
use Rattle.dc_replay.proofs.ListingLaws.{listing_is_tested}
use Rattle.dc_replay.proofs.LookFronts.{looks_share_front}
use Rattle.dc_replay.proofs.ReplayLaw.{replaying_holds, tests_decide, true_reports_pass}
use Rattle.dc_replay.proofs.StageLaws.{root_is_unlisted, stage_is_tested}
use Rattle.dc_replay.proofs.WordLaws.{words_mean}
use Rattle.dc_replay.proofs.laws.replay_laws.Goals as goal

pub returns : goal.returns
returns c = record {
  replaying = replaying_holds;
  tests = tests_decide;
  truth = true_reports_pass;
  end = end_reached;
  words = words_mean;
  stage = stage_is_tested;
  unlisted = root_is_unlisted;
  copy = copy_is_one;
  lists = true_reports_list;
  few = moves_are_few;
  makes = makes_are_parents;
  limits = limits_are_exact;
  listing = listing_is_tested;
  looks = looks_share_front;
  checked = checked_is_replayed;
  accepted = true_reports_are_accepted;
  nameless = nameless_is_not_hidden;
}
