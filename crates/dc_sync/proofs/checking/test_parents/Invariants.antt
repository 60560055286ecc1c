-- What is known of the loop over the moves.
use Rattle.std.proofs.Common.{◌≤◌, ◌+◌, drop, length, map}
use Rattle.std.specs.List.{filter_map}
use Rattle.dc_fs.specs.Views.{view}
use Rattle.dc_report.specs.Carrying.{plan}
use Rattle.dc_replay.specs.Limits.{made_answer}
use Rattle.dc_replay.specs.Replaying.{made_by}
use Rattle.dc_replay.specs.TestAnswers.{first_answer}
use Rattle.dc_sync.specs.Checks.{if_there}
use Rattle.dc_sync.proofs.TestLoops.{Tested}
use Rattle.dc_sync.proofs.checking.test_parents.Given as goal

-- the tests that are left decide
abbrev pub invariant-loop-one : goal.invariant-loop-one
invariant-loop-one g l = record {
  tested : Tested (view g.S.Store l.fn.store) (view g.S.Store l.store) l.fn.base (λ A. first_answer (map (made_answer l.fn.base (plan l.fn.report) A) (filter_map made_by l.fn.moves)))
      (λ A. first_answer (map (λ m. if_there (made_answer l.fn.base (plan l.fn.report) A) (made_by m)) (drop l.one-index l.moves)));
  looks : g.S.Store.looks l.store + length (filter_map made_by (drop l.one-index l.moves)) ≤ g.S.Store.looks l.fn.store + length (filter_map made_by l.fn.moves);
}
