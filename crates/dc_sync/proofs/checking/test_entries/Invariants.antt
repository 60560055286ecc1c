-- What is known of the loop over the entries.
use Rattle.std.proofs.Common.{◌≤◌, ◌+◌, drop, map}
use Rattle.dc_fs.specs.Views.{view}
use Rattle.dc_report.specs.Carrying.{plan}
use Rattle.dc_replay.specs.Limits.{entry_answer}
use Rattle.dc_replay.specs.TestAnswers.{first_answer}
use Rattle.dc_sync.proofs.TestLoops.{Tested}
use Rattle.dc_sync.proofs.checking.test_entries.Given as goal

-- the tests that are left decide
abbrev pub invariant-loop-entry : goal.invariant-loop-entry
invariant-loop-entry g l = record {
  tested : Tested (view g.S.Store l.fn.store) (view g.S.Store l.store) l.fn.base (λ A. first_answer (map (entry_answer l.fn.base (plan l.fn.report) A) l.fn.report))
      (λ A. first_answer (map (entry_answer l.fn.base (plan l.fn.report) A) (drop l.entry-index l.entry-items)));
  looks : g.S.Store.looks l.store ≤ g.S.Store.looks l.fn.store + l.entry-index;
}
