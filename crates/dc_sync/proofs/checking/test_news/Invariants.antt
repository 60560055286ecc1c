-- What is known of the loop over the new paths.
use Rattle.std.proofs.Common.{◌≤◌, ◌+◌, ◌*◌, length, map}
use Rattle.dc_fs.specs.Views.{view}
use Rattle.dc_report.specs.Carrying.{plan}
use Rattle.dc_replay.specs.Limits.{new_answer}
use Rattle.dc_replay.specs.TestAnswers.{first_answer}
use Rattle.dc_sync.specs.Checks.{if_there, renamed}
use Rattle.dc_sync.proofs.TestLoops.{Tested}
use Rattle.dc_sync.proofs.checking.test_news.Given as goal

-- the tests that are left decide
abbrev pub invariant-loop-to : goal.invariant-loop-to
invariant-loop-to g l = record {
  tested : Tested (view g.S.Store l.fn.store) (view g.S.Store l.store) l.fn.base
      (λ A. first_answer (map (λ e. if_there (λ old. new_answer l.fn.base (plan l.fn.report) A (renamed old e.0)) e.1) l.fn.sources.entries))
      (λ A. first_answer (map (λ e. if_there (λ old. new_answer l.fn.base (plan l.fn.report) A (renamed old e.0)) e.1) l.to-iterator));
  looks : g.S.Store.looks l.store + 2 * length l.to-iterator ≤ g.S.Store.looks l.fn.store + 2 * length l.fn.sources.entries;
}
