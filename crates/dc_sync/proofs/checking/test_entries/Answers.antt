-- A test more, and where it does not hold.
use Rattle.std.proofs.Common.{arith, map}
use Rattle.std.proofs.lemmas.Result.{err_from_is_err_and}
use Rattle.dc_fs.specs.Views.{view}
use Rattle.dc_report.specs.Carrying.{plan}
use Rattle.dc_replay.specs.Limits.{entry_answer}
use Rattle.dc_replay.specs.TestAnswers.{first_answer}
use Rattle.dc_sync.proofs.TestLoops.{loop_more, loop_stop}
use Rattle.dc_sync.proofs.checking.test_entries.Goals as goal

pub loop-entry-preserved : goal.loop-entry-preserved
loop-entry-preserved g c = record {
  tested = loop_more (λ A x. entry_answer c.args.base.now (plan c.args.report.now) A x) (view g.S.Store c.args.store.now) (view g.S.Store c.loop-entry.store) (view g.S.Store c.test_entry.new.store) c.args.base.now
      (λ A. first_answer (map (entry_answer c.args.base.now (plan c.args.report.now) A) c.args.report.now)) c.as_slice-entry-items.result.now c.loop-entry.entry-index c.entry-item.result c.in_ok-test_entry.field-0 c.loop-entry-test.true c.entry-item.is c.loop-entry.invariant.tested c.in_ok-test_entry.ensures.tests;
  looks = omega (arith, c.loop-entry.invariant.looks, c.test_entry.ensures.looks);
}

pub returns-in_err-test_entry-clause-tests : goal.returns-in_err-test_entry-clause-tests
returns-in_err-test_entry-clause-tests g c =
    let p = err_from_is_err_and c.from_residual.result c.from_residual.ensures.1 in
    rw (p.1, p.2)
    (loop_stop (λ A x. entry_answer c.args.base.now (plan c.args.report.now) A x) (view g.S.Store c.args.store.now) (view g.S.Store c.loop-entry.store) (view g.S.Store c.test_entry.new.store) c.args.base.now
    (λ A. first_answer (map (entry_answer c.args.base.now (plan c.args.report.now) A) c.args.report.now)) c.as_slice-entry-items.result.now c.loop-entry.entry-index c.entry-item.result c.in_err-test_entry.field-0.0 c.loop-entry-test.true c.entry-item.is c.loop-entry.invariant.tested c.in_err-test_entry.ensures.tests)
