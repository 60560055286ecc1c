-- The start, a test more, and where it does not hold.
use Rattle.std.proofs.Common.{sym, arith, map}
use Rattle.std.proofs.lemmas.Result.{err_from_is_err_and}
use Rattle.dc_fs.specs.Views.{view}
use Rattle.std.specs.List.{filter_map}
use Rattle.dc_report.specs.Carrying.{plan}
use Rattle.dc_replay.specs.Limits.{made_answer}
use Rattle.dc_replay.specs.Replaying.{made_by}
use Rattle.dc_replay.specs.TestAnswers.{first_answer}
use Rattle.dc_sync.specs.Checks.{if_there}
use Rattle.dc_sync.proofs.TestLoops.{count_more, loop_more, loop_stop, some_answers, tested_start}
use Rattle.dc_sync.proofs.checking.test_parents.Goals as goal

pub loop-one-init : goal.loop-one-init
loop-one-init g c = record {
  tested = tested_start (view g.S.Store c.args.store.now) c.args.base.now (λ A. first_answer (map (made_answer c.args.base.now (plan c.args.report.now) A) (filter_map made_by c.args.moves.now))) (λ A. first_answer (map (λ x. if_there (made_answer c.args.base.now (plan c.args.report.now) A) (made_by x)) c.args.moves.now)) (λ A. sym (some_answers (made_answer c.args.base.now (plan c.args.report.now) A) made_by c.args.moves.now));
  looks = omega arith;
}

pub loop-one-preserved : goal.loop-one-preserved
loop-one-preserved g c = record {
  tested = loop_more (λ A x. if_there (made_answer c.args.base.now (plan c.args.report.now) A) (made_by x)) (view g.S.Store c.args.store.now) (view g.S.Store c.loop-one.store) (view g.S.Store c.test_parent.new.store) c.args.base.now
      (λ A. first_answer (map (made_answer c.args.base.now (plan c.args.report.now) A) (filter_map made_by c.args.moves.now))) c.args.moves.now c.loop-one.one-index c.one-item.result c.in_ok-test_parent.field-0 c.loop-one-test.true c.one-item.is c.loop-one.invariant.tested c.in_ok-test_parent.ensures.tests;
  looks = let k = count_more made_by c.args.moves.now c.loop-one.one-index c.one-item.result c.loop-one-test.true c.one-item.is in omega (arith, k, c.loop-one.invariant.looks, c.test_parent.ensures.looks);
}

pub returns-in_err-test_parent-clause-tests : goal.returns-in_err-test_parent-clause-tests
returns-in_err-test_parent-clause-tests g c =
    let p = err_from_is_err_and c.from_residual.result c.from_residual.ensures.1 in
    rw (p.1, p.2)
    (loop_stop (λ A x. if_there (made_answer c.args.base.now (plan c.args.report.now) A) (made_by x)) (view g.S.Store c.args.store.now) (view g.S.Store c.loop-one.store) (view g.S.Store c.test_parent.new.store) c.args.base.now
    (λ A. first_answer (map (made_answer c.args.base.now (plan c.args.report.now) A) (filter_map made_by c.args.moves.now))) c.args.moves.now c.loop-one.one-index c.one-item.result c.in_err-test_parent.field-0.0 c.loop-one-test.true c.one-item.is c.loop-one.invariant.tested c.in_err-test_parent.ensures.tests)

pub returns-in_err-test_parent-clause-looks : goal.returns-in_err-test_parent-clause-looks
returns-in_err-test_parent-clause-looks g c =
    let k = count_more made_by c.args.moves.now c.loop-one.one-index c.one-item.result c.loop-one-test.true c.one-item.is in omega (arith, k, c.loop-one.invariant.looks, c.test_parent.ensures.looks)
