-- A test more, and where it does not hold.
use Rattle.std.proofs.Common.{ap, arith, length, map}
use Rattle.std.proofs.lemmas.Result.{err_from_is_err_and}
use Rattle.dc_fs.specs.Views.{view}
use Rattle.dc_report.specs.Carrying.{plan}
use Rattle.dc_replay.specs.Limits.{new_answer}
use Rattle.dc_replay.specs.TestAnswers.{first_answer}
use Rattle.dc_sync.specs.Checks.{if_there, renamed}
use Rattle.dc_sync.proofs.TestLoops.{front_more, front_stop}
use Rattle.dc_sync.proofs.checking.test_news.Goals as goal

pub loop-to-preserved : goal.loop-to-preserved
loop-to-preserved g c = record {
  tested = front_more (λ A e. if_there (λ old. new_answer c.args.base.now (plan c.args.report.now) A (renamed old e.0)) e.1) (view g.S.Store c.args.store.now) (view g.S.Store c.loop-to.store)
      (view g.S.Store c.test_renamed.new.store) c.args.base.now
      (λ A. first_answer (map (λ e. if_there (λ old. new_answer c.args.base.now (plan c.args.report.now) A (renamed old e.0)) e.1) c.args.sources.now.entries))
      c.loop-to.to-iterator c.next.new.self (c.in-Some.to.now, c.in-Some.from.now) c.in-Some.ensures.steps c.in_ok-test_renamed.field-0 c.loop-to.invariant.tested c.in_ok-test_renamed.ensures.tests;
  looks = let k = ap length c.in-Some.ensures.steps in omega (arith, k, c.loop-to.invariant.looks, c.test_renamed.ensures.looks);
}

pub returns-in_err-test_renamed-clause-tests : goal.returns-in_err-test_renamed-clause-tests
returns-in_err-test_renamed-clause-tests g c =
    let p = err_from_is_err_and c.from_residual.result c.from_residual.ensures.1 in
    rw (p.1, p.2)
    (front_stop (λ A e. if_there (λ old. new_answer c.args.base.now (plan c.args.report.now) A (renamed old e.0)) e.1) (view g.S.Store c.args.store.now) (view g.S.Store c.loop-to.store)
    (view g.S.Store c.test_renamed.new.store) c.args.base.now
    (λ A. first_answer (map (λ e. if_there (λ old. new_answer c.args.base.now (plan c.args.report.now) A (renamed old e.0)) e.1) c.args.sources.now.entries))
    c.loop-to.to-iterator c.next.new.self (c.in-Some.to.now, c.in-Some.from.now) c.in-Some.ensures.steps c.in_err-test_renamed.field-0.0 c.loop-to.invariant.tested c.in_err-test_renamed.ensures.tests)

pub returns-in_err-test_renamed-clause-looks : goal.returns-in_err-test_renamed-clause-looks
returns-in_err-test_renamed-clause-looks g c = let k = ap length c.in-Some.ensures.steps in omega (arith, k, c.loop-to.invariant.looks, c.test_renamed.ensures.looks)
