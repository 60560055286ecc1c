-- The start, a test more, and where it does not hold.
use Rattle.std.proofs.Common.{◌≡◌, ◌∙◌, sym, ap, arith, rules, map}
use Rattle.std.proofs.lemmas.Result.{err_from_is_err_and}
use Rattle.dc_fs.specs.Views.{view}
use Rattle.dc_report.specs.Carrying.{carries_of, place_of, plan}
use Rattle.dc_replay.specs.Limits.{place_answer}
use Rattle.dc_replay.specs.TestAnswers.{first_answer}
use Rattle.dc_sync.specs.Checks.{if_there}
use Rattle.dc_sync.proofs.TestLoops.{loop_more, loop_stop, some_answers, tested_start}
use Rattle.dc_sync.proofs.checking.test_places.Goals as goal

pub loop-entry-init : goal.loop-entry-init
loop-entry-init g c = let items : c.as_slice-entry-items.result.now ≡ c.args.report.now = search rules in record {
  tested = tested_start (view g.S.Store c.args.store.now) c.args.base.now (λ A. first_answer (map (place_answer c.args.base.now (plan c.args.report.now) A) (plan c.args.report.now).places)) (λ A. first_answer (map (λ x. if_there (place_answer c.args.base.now (plan c.args.report.now) A) (place_of (carries_of c.args.report.now) x)) c.as_slice-entry-items.result.now)) (λ A. sym (some_answers (place_answer c.args.base.now (plan c.args.report.now) A) (place_of (carries_of c.args.report.now)) c.args.report.now) ∙ ap (λ es. first_answer (map (λ x. if_there (place_answer c.args.base.now (plan c.args.report.now) A) (place_of (carries_of c.args.report.now) x)) es)) (sym items));
  looks = omega arith;
}

pub loop-entry-preserved : goal.loop-entry-preserved
loop-entry-preserved g c = record {
  tested = loop_more (λ A x. if_there (place_answer c.args.base.now (plan c.args.report.now) A) (place_of (carries_of c.args.report.now) x)) (view g.S.Store c.args.store.now) (view g.S.Store c.loop-entry.store) (view g.S.Store c.test_created_place.new.store) c.args.base.now
      (λ A. first_answer (map (place_answer c.args.base.now (plan c.args.report.now) A) (plan c.args.report.now).places)) c.as_slice-entry-items.result.now c.loop-entry.entry-index c.entry-item.result c.in_ok-test_created_place.field-0 c.loop-entry-test.true c.entry-item.is c.loop-entry.invariant.tested c.in_ok-test_created_place.ensures.tests;
  looks = omega (arith, c.loop-entry.invariant.looks, c.test_created_place.ensures.looks);
}

pub returns-in_err-test_created_place-clause-tests : goal.returns-in_err-test_created_place-clause-tests
returns-in_err-test_created_place-clause-tests g c =
    let p = err_from_is_err_and c.from_residual.result c.from_residual.ensures.1 in
    rw (p.1, p.2)
    (loop_stop (λ A x. if_there (place_answer c.args.base.now (plan c.args.report.now) A) (place_of (carries_of c.args.report.now) x)) (view g.S.Store c.args.store.now) (view g.S.Store c.loop-entry.store) (view g.S.Store c.test_created_place.new.store) c.args.base.now
    (λ A. first_answer (map (place_answer c.args.base.now (plan c.args.report.now) A) (plan c.args.report.now).places)) c.as_slice-entry-items.result.now c.loop-entry.entry-index c.entry-item.result c.in_err-test_created_place.field-0.0 c.loop-entry-test.true c.entry-item.is c.loop-entry.invariant.tested c.in_err-test_created_place.ensures.tests)
