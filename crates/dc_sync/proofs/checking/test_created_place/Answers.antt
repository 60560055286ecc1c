-- There is a place.
use Rattle.std.proofs.Common.{◌≡◌, Some, rules}
use Rattle.dc_fs.specs.Views.{view}
use Rattle.dc_report.specs.Carrying.{carries_of, place_of, plan}
use Rattle.dc_replay.specs.Limits.{place_answer}
use Rattle.dc_sync.proofs.TestLoops.{some_tests}
use Rattle.dc_sync.proofs.checking.test_created_place.Goals as goal

pub returns-in-Some-clause-tests : goal.returns-in-Some-clause-tests
returns-in-Some-clause-tests g c =
    let o : place_of (carries_of c.args.report.now) c.args.entry.now ≡ Some c.as_slice.result.now = search rules in
    some_tests (view g.S.Store c.args.store.now) (view g.S.Store c.test_place.new.store) c.args.base.now (λ A q. place_answer c.args.base.now (plan c.args.report.now) A q)
    (place_of (carries_of c.args.report.now) c.args.entry.now) c.as_slice.result.now c.test_place.result o c.test_place.ensures.tests
