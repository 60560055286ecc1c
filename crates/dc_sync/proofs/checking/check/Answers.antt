-- All tests, one part after the other.
use Rattle.std.proofs.Common.{subst, map}
use Rattle.std.specs.List.{flat_map}
use Rattle.dc_fs.specs.Views.{view}
use Rattle.dc_report.specs.Moves.{paths_in}
use Rattle.dc_replay.specs.TestAnswers.{Holds, first_answer, within}
use Rattle.dc_sync.specs.Checks.{TestsPaths}
use Rattle.dc_sync.proofs.TestParts.{moves_last}
use Rattle.dc_sync.proofs.checking.check.Goals as goal

pub returns-clause-tests : goal.returns-clause-tests
returns-clause-tests g c =
    let v = view g.T.Store in
    moves_last c.args.base.now c.args.report.now (v c.args.target.now) (v c.test_stage.new.store) (v c.test_tree.new.store) c.in_ok-test_stage.field-0 c.in_ok-test_tree.field-0 c.fit_moves.result
    c.in_ok-test_stage.ensures.tests c.in_ok-test_tree.ensures.tests
    (subst (λ ms. TestsPaths c.args.base.now (first_answer (map (λ p. within c.args.base.now p Holds) (flat_map paths_in ms))) c.fit_moves.result) c.in_ok-moves.ensures c.fit_moves.ensures)
