-- A move more, and one that does not fit.
use Rattle.std.proofs.Common.{◌∙◌, ap, drop, map, ◌+◌}
use Rattle.std.proofs.lemmas.Result.{err_from_is_err_and}
use Rattle.std.specs.List.{flat_map}
use Rattle.dc_report.specs.Moves.{paths_in}
use Rattle.dc_replay.specs.TestAnswers.{Answer, Holds, and_then, first_answer, within}
use Rattle.dc_sync.proofs.TestLoops.{fits_more, paths_stop}
use Rattle.dc_sync.proofs.checking.fit_moves.Goals as goal

pub loop-one-preserved : goal.loop-one-preserved
loop-one-preserved c =
    let left = first_answer (map (λ p. within c.args.base.now p Holds) (flat_map paths_in (drop (c.loop-one.one-index + 1) c.as_slice-one-items.result.now))) in
    c.loop-one.invariant
    ∙ fits_more (λ p. within c.args.base.now p Holds) c.as_slice-one-items.result.now c.loop-one.one-index c.one-item.result c.loop-one-test.true c.one-item.is
    ∙ ap (λ (a : Answer). and_then a left) c.in_ok-fit_move.ensures.tells

pub returns-in_err-fit_move : goal.returns-in_err-fit_move
returns-in_err-fit_move c =
    let p = err_from_is_err_and c.from_residual.result c.from_residual.ensures.1 in
    let left = first_answer (map (λ p. within c.args.base.now p Holds) (flat_map paths_in (drop (c.loop-one.one-index + 1) c.as_slice-one-items.result.now))) in
    rw (p.1, p.2)
    (paths_stop c.args.base.now _ _ left c.in_err-fit_move.field-0.0
    (c.loop-one.invariant ∙ fits_more (λ p. within c.args.base.now p Holds) c.as_slice-one-items.result.now c.loop-one.one-index c.one-item.result c.loop-one-test.true c.one-item.is)
    c.in_err-fit_move.ensures)
