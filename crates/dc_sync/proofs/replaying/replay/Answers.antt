use Rattle.std.proofs.Common.{◌∙◌, subst, arith, List}
use Rattle.dc_report.specs.declared.entries.Move.{Move}
use Rattle.dc_sync.specs.Replays.{Leaves}
use Rattle.dc_sync.proofs.ReplayLemmas.{move_more, stop_leaves}
use Rattle.dc_sync.proofs.replaying.replay.Goals as goal

pub loop-one-preserved : goal.loop-one-preserved
loop-one-preserved g c = record {
  tree = move_more c.as_slice-one-items.result.now c.loop-one.one-index c.one-item.result (g.T.Store.tree c.args.target.now) (g.T.Store.tree c.loop-one.target) (g.T.Store.tree c.make_move.new.target) c.one-item.is c.loop-one-test.true
      c.loop-one.invariant.tree c.in-Ok.ensures.tree;
  few = omega (arith, c.loop-one.invariant.few);
  rest = c.in-Ok.ensures.kept.rest ∙ c.loop-one.invariant.rest;
  still = c.in-Ok.ensures.kept.cause.still ∙ c.loop-one.invariant.still;
  calm = c.in-Ok.ensures.kept.calm ∙ c.loop-one.invariant.calm;
  looks = omega (arith, c.loop-one.invariant.looks, c.make_move.ensures.looks);
}

pub returns-in-Err-clause-tree : goal.returns-in-Err-clause-tree
returns-in-Err-clause-tree g c =
    subst (λ (ms : List Move). Leaves ms (g.T.Store.tree c.args.target.now) (g.T.Store.tree c.make_move.new.target) c.stopped.result) c.as_slice-one-items.ensures
    (stop_leaves c.as_slice-one-items.result.now c.loop-one.one-index c.one-item.result c.in-Err.error (g.T.Store.tree c.args.target.now) (g.T.Store.tree c.loop-one.target) (g.T.Store.tree c.make_move.new.target) c.one-item.is c.loop-one-test.true
    c.loop-one.invariant.tree c.in-Err.ensures.tree c.in-Err.ensures.answers c.loop-one.done c.stopped.result c.loop-one.invariant.few c.stopped.ensures)
