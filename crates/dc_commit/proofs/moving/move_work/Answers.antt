use Rattle.std.proofs.Common.{arith, Some, None}
use Rattle.dc_commit.proofs.MoveLemmas.{try_more, still_start, kept_then, kept_start, cause_more}
use Rattle.dc_commit.proofs.moving.move_work.Goals as goal

pub loop-turn-init : goal.loop-turn-init
loop-turn-init g c = record {
  still = still_start (g.T.Store.tree c.args.target.now) c.args.work.now c.args.place.now;
  kept = kept_start _;
  failed = omega arith;
  rose = omega arith;
  looks = omega arith;
}

pub loop-turn-preserved : goal.loop-turn-preserved
loop-turn-preserved g c = record {
  still = try_more (g.T.Store.tree c.args.target.now) (g.T.Store.tree c.loop-turn.target) (g.T.Store.tree c.try_move.new.target) c.args.work.now c.args.place.now None c.loop-turn.invariant.still c.in-None.ensures.tree;
  kept = kept_then _ _ _ c.loop-turn.invariant.kept c.try_move.ensures.kept;
  failed = omega (arith, c.in-None.ensures.cause.0, c.loop-turn.invariant.failed);
  rose = omega (arith, c.in-None.ensures.cause.1, c.loop-turn.invariant.rose);
  looks = omega (arith, c.loop-turn.invariant.looks, c.try_move.ensures.looks);
}

pub returns-in-Some-clause-tree : goal.returns-in-Some-clause-tree
returns-in-Some-clause-tree g c = try_more (g.T.Store.tree c.args.target.now) (g.T.Store.tree c.loop-turn.target) (g.T.Store.tree c.try_move.new.target) c.args.work.now c.args.place.now (Some c.in-Some.moved) c.loop-turn.invariant.still c.in-Some.ensures.tree

pub returns-in-Some-clause-kept : goal.returns-in-Some-clause-kept
returns-in-Some-clause-kept g c = kept_then _ _ _ c.loop-turn.invariant.kept c.try_move.ensures.kept

pub returns-in-Some-clause-cause : goal.returns-in-Some-clause-cause
returns-in-Some-clause-cause g c = cause_more _ _ _ c.in-Some.moved c.loop-turn.invariant.kept c.in-Some.ensures.cause
