use Rattle.std.proofs.Common.{refl, subst, arith, List}
use Rattle.dc_path.specs.Paths.{Names}
use Rattle.dc_commit.specs.Removals.{remove_step, remove_steps}
use Rattle.dc_commit.specs.Steps.{Stops}
use Rattle.dc_commit.proofs.KeepLemmas.{quiet_start, quiet_more}
use Rattle.dc_commit.proofs.StepLemmas.{none_done, more_done, stops_in, each_all, each_next}
use Rattle.dc_commit.proofs.removing.delete_missing.Goals as goal

pub loop-path-init : goal.loop-path-init
loop-path-init g c = record {
  removed = none_done 0 (g.T.Store.tree c.args.target.now);
  few = refl;
  kept = quiet_start _;
  looks = omega arith;
}

pub loop-path-preserved : goal.loop-path-preserved
loop-path-preserved g c = record {
  removed = more_done 0 _ _ (remove_step c.path-item.result) (g.T.Store.tree c.args.target.now) (g.T.Store.tree c.loop-path.target) (g.T.Store.tree c.remove_one.new.target) c.loop-path.done
      (each_next remove_step c.as_slice-items.result.now c.loop-path.path-index c.path-item.result c.path-item.is c.loop-path-test.true) c.loop-path.invariant.removed c.in-Ok.ensures.step;
  few = omega (arith, c.loop-path.invariant.few);
  kept = quiet_more _ _ _ _ c.loop-path.invariant.kept c.in-Ok.ensures.kept;
  looks = omega (arith, c.loop-path.invariant.looks, c.remove_one.ensures.looks);
}

pub returns-in-Err-clause-stops : goal.returns-in-Err-clause-stops
returns-in-Err-clause-stops g c =
    subst (λ (paths : List Names). Stops (remove_steps paths) (g.T.Store.tree c.args.target.now) (g.T.Store.tree c.remove_one.new.target) c.in-Err.error) c.as_slice-items.ensures
    (stops_in 0 _ _ (remove_step c.path-item.result) _ (g.T.Store.tree c.args.target.now) (g.T.Store.tree c.loop-path.target) (g.T.Store.tree c.remove_one.new.target) c.loop-path.done c.in-Err.error
    (each_all remove_step c.as_slice-items.result.now c.loop-path.path-index c.path-item.result c.path-item.is c.loop-path-test.true) c.loop-path.invariant.removed c.in-Err.ensures.step)
