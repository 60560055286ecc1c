use Rattle.std.proofs.Common.{◌≡◌, true, rules, subst, arith, filter, map, List}
use Rattle.std.specs.Option.{option_map}
use Rattle.dc_path.specs.Paths.{Names}
use Rattle.dc_decide.specs.Plans.{Decision}
use Rattle.dc_commit.specs.Making.{make_item}
use Rattle.dc_commit.specs.Settings.{is_dir_item}
use Rattle.dc_commit.specs.Steps.{StopsIn, StopsFrom}
use Rattle.dc_commit.proofs.KeepLemmas.{quiet_start, quiet_more}
use Rattle.dc_commit.proofs.StepLemmas.{none_done, more_done, stops_in, front_all, front_next}
use Rattle.dc_commit.proofs.making.make_folders.Goals as goal

pub loop-planned-init : goal.loop-planned-init
loop-planned-init g c = record {
  made = none_done c.args.first (g.T.Store.tree c.args.target.now);
  few = omega arith;
  kept = quiet_start _;
  looks = omega arith;
}

pub loop-planned-preserved : goal.loop-planned-preserved
loop-planned-preserved g c =
    let p : is_dir_item c.planned-item.result ≡ true = search rules in
    record {
      made = more_done c.args.first _ _ (make_item c.args.plan.now.base c.planned-item.result) (g.T.Store.tree c.args.target.now) (g.T.Store.tree c.loop-planned.target) (g.T.Store.tree c.make_item.new.target) c.loop-planned.done
          (front_next (make_item c.args.plan.now.base) is_dir_item c.items-items.result.now c.loop-planned.planned-index c.planned-item.result c.planned-item.is c.loop-planned-test.true p)
          c.loop-planned.invariant.made
          (subst (λ (base : Names). g.T.Store.tree c.make_item.new.target ≡ option_map (make_item base c.planned-item.result).change (g.T.Store.tree c.loop-planned.target)) c.base.ensures c.in-Ok.ensures.step);
      few = omega (arith, c.loop-planned.invariant.few);
      kept = quiet_more _ _ _ _ c.loop-planned.invariant.kept c.in-Ok.ensures.kept;
      looks = omega (arith, c.loop-planned.invariant.looks, c.make_item.ensures.looks);
    }

pub returns-in-Err-clause-stops : goal.returns-in-Err-clause-stops
returns-in-Err-clause-stops g c =
    let p : is_dir_item c.planned-item.result ≡ true = search rules in
    subst (λ (ds : List Decision). StopsFrom c.args.first (map (make_item c.args.plan.now.base) (filter is_dir_item ds)) (g.T.Store.tree c.args.target.now) (g.T.Store.tree c.make_item.new.target) c.in-Err.error) c.items-items.ensures.value
    (stops_in c.args.first _ _ (make_item c.args.plan.now.base c.planned-item.result) _ (g.T.Store.tree c.args.target.now) (g.T.Store.tree c.loop-planned.target) (g.T.Store.tree c.make_item.new.target) c.loop-planned.done c.in-Err.error
    (front_all (make_item c.args.plan.now.base) is_dir_item c.items-items.result.now c.loop-planned.planned-index c.planned-item.result c.planned-item.is c.loop-planned-test.true p)
    c.loop-planned.invariant.made
    (subst (λ (base : Names). StopsIn c.loop-planned.done (make_item base c.planned-item.result) (g.T.Store.tree c.loop-planned.target) (g.T.Store.tree c.make_item.new.target) c.in-Err.error) c.base.ensures c.in-Err.ensures.step))
