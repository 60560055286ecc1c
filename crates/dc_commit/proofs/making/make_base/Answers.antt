use Rattle.std.proofs.Common.{◌≡◌, false, rules, subst}
use Rattle.dc_path.specs.Paths.{Names}
use Rattle.dc_commit.specs.Making.{has_root_file, make_step}
use Rattle.dc_commit.specs.Steps.{StopsIn}
use Rattle.dc_commit.proofs.MakeLemmas.{base_stops}
use Rattle.dc_commit.proofs.making.make_base.Goals as goal

pub returns-in-Err-clause-stops : goal.returns-in-Err-clause-stops
returns-in-Err-clause-stops g c =
    let p : has_root_file c.args.plan.now.items ≡ false = search rules in
    base_stops (has_root_file c.args.plan.now.items) c.args.first (make_step c.args.plan.now.base) (g.T.Store.tree c.args.target.now) (g.T.Store.tree c.make_place.new.target) c.in-Err.error p
    (subst (λ (base : Names). StopsIn c.args.first (make_step base) (g.T.Store.tree c.args.target.now) (g.T.Store.tree c.make_place.new.target) c.in-Err.error) c.base.ensures c.in-Err.ensures.step)
