use Rattle.std.proofs.Common.{◌++◌, ◌∙◌, ap, subst}
use Rattle.dc_path.specs.Paths.{Names}
use Rattle.dc_fs.specs.Views.{BothTell}
use Rattle.dc_decide.specs.Deciding.{DecidesAs}
use Rattle.dc_plan.proofs.PlanningLemmas.{decided_on}
use Rattle.dc_plan.proofs.planning.plan_item.Goals as goal

pub returns-in-Ok-decide-clause-decides : goal.returns-in-Ok-decide-clause-decides
returns-in-Ok-decide-clause-decides g c =
    let place = c.in-Ok.ensures ∙ ap (λ (rel : Names). c.args.base.now ++ rel) c.rel.ensures in
    decided_on (g.S.Store.tree c.args.source.now) (g.T.Store.tree c.args.target.now) c.args.options.now c.args.base.now c.args.item c.in-Ok-decide.decided c.new.result c.new.ensures
    (subst (λ (p : Names). BothTell (g.S.Store.tree c.args.source.now) (g.T.Store.tree c.args.target.now) (DecidesAs c.args.options.now c.args.item p c.in-Ok-decide.decided)) place c.in-Ok-decide.ensures.decides)
