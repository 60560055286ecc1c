use Rattle.std.proofs.lemmas.Result.{err_from_is_err_and}
use Rattle.dc_engine.proofs.SettleLemmas.{unplanned, settled_by, unsettled_by}
use Rattle.dc_engine.proofs.settling.settle_items.Goals as goal

pub returns-in_err-plan-clause-err : goal.returns-in_err-plan-clause-err
returns-in_err-plan-clause-err g c =
    let p = err_from_is_err_and c.from_residual.result c.from_residual.ensures.1 in
    rw (p.1, p.2)
    (unplanned c.args.options.now c.args.base c.args.items (g.S.Store.tree c.args.source.now) (g.T.Store.tree c.args.target.now) c.in_err-plan.field-0.0
    c.in_err-plan.ensures.allowed c.in_err-plan.ensures.clash c.in_err-plan.ensures.changed)

pub returns-clause-ok : goal.returns-clause-ok
returns-clause-ok g c =
    let e = c.in_ok-plan.ensures in
    settled_by c.args.options.now c.args.base c.args.items (g.S.Store.tree c.args.source.now) (g.T.Store.tree c.args.target.now) c.in_ok-plan.plan c.carry_on.result
    (record { under = e.base; entries = e.items; asked = e.asked; out = e.out; decides = e.decides })
    (rw c.plan_items.ensures.target.tree at c.carry_on.ensures.ok)

pub returns-clause-err : goal.returns-clause-err
returns-clause-err g c =
    let e = c.in_ok-plan.ensures in
    unsettled_by c.args.options.now c.args.base c.args.items (g.S.Store.tree c.args.source.now) (g.T.Store.tree c.args.target.now) c.in_ok-plan.plan c.carry_on.result
    (record { under = e.base; entries = e.items; asked = e.asked; out = e.out; decides = e.decides })
    (rw c.plan_items.ensures.target.tree at c.carry_on.ensures.err)
