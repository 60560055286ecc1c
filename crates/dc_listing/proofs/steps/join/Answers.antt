use Rattle.std.proofs.Common.{◌++◌, subst}
use Rattle.std.proofs.lemmas.Result.{err_from_is_err_and}
use Rattle.dc_path.specs.Paths.{Names}
use Rattle.dc_listing.specs.Walks.{IsPastOn}
use Rattle.dc_listing.proofs.JoinLemmas.{join_past}
use Rattle.dc_listing.proofs.steps.join.Goals as goal

pub returns-in_err-joined-2-clause-past : goal.returns-in_err-joined-2-clause-past
returns-in_err-joined-2-clause-past c =
    let p = err_from_is_err_and c.from_residual-in_err-joined-2.result c.from_residual-in_err-joined-2.ensures.1 in
    let e = c.in_err-joined-2.field-0.0 in
    let names = c.names-name-items.result.now in
    rw (p.1, p.2) (subst (λ (ns : Names). IsPastOn e (c.args.path.now ++ ns)) c.names-name-items.ensures
    (join_past c.args.path.now names c.loop-name.name-index c.name-item.result c.loop-name.joined e c.loop-name-test.true c.name-item.is c.loop-name.invariant c.in_err-joined-2.ensures.too_long c.in_err-joined-2.ensures.value))
