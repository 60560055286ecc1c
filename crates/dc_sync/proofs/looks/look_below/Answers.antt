-- The path is too long, or what is seen is what stands there.
use Rattle.std.proofs.Common.{subst}
use Rattle.std.proofs.lemmas.Result.{err_from_is_err_and}
use Rattle.dc_path.specs.Paths.{IsPath}
use Rattle.dc_sync.proofs.LookLemmas.{looked_seen, looked_short}
use Rattle.dc_sync.proofs.looks.look_below.Goals as goal

pub returns-in_err-path-clause-looked : goal.returns-in_err-path-clause-looked
returns-in_err-path-clause-looked g c =
    let p = err_from_is_err_and c.from_residual.result c.from_residual.ensures.1 in
    rw (p.1, p.2) (looked_short _ c.args.base.now c.args.names.now c.in_err-path.field-0.0 c.in_err-path.ensures)

pub returns-in-Ok-clause-looked : goal.returns-in-Ok-clause-looked
returns-in-Ok-clause-looked g c =
    looked_seen _ _ c.args.base.now c.args.names.now c.in_ok-path.path c.in-Ok.shown c.in_ok-path.ensures (subst IsPath c.path.view_is c.path.invariant.0)
    (record { tree = c.in-Ok.ensures.tree; rest = c.in-Ok.ensures.rest; cause = record { later = c.in-Ok.ensures.cause.later; rose = tt; still = c.in-Ok.ensures.cause.still }; calm = c.in-Ok.ensures.calm }) c.in-Ok.ensures.seen
