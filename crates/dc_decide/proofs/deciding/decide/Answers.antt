use Rattle.std.proofs.Common.{sym, ◌∙◌}
use Rattle.dc_decide.proofs.DecideLemmas.{new_told}
use Rattle.dc_decide.proofs.deciding.decide.Goals as goal

pub returns-then-is_missing-clause-decides : goal.returns-then-is_missing-clause-decides
returns-then-is_missing-clause-decides g c =
    rw c.decide_new.ensures (new_told c.args.options.now c.args.item.now c.args.place.now (g.S.Store.tree c.args.source.now) (g.T.Store.tree c.args.target.now) c.in-Ok.shown c.in-Ok.ensures.seen
    (sym c.is_missing.ensures ∙ c.if-is_missing.true))
