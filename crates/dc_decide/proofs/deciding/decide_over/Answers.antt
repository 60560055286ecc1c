use Rattle.dc_decide.proofs.DecideLemmas.{file_told, over_told}
use Rattle.dc_decide.proofs.deciding.decide_over.Goals as goal

pub act_over-requires-clause-over : goal.act_over-requires-clause-over
act_over-requires-clause-over g c κs within =
    let told = g.T.Store.tree c.args.target.now in
    λ file. rw c.look_over.ensures.target.tree (file_told told c.args.place.now c.args.item.now.dir c.args.shown c.in-Ok.status c.requires.shown c.requires.over c.in-Ok.ensures.status file)

pub returns-in-Ok-act_over-clause-decides : goal.returns-in-Ok-act_over-clause-decides
returns-in-Ok-act_over-clause-decides g c =
    over_told c.args.options.now c.args.item.now c.args.place.now c.in-Ok.status c.in-Ok-act_over.action (g.S.Store.tree c.args.source.now) (g.T.Store.tree c.args.target.now)
    c.in-Ok.ensures.kind c.in-Ok.ensures.status (rw c.look_over.ensures.target.tree at c.in-Ok-act_over.ensures.action)
