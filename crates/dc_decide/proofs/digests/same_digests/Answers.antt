use Rattle.dc_decide.proofs.ReadLemmas.{denied_source}
use Rattle.dc_decide.proofs.digests.same_digests.Goals as goal

pub returns-in-Err-clause-changed : goal.returns-in-Err-clause-changed
returns-in-Err-clause-changed g c =
    denied_source c.in-Err.error (g.S.Store.tree c.args.source.now) (g.T.Store.tree c.args.target.now) c.args.item.now c.args.place.now c.args.length c.requires.file c.requires.within
    (rw c.from.ensures at c.in-Err.ensures.path) (rw c.from.ensures at c.in-Err.ensures.changed)
