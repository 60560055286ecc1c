use Rattle.dc_listing.specs.Roots.{placing_of, snapshot_in}
use Rattle.dc_engine.proofs.StandLemmas.{stand_told}
use Rattle.dc_engine.proofs.surveying.place_sources.Goals as goal

pub returns-clause-stand : goal.returns-clause-stand
returns-clause-stand g c =
    stand_told (g.S.Store.tree c.args.source.now) (g.T.Store.tree c.args.target.now) (placing_of c.args.options.now c.args.sources.now c.in_ok-shown.shown) (snapshot_in c.args.options.now.sync)
    c.args.sources.now c.in_ok-roots.roots c.in_ok-roots.ensures.answers
