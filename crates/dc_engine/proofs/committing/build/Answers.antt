use Rattle.dc_fs.specs.Views.{view}
use Rattle.dc_engine.specs.Committing.{landings_of}
use Rattle.dc_engine.proofs.PhaseLemmas.{build_on}
use Rattle.dc_engine.proofs.committing.build.Goals as goal

pub returns-in-Ok-clause-builds : goal.returns-in-Ok-clause-builds
returns-in-Ok-clause-builds g c =
    build_on c.args.place.now c.args.plan.now (landings_of g.T.Desk.Temp.Held.content g.T.Desk.Temp.Held.size c.args.plan.now c.args.files) (view g.T.Store c.args.target.now) (view g.T.Store c.make_dirs.new.target) (view g.T.Store c.land_and_sweep.new.target) c.land_and_sweep.result
    c.in-Ok.ensures.ok c.make_dirs.ensures.kept.rest c.land_and_sweep.ensures.lands
