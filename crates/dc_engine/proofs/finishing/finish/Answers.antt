use Rattle.std.proofs.Common.{◌∙◌}
use Rattle.dc_fs.specs.Views.{view}
use Rattle.dc_engine.proofs.FinishLemmas.{refused_told}
use Rattle.dc_engine.proofs.finishing.finish.Goals as goal

pub returns-clause-told : goal.returns-clause-told
returns-clause-told g c =
    refused_told (g.S.Store.tree c.args.source.now) (g.T.Store.tree c.args.target.now) c.args.options.now c.args.settled.plan c.args.settled.deletes c.in-Err.outcome c.uncommitted.result
    (view g.S.Store c.args.source.now) (view g.S.Store c.carry_out.new.source) (view g.T.Store c.args.target.now) (view g.T.Store c.carry_out.new.target) (view g.T.Store c.give_up.new.target)
    (c.uncommitted.ensures.outcome ∙ c.give_up.ensures.outcome) c.give_up.ensures.target c.in-Err.ensures.told c.in-Err.ensures.sure
