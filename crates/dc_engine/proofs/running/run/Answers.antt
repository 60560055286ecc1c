use Rattle.std.proofs.Common.{refl, sym, ◌∙◌, ap, subst}
use Rattle.dc_fs.specs.Views.{view, BothTrees}
use Rattle.dc_engine.specs.Outcomes.{is_decided}
use Rattle.dc_engine.specs.Running.{IsRefused}
use Rattle.dc_engine.specs.declared.outcome.Outcome.{Outcome}
use Rattle.dc_engine.proofs.HeldLemmas.{finish_named, held_told, waves_told}
use Rattle.dc_engine.proofs.running.run.Goals as goal

pub returns-in-Ok-clause-named : goal.returns-in-Ok-clause-named
returns-in-Ok-clause-named g c =
    finish_named (g.S.Store.tree c.args.source.now) (g.T.Store.tree c.args.target.now) c.args.options.now _ _ _ c.finish.ensures.named c.in-Ok.ensures.prepared.told

pub returns-in-Ok-clause-waves : goal.returns-in-Ok-clause-waves
returns-in-Ok-clause-waves g c committed still =
    waves_told (g.S.Store.tree c.args.source.now) (g.T.Store.tree c.args.target.now) c.args.options.now c.in-Ok.field-0.settled.plan c.in-Ok.field-0.settled.deletes c.in-Ok.field-0.kills c.in-Ok.field-0.settled.pieces
    (view g.S.Store c.args.source.now) (view g.S.Store c.prepare.new.source) (view g.S.Store c.finish.new.source)
    (view g.T.Store c.args.target.now) (view g.T.Store c.prepare.new.target) (view g.T.Store c.finish.new.target)
    c.in-Ok.ensures.source_same c.in-Ok.ensures.target_same c.in-Ok.ensures.prepared.pieces c.in-Ok.ensures.prepared.kills c.in-Ok.ensures.prepared.told (c.finish.ensures.created committed) still

pub returns-in-Err-clause-refused : goal.returns-in-Err-clause-refused
returns-in-Err-clause-refused g c decided stopped =
    subst (λ (e : Outcome). BothTrees (g.S.Store.tree c.args.source.now) (g.T.Store.tree c.args.target.now) (λ s t. IsRefused c.args.options.now s t e)) (sym c.uncommitted.ensures.outcome)
    (c.in-Err.ensures.held.refused (ap is_decided (sym c.uncommitted.ensures.outcome) ∙ decided))

pub returns-in-Err-clause-told : goal.returns-in-Err-clause-told
returns-in-Err-clause-told g c =
    held_told (g.S.Store.tree c.args.source.now) (g.T.Store.tree c.args.target.now) c.args.options.now c.in-Err.outcome c.uncommitted.result
    (view g.S.Store c.args.source.now) (view g.S.Store c.prepare.new.source) (view g.T.Store c.args.target.now) (view g.T.Store c.prepare.new.target)
    refl c.uncommitted.ensures.outcome c.in-Err.ensures.held c.in-Err.ensures.held.shown
