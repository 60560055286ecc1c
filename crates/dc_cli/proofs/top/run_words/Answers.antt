use Rattle.dc_fs.specs.Views.{view}
use Rattle.dc_options.specs.Reading.{options}
use Rattle.dc_cli.proofs.TopLemmas.{due_words, refused_early, stopped_told, stopped_words, unswept, verdict_told}
use Rattle.dc_cli.proofs.top.run_words.Goals as goal

pub returns-in-Ok-clause-verdict : goal.returns-in-Ok-clause-verdict
returns-in-Ok-clause-verdict g c =
    verdict_told (g.S.Store.tree c.args.source.now) (g.T.Store.tree c.args.target.now) c.args.words.now _ c.run.result
    (view g.S.Store c.args.source.now) (view g.S.Store c.run.new.source) (view g.T.Store c.args.target.now) (view g.T.Store c.run.new.target)
    c.in-Ok.ensures c.run.ensures.told c.run.ensures.refused

pub returns-in-Ok-clause-stopped_early : goal.returns-in-Ok-clause-stopped_early
returns-in-Ok-clause-stopped_early g c = λ m.
    stopped_told (g.S.Store.tree c.args.source.now) (g.T.Store.tree c.args.target.now) c.args.words.now _ c.run.result
    (view g.S.Store c.args.source.now) (view g.S.Store c.run.new.source) (view g.T.Store c.args.target.now) (view g.T.Store c.run.new.target)
    c.in-Ok.ensures c.run.ensures.told m

pub returns-in-Err-clause-due : goal.returns-in-Err-clause-due
returns-in-Err-clause-due g c = due_words (options c.args.words.now) c.in-Err.error c.unasked.result.outcome c.unasked.ensures.outcome c.in-Err.ensures

pub returns-in-Err-clause-stopped_early : goal.returns-in-Err-clause-stopped_early
returns-in-Err-clause-stopped_early g c = λ m.
    stopped_words (options c.args.words.now) c.in-Err.error c.unasked.result.outcome (g.S.Store.tree c.args.source.now) (view g.T.Store c.args.target.now) c.unasked.ensures.outcome c.in-Err.ensures

pub returns-in-Ok-clause-unchanged : goal.returns-in-Ok-clause-unchanged
returns-in-Ok-clause-unchanged g c = λ h. c.run.ensures.unchanged (refused_early c.run.result.outcome h)

pub returns-in-Err-clause-unchanged : goal.returns-in-Err-clause-unchanged
returns-in-Err-clause-unchanged g c = λ h. unswept (g.T.Store.rest c.args.target.now)
