use Rattle.std.proofs.Common.{◌∙◌, sym, ap}
use Rattle.std.proofs.lemmas.Result.{err_from_is_err_and}
use Rattle.dc_engine.specs.Inputs.{held_of}
use Rattle.dc_engine.specs.Surveys.{asks_report}
use Rattle.dc_engine.proofs.SurveyLemmas.{surveyed_told, unlisted_told}
use Rattle.dc_engine.proofs.surveying.survey.Goals as goal

pub returns-in_err-items-clause-answers : goal.returns-in_err-items-clause-answers
returns-in_err-items-clause-answers g c =
    let p = err_from_is_err_and c.from_residual-in_err-items.result c.from_residual-in_err-items.ensures.1 in
    rw (p.1, p.2)
    (unlisted_told (g.S.Store.tree c.args.source.now) (g.T.Store.tree c.args.target.now) c.args.options.now (held_of c.in_ok-sources.field-0) c.in_ok-placed.placed
    (ap asks_report (sym c.sync.ensures.value) ∙ sym c.asks_report.ensures ∙ c.if-asks_report.false) c.in_err-items.field-0.0
    c.in_ok-sources.ensures.held (rw c.read_inputs.ensures.source.tree at c.in_ok-placed.ensures.placed)
    (rw (c.place_sources.ensures.source.tree ∙ c.read_inputs.ensures.source.tree) at c.in_err-items.ensures.lists))

pub returns-clause-answers : goal.returns-clause-answers
returns-clause-answers g c =
    surveyed_told (g.S.Store.tree c.args.source.now) (g.T.Store.tree c.args.target.now) c.args.options.now (held_of c.in_ok-sources.field-0) c.in_ok-placed.placed
    (ap asks_report (sym c.sync.ensures.value) ∙ sym c.asks_report.ensures ∙ c.if-asks_report.false) c.in_ok-items.items
    c.in_ok-sources.ensures.held (rw c.read_inputs.ensures.source.tree at c.in_ok-placed.ensures.placed)
    (rw (c.place_sources.ensures.source.tree ∙ c.read_inputs.ensures.source.tree) at c.in_ok-items.ensures.lists)
