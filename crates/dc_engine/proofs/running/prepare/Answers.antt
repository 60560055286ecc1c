use Rattle.std.proofs.Common.{◌≤◌, List, length, subst}
use Rattle.std.proofs.lemmas.Result.{err_from_is_err_and}
use Rattle.dc_fs.specs.Views.{view}
use Rattle.dc_pieces.specs.Pieces.{most_pieces}
use Rattle.dc_pieces.specs.declared.piece.Piece.{Piece}
use Rattle.dc_engine.proofs.HeldLemmas.{settle_held, settled_told, survey_held}
use Rattle.dc_engine.proofs.running.prepare.Goals as goal

pub returns-in_err-base-clause-held : goal.returns-in_err-base-clause-held
returns-in_err-base-clause-held g c =
    let p = err_from_is_err_and c.from_residual.result c.from_residual.ensures.1 in
    let e = c.in_err-base.ensures in
    rw (p.1, p.2) (
    survey_held c.args.options.now c.in_err-base.field-0.0 (view g.S.Store c.args.source.now) (view g.S.Store c.survey.new.source) (view g.T.Store c.args.target.now) (view g.T.Store c.survey.new.target)
    e.kind e.source e.target e.phase e.built e.too_long e.answers e.changed
    )

pub returns-in_err-settled-clause-held : goal.returns-in_err-settled-clause-held
returns-in_err-settled-clause-held g c =
    let p = err_from_is_err_and c.from_residual-in_err-settled.result c.from_residual-in_err-settled.ensures.1 in
    let found = c.in_ok-base.ensures in
    let e = c.in_err-settled.ensures in
    rw (p.1, p.2) (
    settle_held _ c.args.options.now c.in_err-settled.field-0.0
    (view g.S.Store c.args.source.now) (view g.S.Store c.survey.new.source) (view g.S.Store c.settle.new.source)
    (view g.T.Store c.args.target.now) (view g.T.Store c.survey.new.target) (view g.T.Store c.settle.new.target)
    found.source found.target c.in_ok-base.field-0.base c.in_ok-base.field-0.items
    e.kind e.source e.target e.cleared e.phase e.too_long found.base found.ascending found.answers e.refused e.changed
    )

pub returns-clause-prepared : goal.returns-clause-prepared
returns-clause-prepared g c =
    let found = c.in_ok-base.ensures in
    let e = c.in_ok-settled.ensures in
    record {
      asked = e.plan.asked;
      pieces = e.pieces;
      few = found.stops;
      ordered = found.ordered;
      kills = found.kills;
      told = settled_told _ c.args.options.now (view g.S.Store c.args.source.now) (view g.S.Store c.survey.new.source) (view g.T.Store c.args.target.now) (view g.T.Store c.survey.new.target) found.source found.target
          c.in_ok-base.field-0.base c.in_ok-base.field-0.items c.in_ok-settled.settled.plan c.in_ok-settled.settled.deletes found.base found.ascending found.answers e.plan e.deletes e.walked (subst (λ (ps : List Piece). length ps ≤ most_pieces) e.pieces e.few);
    }
