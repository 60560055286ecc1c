use Rattle.std.proofs.Common.{ℕ, ◌<◌, Err, length, ap, subst}
use Rattle.std.proofs.lemmas.Result.{err_from_is_err_and}
use Rattle.dc_pieces.specs.Cutting.{plan_pieces}
use Rattle.dc_pieces.specs.Pieces.{most_pieces}
use Rattle.dc_pieces.specs.declared.cutting.PieceError.{PieceError}
use Rattle.dc_engine.proofs.SettleLemmas.{uncut}
use Rattle.dc_engine.proofs.settling.carry_on.Goals as goal

pub returns-in_err-pieces-clause-err : goal.returns-in_err-pieces-clause-err
returns-in_err-pieces-clause-err g c =
    let p = err_from_is_err_and c.from_residual-in_err-pieces.result c.from_residual-in_err-pieces.ensures.1 in
    rw (p.1, p.2)
    (uncut c.args.options.now (g.T.Store.tree c.args.target.now) c.args.plan c.in_err-pieces.field-0.0 c.in_ok-deletes.ensures.walks
    (λ e. subst (λ (n : ℕ). most_pieces < length (plan_pieces n c.args.plan)) c.blocks-2.ensures.value (c.in_err-pieces.ensures.too_many.0 (ap (λ (why : PieceError). Err why) e))))
