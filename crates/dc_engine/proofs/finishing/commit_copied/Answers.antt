use Rattle.std.proofs.Common.{inr, refl}
use Rattle.std.proofs.lemmas.Result.{err_from_is_err_and}
use Rattle.dc_engine.proofs.finishing.commit_copied.Goals as goal

pub returns-in_err-commit-clause-ends : goal.returns-in_err-commit-clause-ends
returns-in_err-commit-clause-ends g c =
    let p = err_from_is_err_and c.from_residual-in_err-commit.result c.from_residual-in_err-commit.ensures.1 in
    let e = c.in_err-commit.ensures in
    rw (p.1, p.2) (inr (record { why = c.in_err-commit.field-0.0; named = refl; stops = rw c.target.ensures at e.stops; cause = e.cause; swept = e.swept; due = rw c.target.ensures at e.due }))

pub returns-clause-due : goal.returns-clause-due
returns-clause-due g c = rw c.target.ensures at c.in_ok-commit.ensures.due
