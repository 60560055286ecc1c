-- The name stands before the first `=`, and the value behind it.
use Rattle.std.proofs.Common.{◌∙◌, sym, arith}
use Rattle.std.proofs.lemmas.Result.{err_from_is_err_and}
use Rattle.dc_attrs.proofs.Fields.{no_equals, pair_cut, pair_made}
use Rattle.dc_attrs.proofs.pairs.read_pair.Goals as goal

pub returns-in_default : goal.returns-in_default
returns-in_default c = λ _ y e. no_equals y c.args.part.now e (c.in_default.ensures.byte (omega arith) (λ w o f. f))

pub returns-in_err-name : goal.returns-in_err-name
returns-in_err-name c =
    let p = err_from_is_err_and c.from_residual.result c.from_residual.ensures.1 in
    let cut = c.in-Some.ensures.byte (omega arith) (λ w o f. f) in
    rw (p.1, p.2) (λ apart y e. c.in_err-name.ensures apart y.name ((pair_cut y c.args.part.now e cut.2).0 ∙ sym cut.0))

pub returns-in_err-value : goal.returns-in_err-value
returns-in_err-value c =
    let p = err_from_is_err_and c.from_residual-in_err-value.result c.from_residual-in_err-value.ensures.1 in
    let cut = c.in-Some.ensures.byte (omega arith) (λ w o f. f) in
    rw (p.1, p.2) (λ apart y e. c.in_err-value.ensures apart y.value ((pair_cut y c.args.part.now e cut.2).1 ∙ sym cut.1))

pub returns : goal.returns
returns c = λ y e.
    let cut = c.in-Some.ensures.byte (omega arith) (λ w o f. f) in
    let at = pair_cut y c.args.part.now e cut.2 in
    pair_made _ y (c.in_ok-name.ensures y.name (at.0 ∙ sym cut.0)) (c.in_ok-value.ensures y.value (at.1 ∙ sym cut.1))
