-- What digits write, within the bounds.
use Rattle.std.proofs.Common.{◌∙◌, sym, ap, arith}
use Rattle.dc_path.proofs.NumberLemmas.{number_within, within, within-in, within-out}
use Rattle.dc_path.proofs.numbers.read_number.Goals as goal

pub returns-in-Some-clause-value : goal.returns-in-Some-clause-value
returns-in-Some-clause-value c =
    sym (number_within c.args.least c.args.most c.args.digits.now (omega arith) ∙ within-in c.args.least c.args.most c.in-Some.number _ (sym c.in-Some.ensures) c.if-least-number.true c.if-number-most.true)

pub returns-in_default-clause-value : goal.returns-in_default-clause-value
returns-in_default-clause-value c =
    sym (number_within c.args.least c.args.most c.args.digits.now (omega arith) ∙ within-out c.args.least c.args.most c.in-Some.number _ (sym c.in-Some.ensures) (λ b. λ d. omega arith))

pub returns-in_default-2-clause-value : goal.returns-in_default-2-clause-value
returns-in_default-2-clause-value c =
    sym (number_within c.args.least c.args.most c.args.digits.now (omega arith) ∙ within-out c.args.least c.args.most c.in-Some.number _ (sym c.in-Some.ensures) (λ b. λ d. omega arith))

pub returns-in_default-3-clause-value : goal.returns-in_default-3-clause-value
returns-in_default-3-clause-value c =
    sym (number_within c.args.least c.args.most c.args.digits.now (omega arith) ∙ ap (within c.args.least c.args.most) (sym c.in_default.ensures))
