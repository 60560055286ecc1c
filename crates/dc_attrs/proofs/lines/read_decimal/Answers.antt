-- A number that is written in decimal is read.
use Rattle.std.proofs.Common.{◌≡◌, ◌<◌, ◌^◌, Some, None, sym, ap, ◌∙◌, arith}
use Rattle.dc_path.specs.Numbers.{number_in}
use Rattle.dc_path.proofs.NumberLemmas.{number_in-decimal}
use Rattle.dc_attrs.proofs.lines.read_decimal.Goals as goal

pub returns-in-Some-clause-back : goal.returns-in-Some-clause-back
returns-in-Some-clause-back c = λ y h.
    let small : y < 2 ^ 64 = omega (arith, h.0, c.ranges.most.fits) in
    let is : Some c.in-Some.number ≡ Some y =
    c.in-Some.ensures.value ∙ ap (number_in 0 c.args.most) (c.as_bytes.ensures.value ∙ sym h.1) ∙ number_in-decimal c.args.most y h.0 small in
    cc

pub returns-in-None-clause-back : goal.returns-in-None-clause-back
returns-in-None-clause-back c = λ _ y h.
    let small : y < 2 ^ 64 = omega (arith, h.0, c.ranges.most.fits) in
    let is : None ≡ Some y =
    c.in-None.ensures.value ∙ ap (number_in 0 c.args.most) (c.as_bytes.ensures.value ∙ sym h.1) ∙ number_in-decimal c.args.most y h.0 small in
    cc
