-- What is parsed is the number of the digits.
use Rattle.std.proofs.Common.{◌∙◌, sym, ap, true, ◌≡◌}
use Rattle.std.specs.Char.{is_ascii_digit}
use Rattle.std.specs.List.{list_all}
use Rattle.dc_path.specs.Numbers.{number_in}
use Rattle.dc_path.proofs.NumberLemmas.{number_parsed, digits_utf8, no_digits}
use Rattle.dc_path.proofs.numbers.read_digits.Goals as goal

pub returns-in-Ok : goal.returns-in-Ok
returns-in-Ok c =
    let same = c.in-Ok.ensures.cases.0 in
    let digits : list_all is_ascii_digit c.in-Ok.text.now ≡ true = ap (list_all is_ascii_digit) same ∙ sym c.are_digits.ensures ∙ c.if-not-are_digits.false in
    c.ok.ensures.value ∙ number_parsed c.in-Ok.text.now c.parse.result digits c.parse.ensures.value.0 ∙ ap (number_in 0 18446744073709551615) same

pub returns-in-Err : goal.returns-in-Err
returns-in-Err c = absurd (c.in-Err.ensures.cases.0 (digits_utf8 c.args.digits.now (sym c.are_digits.ensures ∙ c.if-not-are_digits.false)))

pub returns-then-not-are_digits : goal.returns-then-not-are_digits
returns-then-not-are_digits c = sym (no_digits 0 18446744073709551615 c.args.digits.now (sym c.are_digits.ensures ∙ c.if-not-are_digits.true))
