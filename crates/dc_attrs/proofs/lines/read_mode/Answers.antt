-- The digits of a mode are the places of its octal number.
use Rattle.std.proofs.Common.{sym, ◌∙◌}
use Rattle.dc_attrs.proofs.Fields.{octal_at, octal_value}
use Rattle.dc_attrs.proofs.lines.read_mode.Goals as goal

pub returns-then-digits-ne4 : goal.returns-then-digits-ne4
returns-then-digits-ne4 c = λ _ y h.
    let at = octal_at y c.as_bytes-digits.result.now (h.1 ∙ sym c.as_bytes-digits.ensures.value) in
    c.if-digits-ne4.true at.4

pub returns : goal.returns
returns c = λ y h.
    octal_value y c.as_bytes-digits.result.now c.octal_value.result c.octal_value-2.result c.octal_value-3.result c.octal_value-4.result h.0 (h.1 ∙ sym c.as_bytes-digits.ensures.value)
    c.octal_value.ensures.value c.octal_value-2.ensures.value c.octal_value-3.ensures.value c.octal_value-4.ensures.value
