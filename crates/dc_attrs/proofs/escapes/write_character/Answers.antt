-- A character that is escaped is one byte, and the bytes of every other stand for themselves.
use Rattle.std.proofs.Common.{◌≡◌, ◌++◌, true, false, List, ℕ, sym, ap, ◌∙◌, arith, string_bytes}
use Rattle.dc_attrs.specs.Lines.{is_escaped}
use Rattle.dc_attrs.proofs.Spelled.{coded_small, coded_character, kept_character}
use Rattle.dc_attrs.proofs.escapes.write_character.Goals as goal

pub overflow_cast-character : goal.overflow_cast-character
overflow_cast-character c =
    let coded : is_escaped c.args.character ≡ true = sym c.is_escaped.ensures ∙ c.if-is_escaped.true in
    let small = coded_small c.args.character coded in
    omega (arith, small)

pub returns-in_ok-push_str : goal.returns-in_ok-push_str
returns-in_ok-push_str c =
    let coded : is_escaped c.args.character ≡ true = sym c.is_escaped.ensures ∙ c.if-is_escaped.true in
    let spelt = coded_character c.args.character coded in
    c.in_ok-push_str.ensures.bytes ∙ ap (λ (t : List ℕ). string_bytes c.args.line.now ++ t) (c.percent_encode_byte.ensures ∙ sym spelt)

pub returns-in_ok-push : goal.returns-in_ok-push
returns-in_ok-push c =
    let kept : is_escaped c.args.character ≡ false = sym c.is_escaped.ensures ∙ c.if-is_escaped.false in
    let spelt = kept_character c.args.character kept in
    c.in_ok-push.ensures.bytes ∙ ap (λ (t : List ℕ). string_bytes c.args.line.now ++ t) (sym spelt)
