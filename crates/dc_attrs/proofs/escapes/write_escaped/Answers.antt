-- Each character goes from what is left to what is written.
use Rattle.std.proofs.Common.{◌++◌, List, ℕ, ap, ◌∙◌, string_bytes}
use Rattle.std.specs.Str.Iter.{chars_rest}
use Rattle.std.proofs.Math.Utf8.{encode}
use Rattle.dc_attrs.specs.Lines.{escaped}
use Rattle.dc_attrs.proofs.Spelled.{all_written, more_written}
use Rattle.dc_attrs.proofs.escapes.write_escaped.Goals as goal

pub returns : goal.returns
returns c = all_written (string_bytes c.loop-character.line) (chars_rest c.loop-character.character-iterator) (string_bytes c.args.line.now ++ escaped c.args.text.now) c.in-None.ensures.steps.0.0 c.loop-character.invariant

pub loop-character-init : goal.loop-character-init
loop-character-init c =
    ap (λ (t : List ℕ). string_bytes c.args.line.now ++ escaped t) (ap chars_rest c.into_iter-character-iterator.ensures.into_iter_gives ∙ c.chars-character-items.ensures.rest)

pub loop-character-preserved : goal.loop-character-preserved
loop-character-preserved c =
    more_written (string_bytes c.loop-character.line) (string_bytes c.write_character.new.line) (chars_rest c.loop-character.character-iterator) (chars_rest c.next.new.self) (encode c.in-Some.character)
    (string_bytes c.args.line.now ++ escaped c.args.text.now) c.in_ok-write_character.ensures c.in-Some.ensures.steps.0 c.loop-character.invariant
