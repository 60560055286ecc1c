use Rattle.std.proofs.Common.{◌≡◌, ◌++◌, string_bytes}
use Rattle.std.specs.Str.Iter.{chars_rest}
use Rattle.dc_attrs.specs.Lines.{escaped}
use Rattle.dc_attrs.proofs.escapes.write_escaped.Given as goal

-- what is written and what is left are the whole
abbrev pub invariant-loop-character : goal.invariant-loop-character
invariant-loop-character l = string_bytes l.line ++ escaped (chars_rest l.character-iterator) ≡ string_bytes l.fn.line ++ escaped l.text
