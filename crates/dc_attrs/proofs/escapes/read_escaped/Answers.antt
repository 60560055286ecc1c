-- Decoding undoes the spelling, and what has a spelling is UTF-8.
use Rattle.std.proofs.Common.{◌≡◌, ◌++◌, List, ℕ, sym, ap, subst, ◌∙◌}
use Rattle.std.specs.Str.{IsUtf8}
use Rattle.percent_encoding.specs.Percent.{percent_decode}
use Rattle.percent_encoding.specs.Iter.{decoded_bytes}
use Rattle.dc_attrs.proofs.Spelled.{decoded, utf8_read}
use Rattle.dc_attrs.proofs.escapes.read_escaped.Goals as goal

pub returns-in-Ok : goal.returns-in-Ok
returns-in-Ok c = λ y e.
    let bytes : c.as_slice.result.now ≡ percent_decode c.args.field.now =
    c.as_slice.ensures.value ∙ c.in_ok-append_to.ensures.ok ∙ ap (λ (t : List ℕ). t ++ decoded_bytes c.percent_decode_str.result) c.new-bytes.ensures.items ∙ c.percent_decode_str.ensures.bytes in
    c.in_ok-read-in-Ok.ensures ∙ c.in-Ok.ensures.cases.0 ∙ bytes ∙ ap percent_decode (sym e) ∙ decoded y

pub returns : goal.returns
returns c = λ _ y e.
    let bytes : c.as_slice.result.now ≡ percent_decode c.args.field.now =
    c.as_slice.ensures.value ∙ c.in_ok-append_to.ensures.ok ∙ ap (λ (t : List ℕ). t ++ decoded_bytes c.percent_decode_str.result) c.new-bytes.ensures.items ∙ c.percent_decode_str.ensures.bytes in
    let is : y ≡ c.as_slice.result.now = sym (bytes ∙ ap percent_decode (sym e) ∙ decoded y) in
    c.in-Err.ensures.cases.0 (subst IsUtf8 is (utf8_read y (subst IsUtf8 (sym e) c.utf8.field)))
