-- What has this line is what was read of its fields.
use Rattle.std.proofs.Common.{◌≡◌, ◌≢◌, ◌==◌, true, List, ℕ, map, Bor, Err, sym, ap, ◌∙◌, arith}
use Rattle.std.specs.List.{slice_split}
use Rattle.std.proofs.lemmas.Grind.{common_steps}
use Rattle.std.proofs.lemmas.Result.{err_from_is_err_and}
use Rattle.dc_path.specs.Paths.{Names}
use Rattle.dc_path.specs.Names.{same_name}
use Rattle.dc_path.proofs.PathLemmas.{name_decides}
use Rattle.dc_attrs.specs.Attributes.{Attributes}
use Rattle.dc_attrs.specs.Lines.{fields_of, line_of, HasLine}
use Rattle.dc_attrs.specs.declared.lines.LineError.TheVariants.{Bad, Memory}
use Rattle.dc_attrs.proofs.Fields.{fields_split}
use Rattle.dc_attrs.proofs.attributes.Attrs.read_line.Goals as goal

spelt : (p : Names) (a : Attributes) (line : List ℕ) (items fields : List (Bor (List ℕ))) → HasLine p a → line_of p a ≡ line → map (λ part. part.now) items ≡ slice_split (λ byte. byte == 9) line → fields ≡ items
    → fields_of p a ≡ map (λ field. field.now) fields
spelt p a line items fields h e k s = sym (fields_split p a h) ∙ ap (slice_split (λ byte. byte == 9)) e ∙ sym k ∙ ap (map (λ part. part.now)) (sym s)

pub returns-in_err-path-clause-bad : goal.returns-in_err-path-clause-bad
returns-in_err-path-clause-bad c = λ b p a h e.
    let r = err_from_is_err_and c.from_residual-in_err-path.result c.from_residual-in_err-path.ensures.1 in
    let is : Err r.0 ≡ Err Bad = sym r.1 ∙ b in
    let bad : r.0 ≡ Bad = cc in
    let apart : c.in_err-path.field-0.0 ≢ Memory = λ m. let k : Bad ≡ Memory = sym bad ∙ r.2 ∙ m in cc in
    c.in_err-path.ensures apart (p, a) (h, spelt p a c.args.line.now c.in_ok-fields.fields.items c.as_slice.result.now h e c.in_ok-fields.ensures c.as_slice.ensures.value)

pub returns-then-ne-clause-bad : goal.returns-then-ne-clause-bad
returns-then-ne-clause-bad c = λ b p a h e.
    let same = c.in_ok-path.ensures (p, a) (h, spelt p a c.args.line.now c.in_ok-fields.fields.items c.as_slice.result.now h e c.in_ok-fields.ensures c.as_slice.ensures.value) in
    let eq : c.as_str.result.now ≡ c.args.line.now =
    c.as_str.ensures ∙ c.in_ok-spelling.ensures.line ∙ ap (λ (read : Names × Attributes). line_of read.0 read.1) same ∙ e in
    let k : same_name c.as_str.result.now c.args.line.now ≡ true = (name_decides c.as_str.result.now c.args.line.now).1 eq in
    grind (arith, common_steps, k)
