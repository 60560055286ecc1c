-- An empty field spells none, and the parts of any other spell one each.
use Rattle.std.proofs.Common.{◌≡◌, ◌<◌, List, map, length, sym, ap, ◌∙◌, arith}
use Rattle.std.proofs.lemmas.Grind.{common_steps}
use Rattle.dc_attrs.specs.Lines.{pair_of, pairs_of}
use Rattle.dc_attrs.specs.declared.attributes.Xattr.{Xattr}
use Rattle.dc_attrs.proofs.Fields.{no_pairs, some_pairs, reads_weaker}
use Rattle.dc_attrs.proofs.pairs.read_pairs.Goals as goal

pub returns-then-is_empty : goal.returns-then-is_empty
returns-then-is_empty c = λ ys e.
    let none : length c.args.field.now ≡ 0 = grind (arith, common_steps) in
    c.new.ensures ∙ no_pairs ys c.args.field.now e none

pub returns : goal.returns
returns c =
    let some : 0 < length c.args.field.now = grind (arith, common_steps) in
    reads_weaker (λ (xs : List Xattr). map pair_of xs ≡ map (λ part. part.now) c.as_slice.result.now) (λ (xs : List Xattr). pairs_of xs ≡ c.args.field.now) c.read_parts.result
    (λ ys e. some_pairs ys c.args.field.now e some ∙ sym c.in_ok-parts.ensures ∙ ap (map (λ part. part.now)) (sym c.as_slice.ensures.value))
    c.read_parts.ensures
