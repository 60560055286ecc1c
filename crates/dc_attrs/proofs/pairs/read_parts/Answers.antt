-- Each part spells the extended attribute at its place.
use Rattle.std.proofs.Common.{◌≡◌, ◌++◌, ◌∷◌, [], List, take, length, sym, ap, ap₂, ◌∙◌, arith}
use Rattle.std.proofs.lemmas.Grind.{common_steps}
use Rattle.std.proofs.lemmas.Result.{err_from_is_err_and}
use Rattle.dc_attrs.specs.declared.attributes.Xattr.{Xattr}
use Rattle.dc_attrs.proofs.Fields.{pair_by, all_pairs}
use Rattle.dc_attrs.proofs.pairs.read_parts.Goals as goal

pub returns-in_err-xattr : goal.returns-in_err-xattr
returns-in_err-xattr c =
    let p = err_from_is_err_and c.from_residual.result c.from_residual.ensures.1 in
    rw (p.1, p.2) (λ ne ys e. pair_by ys c.args.parts.now c.loop-part.part-index _ e (omega arith) (λ y s t. c.in_err-xattr.ensures ne y s))

pub loop-part-preserved : goal.loop-part-preserved
loop-part-preserved c = λ ys e.
    let pushed : c.push.new.self ≡ c.loop-part.xattrs ++ c.in_ok-xattr.xattr ∷ [] = grind (arith, common_steps) in
    pair_by ys c.args.parts.now c.loop-part.part-index _ e (omega arith) (λ y s t.
    pushed ∙ ap₂ (λ (zs : List Xattr) (z : Xattr). zs ++ z ∷ []) (c.loop-part.invariant ys e) (c.in_ok-xattr.ensures y s) ∙ sym t)

pub returns : goal.returns
returns c = λ ys e.
    let end : c.loop-part.part-index ≡ length c.args.parts.now = omega arith in
    c.loop-part.invariant ys e ∙ ap (λ n. take n ys) end ∙ all_pairs ys c.args.parts.now e
