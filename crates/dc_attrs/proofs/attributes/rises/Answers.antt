-- Two names that stand side by side decide.
use Rattle.std.proofs.Common.{◌≡◌, suc, ◌+◌, ◌-◌, Bool, not, ◌&&◌, map, drop, sym, ap, ◌∙◌, arith}
use Rattle.dc_attrs.specs.Limits.{rises, name_of}
use Rattle.dc_attrs.proofs.Rising.{rises_by, rises_end}
use Rattle.dc_attrs.proofs.attributes.rises.Goals as goal

pub returns-then-ge : goal.returns-then-ge
returns-then-ge c =
    let xs = c.args.xattrs.now in
    let p = c.loop-place.place in
    let e : suc (p - 1) ≡ p = omega arith in
    sym (
    c.loop-place.invariant
    ∙ rises_by xs (p - 1) p e c.as_str-before.result.now c.as_str-name.result.now c.index-xattrs-place.result c.index-xattrs-place-in-loop-place.result c.ge.result c.loop-place-test.true c.as_str-before.ensures c.as_str-name.ensures c.ge.ensures
    ∙ ap (λ (r : Bool). not r && rises (map name_of (drop p xs))) c.if-ge.true
    )

pub loop-place-preserved : goal.loop-place-preserved
loop-place-preserved c =
    let xs = c.args.xattrs.now in
    let p = c.loop-place.place in
    let e : suc (p - 1) ≡ p = omega arith in
    let n : p ≡ p + 1 - 1 = omega arith in
    c.loop-place.invariant
    ∙ rises_by xs (p - 1) p e c.as_str-before.result.now c.as_str-name.result.now c.index-xattrs-place.result c.index-xattrs-place-in-loop-place.result c.ge.result c.loop-place-test.true c.as_str-before.ensures c.as_str-name.ensures c.ge.ensures
    ∙ ap (λ (r : Bool). not r && rises (map name_of (drop p xs))) c.if-ge.false
    ∙ ap (λ i. rises (map name_of (drop i xs))) n

pub returns : goal.returns
returns c = sym (c.loop-place.invariant ∙ rises_end c.args.xattrs.now (c.loop-place.place - 1) (omega arith))
