use Rattle.std.proofs.Common.{◌≡◌, List, map, take}
use Rattle.dc_attrs.specs.Lines.{pair_of}
use Rattle.dc_attrs.specs.declared.attributes.Xattr.{Xattr}
use Rattle.dc_attrs.proofs.pairs.read_parts.Given as goal

-- those so far, of any that these parts spell
abbrev pub invariant-loop-part : goal.invariant-loop-part
invariant-loop-part l = (ys : List Xattr) → map pair_of ys ≡ map (λ part. part.now) l.parts → l.xattrs ≡ take l.part-index ys
