use Rattle.std.proofs.Common.{◌≡◌, take}
use Rattle.dc_attrs.proofs.attributes.copy_xattrs.Given as goal

-- those so far
abbrev pub invariant-loop-xattr : goal.invariant-loop-xattr
invariant-loop-xattr l = l.copies ≡ take l.xattr-index l.xattrs
