use Rattle.std.proofs.Common.{◌≡◌, ◌++◌, ◌∷◌, take, string_bytes}
use Rattle.std.specs.List.{flat_map}
use Rattle.dc_attrs.specs.Lines.{pair_of}
use Rattle.dc_attrs.proofs.pairs.write_more.Given as goal

-- those so far, each behind a comma
abbrev pub invariant-loop-xattr : goal.invariant-loop-xattr
invariant-loop-xattr l = string_bytes l.line ≡ string_bytes l.fn.line ++ flat_map (λ x. 44 ∷ pair_of x) (take l.xattr-index l.xattrs)
