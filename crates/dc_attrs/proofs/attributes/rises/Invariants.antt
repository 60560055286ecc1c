use Rattle.std.proofs.Common.{◌≡◌, ◌-◌, map, drop}
use Rattle.dc_attrs.specs.Limits.{rises, name_of}
use Rattle.dc_attrs.proofs.attributes.rises.Given as goal

-- what comes before the place rises, so the rest decides
abbrev pub invariant-loop-place : goal.invariant-loop-place
invariant-loop-place l = rises (map name_of l.xattrs) ≡ rises (map name_of (drop (l.place - 1) l.xattrs))
