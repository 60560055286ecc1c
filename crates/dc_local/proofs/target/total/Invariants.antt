use Rattle.std.proofs.Common.{◌≡◌, take}
use Rattle.std.specs.List.{sum_by}
use Rattle.dc_local.specs.declared.desk.LocalTemp.{LocalTemp}
use Rattle.dc_local.proofs.target.total.Given as goal

-- the bytes of the first parts
abbrev pub invariant-loop-part : goal.invariant-loop-part
invariant-loop-part l = l.bytes ≡ sum_by (λ (temp : LocalTemp). temp.bytes) (take l.part-index l.parts)
