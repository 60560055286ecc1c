-- What is known of the loop over the parts.
use Rattle.std.proofs.Common.{◌≡◌, []}
use Rattle.std.specs.List.{flat_map}
use Rattle.dc_join.specs.Adding.{grouped}
use Rattle.dc_join.specs.Joining.{bit_for}
use Rattle.dc_join.proofs.joining.group.Given as goal

-- the files of the parts so far
abbrev pub invariant-loop-part : goal.invariant-loop-part
invariant-loop-part g l = l.files.items ≡ grouped [] (flat_map (bit_for l.plan l.pieces) l.yielded)
