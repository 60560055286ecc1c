use Rattle.std.proofs.Common.{◌≡◌, take, length}
use Rattle.dc_path.specs.Paths.{joined}
use Rattle.dc_listing.proofs.walking.bytes_of.Given as goal

abbrev pub invariant-loop-name : goal.invariant-loop-name
invariant-loop-name l = l.bytes ≡ length (joined (take l.name-index l.name-items))
