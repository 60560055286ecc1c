use Rattle.std.proofs.Common.{◌≡◌, ◌++◌, take}
use Rattle.dc_listing.proofs.steps.join.Given as goal

abbrev pub invariant-loop-name : goal.invariant-loop-name
invariant-loop-name l = l.joined ≡ l.fn.path ++ take l.name-index l.name-items
