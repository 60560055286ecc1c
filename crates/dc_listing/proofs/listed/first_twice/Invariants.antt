use Rattle.dc_listing.specs.Listing.{NoneTwiceBelow}
use Rattle.dc_listing.proofs.listed.first_twice.Given as goal

abbrev pub invariant-loop-next : goal.invariant-loop-next
invariant-loop-next l = NoneTwiceBelow l.items l.next
