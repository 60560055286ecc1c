use Rattle.std.proofs.Common.{◌≡◌, take}
use Rattle.dc_filter.proofs.filter.Filter.searches.Given as goal

abbrev pub invariant-patterns : goal.invariant-patterns
invariant-patterns l = l.searches.items ≡ take l.pattern-index l.pattern-items
