use Rattle.std.proofs.Common.{◌≡◌, take, false}
use Rattle.std.specs.List.{list_any}
use Rattle.dc_filter.specs.Forms.{finds}
use Rattle.dc_filter.proofs.search.any_is_in.Given as goal

abbrev pub invariant-searches : goal.invariant-searches
invariant-searches l = record {
  same : l.search-items ≡ l.fn.searches;
  none : list_any (λ line. finds line l.text) (take l.search-index l.search-items) ≡ false;
}
