use Rattle.std.proofs.Common.{◌≡◌, ◌≤◌, ◌+◌, ◌*◌, [], length, take, true, IfSome}
use Rattle.std.specs.List.{list_all}
use Rattle.dc_attrs.specs.Trees.{IsTree}
use Rattle.dc_fs.specs.Causes.{steady_at}
use Rattle.dc_listing.specs.Entries.{fits_under}
use Rattle.dc_listing.specs.Listed.{rules_of}
use Rattle.dc_listing.specs.Listing.{ListsAll}
use Rattle.dc_listing.specs.Walks.{max_items}
use Rattle.dc_listing.proofs.listed.walk_all.Given as goal

abbrev pub invariant-loop-root : goal.invariant-loop-root
invariant-loop-root g l = record {
  tree : g.S.Store.tree l.source ≡ g.S.Store.tree l.fn.source;
  rest : g.S.Store.rest l.source ≡ g.S.Store.rest l.fn.source;
  later : g.S.Store.faults l.fn.source ≤ g.S.Store.faults l.source;
  calm : steady_at (g.S.Store.steady l.source) (g.S.Store.faults l.source) ≡ steady_at (g.S.Store.steady l.fn.source) (g.S.Store.faults l.fn.source);
  still : g.S.Store.faults l.source ≡ g.S.Store.faults l.fn.source;
  looks : g.S.Store.looks l.source ≤ g.S.Store.looks l.fn.source + 2 * length l.items + 2 * l.root-index;
  searches : l.searches ≡ l.fn.searches;
  few : length l.items ≤ max_items;
  within : list_all (fits_under l.base) l.items ≡ true;
  lists : IfSome (g.S.Store.tree l.fn.source) (λ s. IsTree s → ListsAll (rules_of l.fn.searches []) s (take l.root-index l.root-items) l.base l.items);
}
