use Rattle.std.proofs.Common.{◌≡◌, ◌≤◌, ◌+◌, drop, map, take, true}
use Rattle.std.specs.List.{list_all}
use Rattle.dc_fs.specs.Causes.{steady_at}
use Rattle.dc_listing.specs.Roots.{placing_of, snapshot_in, read_at, source_of, is_well_put}
use Rattle.dc_listing.proofs.RootLemmas.{AreSoFar}
use Rattle.dc_listing.proofs.sources.roots.Given as goal

abbrev pub invariant-loop-path : goal.invariant-loop-path
invariant-loop-path g l = record {
  tree : g.S.Store.tree l.source ≡ g.S.Store.tree l.fn.source;
  rest : g.S.Store.rest l.source ≡ g.S.Store.rest l.fn.source;
  later : g.S.Store.faults l.fn.source ≤ g.S.Store.faults l.source;
  calm : steady_at (g.S.Store.steady l.source) (g.S.Store.faults l.source) ≡ steady_at (g.S.Store.steady l.fn.source) (g.S.Store.faults l.fn.source);
  still : g.S.Store.faults l.source ≡ g.S.Store.faults l.fn.source;
  looks : g.S.Store.looks l.source ≤ g.S.Store.looks l.fn.source + l.path-index;
  placer : l.placer ≡ placing_of l.options l.path-items l.fn.target;
  read : map source_of l.roots ≡ map (read_at (snapshot_in l.options.sync)) (take l.path-index l.path-items);
  put : list_all is_well_put l.roots ≡ true;
  so_far : AreSoFar (g.S.Store.tree l.fn.source) l.placer (snapshot_in l.options.sync) l.path-items (drop l.path-index l.path-items) l.roots;
}
