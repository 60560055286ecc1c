use Rattle.std.proofs.Common.{◌≡◌, ◌≤◌, length, ◌+◌, ◌-◌, ◌*◌, take, None}
use Rattle.dc_fs.specs.Causes.{steady_at}
use Rattle.dc_listing.specs.Listed.{rules_of}
use Rattle.dc_listing.specs.Walks.{max_items}
use Rattle.dc_listing.specs.Walking.{dir_at, IsAmong, is_in, GainsPart}
use Rattle.dc_listing.proofs.walking.+walk.Given as goal

abbrev pub decreases-walk_child : goal.decreases-walk_child
decreases-walk_child g l = 3 * (256 - length (dir_at l.walk.now.root.now l.items.now l.at).from) + 2

abbrev pub decreases-walk_place : goal.decreases-walk_place
decreases-walk_place g l = 3 * (256 - length l.place.from) + 4

abbrev pub decreases-walk_dir : goal.decreases-walk_dir
decreases-walk_dir g l = 3 * (256 - length (dir_at l.walk.now.root.now l.items.now l.at).from) + 3

abbrev pub invariant-walk_dir-loop-name : goal.invariant-walk_dir-loop-name
invariant-walk_dir-loop-name g l = record {
  tree : g.S.Store.tree l.source ≡ g.S.Store.tree l.fn.source;
  rest : g.S.Store.rest l.source ≡ g.S.Store.rest l.fn.source;
  later : g.S.Store.faults l.fn.source ≤ g.S.Store.faults l.source;
  calm : steady_at (g.S.Store.steady l.source) (g.S.Store.faults l.source) ≡ steady_at (g.S.Store.steady l.fn.source) (g.S.Store.faults l.fn.source);
  still : g.S.Store.faults l.source ≡ g.S.Store.faults l.fn.source;
  looks : g.S.Store.looks l.source + 2 * length l.fn.items ≤ g.S.Store.looks l.fn.source + 2 * length l.items + 1;
  searches : l.searches ≡ l.fn.searches;
  few : length l.fn.items ≤ max_items → length l.items ≤ max_items;
  among : IsAmong l.items l.at;
  dir : dir_at l.walk.root.now l.items l.at ≡ dir_at l.walk.root.now l.fn.items l.at;
  gains : GainsPart (g.S.Store.tree l.fn.source) (rules_of l.fn.searches l.walk.without.now) (dir_at l.walk.root.now l.fn.items l.at) l.walk.base.now (is_in (take l.name-index l.name-items)) None l.fn.items l.items;
}
