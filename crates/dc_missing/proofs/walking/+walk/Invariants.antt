use Rattle.std.proofs.Common.{◌≡◌, ◌≤◌, length, ◌+◌, ◌-◌, ◌*◌, take}
use Rattle.dc_fs.specs.Causes.{steady_at}
use Rattle.dc_listing.specs.Walking.{is_in}
use Rattle.dc_missing.specs.Finding.{FindsPart}
use Rattle.dc_missing.specs.Missing.{is_place}
use Rattle.dc_missing.proofs.walking.+walk.Given as goal

abbrev pub decreases-walk_child : goal.decreases-walk_child
decreases-walk_child g l = 4 * (256 - length l.dir.now) + 3

abbrev pub decreases-walk_place : goal.decreases-walk_place
decreases-walk_place g l = 4 * (256 - length l.place) + 6

abbrev pub decreases-walk_inside : goal.decreases-walk_inside
decreases-walk_inside g l = 4 * (256 - length l.place.now) + 5

abbrev pub decreases-walk_dir : goal.decreases-walk_dir
decreases-walk_dir g l = 4 * (256 - length l.dir.now) + 4

abbrev pub invariant-walk_dir-loop-name : goal.invariant-walk_dir-loop-name
invariant-walk_dir-loop-name g l = record {
  tree : g.T.Store.tree l.target ≡ g.T.Store.tree l.fn.target;
  rest : g.T.Store.rest l.target ≡ g.T.Store.rest l.fn.target;
  later : g.T.Store.faults l.fn.target ≤ g.T.Store.faults l.target;
  calm : steady_at (g.T.Store.steady l.target) (g.T.Store.faults l.target) ≡ steady_at (g.T.Store.steady l.fn.target) (g.T.Store.faults l.fn.target);
  still : g.T.Store.faults l.target ≡ g.T.Store.faults l.fn.target;
  looks : g.T.Store.looks l.target + 3 * l.fn.found.met ≤ g.T.Store.looks l.fn.target + 3 * l.found.met + 1;
  finds : FindsPart (g.T.Store.tree l.fn.target) (is_place l.walk.plan.now) l.dir (is_in (take l.name-index l.name-items)) l.kept l.fn.found l.found;
}
