use Rattle.std.proofs.Common.{◌≡◌, ◌+◌, ◌≤◌, length, map}
use Rattle.dc_fs.specs.Causes.{steady_at}
use Rattle.dc_fs.specs.Views.{view}
use Rattle.dc_commit.specs.Landing.{HaveLanded, landing_of}
use Rattle.dc_commit.proofs.landing.land_all.Given as goal

-- the files so far have landed
abbrev pub invariant-loop-file : goal.invariant-loop-file
invariant-loop-file g l = record {
  landed : HaveLanded (map (landing_of g.T.Desk.Temp.Held.content g.T.Desk.Temp.Held.size l.plan) l.yielded) (view g.T.Store l.fn.target) (view g.T.Store l.target);
  done : l.done ≡ length l.yielded;
  still : g.T.Store.faults l.target ≡ g.T.Store.faults l.fn.target;
  calm : steady_at (g.T.Store.steady l.target) (g.T.Store.faults l.target) ≡ steady_at (g.T.Store.steady l.fn.target) (g.T.Store.faults l.fn.target);
  looks : g.T.Store.looks l.target ≤ g.T.Store.looks l.fn.target + length l.yielded;
}
