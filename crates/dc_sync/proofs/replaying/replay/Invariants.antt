use Rattle.std.proofs.Common.{◌≡◌, ◌+◌, ◌≤◌, take}
use Rattle.std.specs.Option.{option_map}
use Rattle.dc_fs.specs.Causes.{steady_at}
use Rattle.dc_replay.specs.Steps.{after}
use Rattle.dc_sync.proofs.replaying.replay.Given as goal

-- the first moves are made, and nothing has failed
abbrev pub invariant-loop-one : goal.invariant-loop-one
invariant-loop-one g l = record {
  tree : g.T.Store.tree l.target ≡ option_map (after (take l.one-index l.one-items)) (g.T.Store.tree l.fn.target);
  few : l.done ≡ l.one-index;
  rest : g.T.Store.rest l.target ≡ g.T.Store.rest l.fn.target;
  still : g.T.Store.faults l.target ≡ g.T.Store.faults l.fn.target;
  calm : steady_at (g.T.Store.steady l.target) (g.T.Store.faults l.target) ≡ steady_at (g.T.Store.steady l.fn.target) (g.T.Store.faults l.fn.target);
  looks : g.T.Store.looks l.target ≤ g.T.Store.looks l.fn.target + l.one-index;
}
