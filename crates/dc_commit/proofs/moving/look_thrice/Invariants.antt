use Rattle.std.proofs.Common.{◌≡◌, ◌+◌, ◌≤◌}
use Rattle.dc_fs.specs.Causes.{steady_at}
use Rattle.dc_commit.specs.Moving.{RoseBy}
use Rattle.dc_commit.proofs.moving.look_thrice.Given as goal

-- each look so far failed
abbrev pub invariant-loop-turn : goal.invariant-loop-turn
invariant-loop-turn g l = record {
  tree : g.T.Store.tree l.target ≡ g.T.Store.tree l.fn.target;
  rest : g.T.Store.rest l.target ≡ g.T.Store.rest l.fn.target;
  later : g.T.Store.faults l.fn.target ≤ g.T.Store.faults l.target;
  rose : RoseBy l.turn (g.T.Store.faults l.fn.target) (g.T.Store.faults l.target);
  calm : steady_at (g.T.Store.steady l.target) (g.T.Store.faults l.target) ≡ steady_at (g.T.Store.steady l.fn.target) (g.T.Store.faults l.fn.target);
  looks : g.T.Store.looks l.target ≤ g.T.Store.looks l.fn.target + l.turn;
}
