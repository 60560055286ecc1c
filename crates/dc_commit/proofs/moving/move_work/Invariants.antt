use Rattle.std.proofs.Common.{◌≡◌, ◌+◌, ◌≤◌, ◌*◌, IfSome, Some, None}
use Rattle.dc_attrs.specs.Refusals.{refused_rename}
use Rattle.dc_fs.specs.Views.{view}
use Rattle.dc_commit.specs.Moving.{RoseBy, KeepsButRenames}
use Rattle.dc_commit.proofs.moving.move_work.Given as goal

-- each try so far failed
abbrev pub invariant-loop-turn : goal.invariant-loop-turn
invariant-loop-turn g l = record {
  still : IfSome (g.T.Store.tree l.fn.target) (λ t. refused_rename t l.work l.place ≡ None → g.T.Store.tree l.target ≡ Some t);
  kept : KeepsButRenames (view g.T.Store l.fn.target) (view g.T.Store l.target);
  failed : RoseBy l.turn (g.T.Store.faults l.fn.target) (g.T.Store.faults l.target);
  rose : RoseBy l.turn (g.T.Store.rest l.fn.target).rename_faults (g.T.Store.rest l.target).rename_faults;
  looks : g.T.Store.looks l.target ≤ g.T.Store.looks l.fn.target + (4 * l.turn);
}
