use Rattle.std.proofs.Common.{◌≡◌, ◌+◌, ◌≤◌, map, take}
use Rattle.dc_fs.specs.Views.{view}
use Rattle.dc_commit.specs.Removals.{remove_step}
use Rattle.dc_commit.proofs.KeepLemmas.{Quiet}
use Rattle.dc_commit.proofs.StepLemmas.{Done}
use Rattle.dc_commit.proofs.removing.delete_missing.Given as goal

-- the first paths are removed
abbrev pub invariant-loop-path : goal.invariant-loop-path
invariant-loop-path g l = record {
  removed : Done 0 (map remove_step (take l.path-index l.items)) (g.T.Store.tree l.fn.target) (g.T.Store.tree l.target) l.done;
  few : l.done ≡ l.path-index;
  kept : Quiet (view g.T.Store l.fn.target) (view g.T.Store l.target);
  looks : g.T.Store.looks l.target ≤ g.T.Store.looks l.fn.target + l.path-index;
}
