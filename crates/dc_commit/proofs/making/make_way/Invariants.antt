use Rattle.std.proofs.Common.{◌≡◌, ◌+◌, ◌≤◌, map, take}
use Rattle.dc_fs.specs.Views.{view}
use Rattle.dc_commit.specs.Making.{make_step, ways}
use Rattle.dc_commit.proofs.KeepLemmas.{Quiet}
use Rattle.dc_commit.proofs.StepLemmas.{Done}
use Rattle.dc_commit.proofs.making.make_way.Given as goal

-- the directories on the way so far are made
abbrev pub invariant-loop-name : goal.invariant-loop-name
invariant-loop-name g l = record {
  at : l.at ≡ take l.name-index l.names;
  made : Done 0 (map make_step (take l.name-index (ways l.names))) (g.T.Store.tree l.fn.target) (g.T.Store.tree l.target) l.done;
  few : l.done ≡ l.name-index;
  kept : Quiet (view g.T.Store l.fn.target) (view g.T.Store l.target);
  looks : g.T.Store.looks l.target ≤ g.T.Store.looks l.fn.target + l.name-index;
}
