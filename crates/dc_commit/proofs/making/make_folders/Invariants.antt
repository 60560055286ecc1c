use Rattle.std.proofs.Common.{◌+◌, ◌≤◌, filter, map, take}
use Rattle.dc_fs.specs.Views.{view}
use Rattle.dc_commit.specs.Making.{make_item}
use Rattle.dc_commit.specs.Settings.{is_dir_item}
use Rattle.dc_commit.proofs.KeepLemmas.{Quiet}
use Rattle.dc_commit.proofs.StepLemmas.{Done}
use Rattle.dc_commit.proofs.making.make_folders.Given as goal

-- the directories among the first items are made
abbrev pub invariant-loop-planned : goal.invariant-loop-planned
invariant-loop-planned g l = record {
  made : Done l.first (map (make_item l.plan.base) (filter is_dir_item (take l.planned-index l.items))) (g.T.Store.tree l.fn.target) (g.T.Store.tree l.target) l.done;
  few : l.done ≤ l.first + l.planned-index;
  kept : Quiet (view g.T.Store l.fn.target) (view g.T.Store l.target);
  looks : g.T.Store.looks l.target ≤ g.T.Store.looks l.fn.target + l.planned-index;
}
