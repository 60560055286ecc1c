use Rattle.std.proofs.Common.{◌+◌, ◌*◌, ◌≤◌, filter, map, take}
use Rattle.dc_fs.specs.Views.{view}
use Rattle.dc_commit.specs.Settings.{is_file_item, set_step}
use Rattle.dc_commit.proofs.KeepLemmas.{Quiet}
use Rattle.dc_commit.proofs.StepLemmas.{Done}
use Rattle.dc_commit.proofs.setting.set_file_attrs.Given as goal

-- the attributes of the files among the first items are set
abbrev pub invariant-loop-planned : goal.invariant-loop-planned
invariant-loop-planned g l = record {
  set : Done 0 (map (set_step l.keep l.plan.base) (filter is_file_item (take l.planned-index l.items))) (g.T.Store.tree l.fn.target) (g.T.Store.tree l.target) l.done;
  few : l.done ≤ l.planned-index;
  kept : Quiet (view g.T.Store l.fn.target) (view g.T.Store l.target);
  looks : g.T.Store.looks l.target ≤ g.T.Store.looks l.fn.target + 2 * l.planned-index;
}
