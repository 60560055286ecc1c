use Rattle.std.proofs.Common.{◌+◌, ◌*◌, ◌≤◌, drop, filter, length, map, reverse}
use Rattle.dc_fs.specs.Views.{view}
use Rattle.dc_commit.specs.Settings.{is_dir_item, set_step}
use Rattle.dc_commit.proofs.KeepLemmas.{Quiet}
use Rattle.dc_commit.proofs.StepLemmas.{Done}
use Rattle.dc_commit.proofs.setting.set_dir_attrs.Given as goal

-- the attributes of the directories among the last items are set
abbrev pub invariant-loop-at : goal.invariant-loop-at
invariant-loop-at g l = record {
  set : Done 0 (reverse (map (set_step l.keep l.plan.base) (filter is_dir_item (drop l.at l.items)))) (g.T.Store.tree l.fn.target) (g.T.Store.tree l.target) l.done;
  few : l.done + l.at ≤ length l.items;
  kept : Quiet (view g.T.Store l.fn.target) (view g.T.Store l.target);
  looks : g.T.Store.looks l.target + 2 * l.at ≤ g.T.Store.looks l.fn.target + 2 * length l.items;
}

abbrev pub decreases-loop-at : goal.decreases-loop-at
decreases-loop-at g l = l.at
