use Rattle.std.proofs.Common.{◌≡◌, ◌+◌, ◌*◌, ◌≤◌, length, map, All, IfSome}
use Rattle.dc_fs.specs.Views.{view, BothTell}
use Rattle.dc_plan.specs.Planning.{item_of, IsAsked, IsOutByClash, IsDecidedOn}
use Rattle.dc_plan.proofs.PlanningLemmas.{Unmoved}
use Rattle.dc_plan.proofs.planning.plan_items.Given as goal

-- the items so far are planned, and no store has failed
abbrev pub invariant-loop-item : goal.invariant-loop-item
invariant-loop-item g l = record {
  items : map item_of l.planned ≡ l.yielded;
  asked : All (IsAsked l.fn.options) l.planned;
  out : IfSome (g.T.Store.tree l.fn.target) (λ t. All (IsOutByClash t l.fn.base) l.planned);
  decides : BothTell (g.S.Store.tree l.fn.source) (g.T.Store.tree l.fn.target) (λ s t. All (IsDecidedOn l.fn.options l.fn.base s t) l.planned);
  from : Unmoved (view g.S.Store l.fn.source) (view g.S.Store l.source);
  to : Unmoved (view g.T.Store l.fn.target) (view g.T.Store l.target);
  from_looks : g.S.Store.looks l.source ≤ g.S.Store.looks l.fn.source + length l.yielded;
  to_looks : g.T.Store.looks l.target ≤ g.T.Store.looks l.fn.target + 3 * length l.yielded;
}
