use Rattle.std.proofs.Common.{◌≡◌, ◌≤◌, length, sum_by, vec_len}
use Rattle.dc_fs.specs.Causes.{counted}
use Rattle.dc_crew.specs.Slots.{source_faults, desk_faults, slot_makes, but_forks, with_desks_back}
use Rattle.dc_crew.proofs.slots.close_slots.Given as goal

-- what is still to come back and what came back make up all slots
abbrev pub invariant-loop-place : goal.invariant-loop-place
invariant-loop-place g l = record {
  source_tree : g.S.Store.tree l.source ≡ g.S.Store.tree l.initial.source;
  source_rest : but_forks (g.S.Store.rest l.source) ≡ but_forks (g.S.Store.rest l.initial.source);
  forks : counted (g.S.Store.rest l.initial.source).fork_faults (sum_by (source_faults g.S.Store) l.fn.slots) ≤ counted (g.S.Store.rest l.source).fork_faults (sum_by (source_faults g.S.Store) l.places.items);
  source_failed : g.S.Store.faults l.source ≡ g.S.Store.faults l.initial.source;
  source_steady : g.S.Store.steady l.source ≡ g.S.Store.steady l.initial.source;
  source_looks : g.S.Store.looks l.source ≡ g.S.Store.looks l.initial.source;
  target_tree : g.T.Store.tree l.target ≡ g.T.Store.tree l.initial.target;
  desks : with_desks_back (length l.places.items) (sum_by (slot_makes g.T.Desk.Desk) l.places.items) (sum_by (desk_faults g.T.Desk.Desk) l.places.items) (g.T.Store.rest l.target) ≡ with_desks_back (length l.fn.slots) (sum_by (slot_makes g.T.Desk.Desk) l.fn.slots) (sum_by (desk_faults g.T.Desk.Desk) l.fn.slots) (g.T.Store.rest l.initial.target);
  target_failed : g.T.Store.faults l.target ≡ g.T.Store.faults l.initial.target;
  target_steady : g.T.Store.steady l.target ≡ g.T.Store.steady l.initial.target;
  target_looks : g.T.Store.looks l.target ≡ g.T.Store.looks l.initial.target;
}

abbrev pub decreases-loop-place : goal.decreases-loop-place
decreases-loop-place g l = vec_len l.places
