use Rattle.std.proofs.Common.{◌≡◌, ◌≤◌, ◌+◌, length, All, vec_capacity}
use Rattle.dc_fs.specs.Views.{view}
use Rattle.dc_crew.specs.Slots.{IsFit, IsFresh, scene_of, OpensDesks}
use Rattle.dc_crew.proofs.slots.open_into.Given as goal

-- so many slots are open as the loop has counted
abbrev pub invariant-loop : goal.invariant-loop
invariant-loop g l = record {
  opened : OpensDesks (length l.places.items) (view g.T.Store l.initial.target) (view g.T.Store l.target);
  looks : g.T.Store.looks l.target ≤ g.T.Store.looks l.initial.target + l.counter;
  fit : All (IsFit g.S.Store g.T.Desk.Desk (scene_of g.S.Store g.T.Store l.source l.initial.target) l.size) l.places.items;
  fresh : All (IsFresh g.S.Store g.T.Desk.Desk) l.places.items;
  count : length l.places.items ≡ l.counter;
  room : l.workers ≤ vec_capacity l.places;
}
