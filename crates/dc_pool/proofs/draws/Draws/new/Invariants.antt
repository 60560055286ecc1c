use Rattle.std.proofs.Common.{◌≡◌, ◌+◌, false, [], length, All}
use Rattle.dc_pool.specs.Drawers.{IsNewAt}
use Rattle.dc_pool.proofs.draws.Draws.new.Given as goal

abbrev pub invariant-loop : goal.invariant-loop
invariant-loop l = record {
  draws : (l.draws.bundles ≡ l.bundles) × (l.draws.seats ≡ l.seats);
  first : (l.first.seat.table_id ≡ l.draws.table.shared.table_id) × (l.first.bundles ≡ l.bundles) × (l.first.ended ≡ false) × (l.first.seat.me.0.drawn ≡ []);
  left : l.first.seat.me.0.seats + length l.drawers ≡ l.seats;
  count : length l.drawers + 1 ≡ l.counter;
  made : All (IsNewAt l.draws.table.shared.table_id l.bundles) l.drawers;
}
