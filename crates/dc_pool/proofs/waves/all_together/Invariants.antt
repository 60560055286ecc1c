use Rattle.std.proofs.Common.{◌≡◌, ℕ, ◌+◌, ◌<◌, cond, length, All, vec_len}
use Rattle.dc_pool.specs.Drawing.{weight}
use Rattle.dc_pool.specs.Waves.{IsSeated, drawn_weight, endings}
use Rattle.dc_pool.proofs.waves.all_together.Given as goal

abbrev pub invariant-loop-other : goal.invariant-loop-other
invariant-loop-other l = record {
  own : (l.all.seat.table_id ≡ l.draws.table.shared.table_id) × (l.all.bundles ≡ l.draws.bundles);
  seats : l.all.seat.me.0.seats + length l.drawers.items ≡ length l.fn.drawers.items;
  rest : All (IsSeated l.draws.table.shared.table_id l.draws.bundles) l.drawers.items;
  drawn : (h : ℕ → ℕ) → weight h l.all.seat.me.0.drawn + drawn_weight h l.drawers.items ≡ drawn_weight h l.fn.drawers.items;
  ended : 0 < endings l.fn.drawers.items → 0 < cond l.all.ended 1 0 + endings l.drawers.items;
}

abbrev pub decreases-loop-other : goal.decreases-loop-other
decreases-loop-other l = vec_len l.drawers
