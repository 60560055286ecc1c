use Rattle.std.proofs.Common.{◌≡◌, ◌≤◌, All, take}
use Rattle.std.specs.List.{Contains}
use Rattle.dc_pool.specs.declared.results.Receipt.{Receipt}
use Rattle.dc_crew.specs.declared.crew.End.{End}
use Rattle.dc_crew.specs.Halts.{rank, halt_at}
use Rattle.dc_crew.proofs.halts.first_end.Given as goal

abbrev pub invariant-loop-receipt : goal.invariant-loop-receipt
invariant-loop-receipt l = record {
  there : (r : Receipt End) × Contains l.ended r × (l.best ≡ halt_at l.tasks r);
  least : All (λ r. rank l.best ≤ rank (halt_at l.tasks r)) (take l.receipt-index l.ended);
}
