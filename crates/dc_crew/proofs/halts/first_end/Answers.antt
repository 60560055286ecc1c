use Rattle.std.proofs.Common.{subst, ◌≤◌, All, List}
use Rattle.dc_pool.specs.declared.results.Receipt.{Receipt}
use Rattle.dc_crew.specs.declared.crew.End.{End}
use Rattle.dc_pool.proofs.Numbers.{take_whole}
use Rattle.dc_crew.specs.Halts.{rank, halt_at}
use Rattle.dc_crew.proofs.HaltLemmas.{there_step, least_step}
use Rattle.dc_crew.proofs.halts.first_end.Goals as goal

pub loop-receipt-preserved : goal.loop-receipt-preserved
loop-receipt-preserved c =
    let i = c.loop-receipt.invariant in
    let e = c.earlier-best.ensures in
    record {
      there = there_step c.args.tasks.now c.args.ended.now c.loop-receipt.receipt-index _ c.loop-receipt.best c.halt_by-next.result c.earlier-best.result c.loop-receipt-test.true c.halt_by-next.ensures e.either i.there;
      least = least_step c.args.tasks.now c.args.ended.now c.loop-receipt.receipt-index _ c.loop-receipt.best c.halt_by-next.result c.earlier-best.result c.loop-receipt-test.true c.halt_by-next.ensures e.least.0 e.least.1 i.least;
    }

pub returns-clause-some : goal.returns-clause-some
returns-clause-some c =
    let i = c.loop-receipt.invariant in
    record {
      receipt = i.there.0;
      there = i.there.1;
      is = i.there.2;
      least = subst (λ (rs : List (Receipt End)). All (λ r. rank c.loop-receipt.best ≤ rank (halt_at c.args.tasks.now r)) rs) (take_whole c.loop-receipt.receipt-index c.args.ended.now c.loop-receipt-test.false) i.least;
    }
