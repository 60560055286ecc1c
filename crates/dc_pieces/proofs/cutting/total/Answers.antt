-- One item more, or too many pieces with it.
use Rattle.std.proofs.Common.{◌≡◌, ◌∙◌, sym, ap, length, arith}
use Rattle.dc_pieces.specs.Cutting.{pieces_of}
use Rattle.dc_pieces.proofs.PlanLemmas.{count_more, count_within}
use Rattle.dc_pieces.proofs.cutting.total.Goals as goal

pub returns-then-count-total-clause-many : goal.returns-then-count-total-clause-many
returns-then-count-total-clause-many c =
    let n = c.loop-planned.planned-index in
    let count : c.count_of-count.result ≡ length (pieces_of c.args.blocks n c.planned-item.result) = c.count_of-count.ensures n ∙ ap length (sym (c.cut_of.ensures.pieces n)) in
    let all = count_within c.args.blocks n c.args.items.now c.planned-item.result c.planned-item.is c.loop-planned-test.true in
    omega (arith, count, all, c.loop-planned.invariant.total, c.loop-planned.invariant.few, c.if-count-total.true)

pub loop-planned-preserved : goal.loop-planned-preserved
loop-planned-preserved c =
    let n = c.loop-planned.planned-index in
    let count : c.count_of-count.result ≡ length (pieces_of c.args.blocks n c.planned-item.result) = c.count_of-count.ensures n ∙ ap length (sym (c.cut_of.ensures.pieces n)) in
    let more = count_more c.args.blocks n c.args.items.now c.planned-item.result c.planned-item.is c.loop-planned-test.true in
    record {
      total = omega (arith, count, more, c.loop-planned.invariant.total);
      few = omega (arith, c.loop-planned.invariant.few, c.if-count-total.false);
    }
