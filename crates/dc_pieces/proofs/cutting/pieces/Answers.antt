-- One item more.
use Rattle.std.proofs.Common.{◌≡◌, ◌+◌, ◌++◌, take, ap, ap₂, subst, sym, ◌∙◌, rules}
use Rattle.dc_pieces.specs.Cutting.{pieces_of, pieces_from}
use Rattle.dc_pieces.specs.Cuts.{cut_pieces}
use Rattle.dc_pieces.proofs.PlanLemmas.{AreBefore, pieces_more, then_before}
use Rattle.dc_pieces.proofs.cutting.pieces.Goals as goal

pub loop-number-preserved : goal.loop-number-preserved
loop-number-preserved c =
    let n = c.loop-number.number in
    let ds = c.items-items.result.now in
    let d = c.index-items-number.result in
    let had = pieces_from c.args.blocks 0 (take n ds) in
    let added : c.add.new.pieces.items ≡ c.loop-number.pieces.items ++ cut_pieces n c.cut_of.result = search rules in
    record {
      made =
          added ∙ ap₂ (λ ps qs. ps ++ qs) c.loop-number.invariant.made (sym (c.cut_of.ensures.pieces n))
          ∙ ap (λ x. had ++ pieces_of c.args.blocks n x) c.index-items-number.is
          ∙ sym (pieces_more c.args.blocks n ds d c.loop-number-test.true);
      before = subst (AreBefore (n + 1)) (sym added) (then_before n c.loop-number.pieces.items c.cut_of.result c.loop-number.invariant.before c.cut_of.ensures.fits);
    }
