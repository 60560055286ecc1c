use Rattle.std.proofs.Common.{◌∙◌, All, subst}
use Rattle.std.proofs.lemmas.List.Elements.{All-more}
use Rattle.dc_pool.proofs.Numbers.{take_whole}
use Rattle.dc_ready.specs.Laws.{IsKept}
use Rattle.dc_engine.proofs.FinishLemmas.{kept_of}
use Rattle.dc_engine.proofs.finishing.read_items.Goals as goal

pub loop-planned-preserved : goal.loop-planned-preserved
loop-planned-preserved c =
    All-more IsKept c.items-items.result.now c.loop-planned.planned-index c.planned-item.result c.loop-planned-test.true c.loop-planned.invariant
    (subst IsKept c.planned-item.is (kept_of c.planned-item.result c.item.result.now c.item.ensures c.action-action.ensures.fits c.attrs-attrs.ensures.fits))

pub returns : goal.returns
returns c =
    subst (All IsKept) (take_whole c.loop-planned.planned-index c.items-items.result.now c.loop-planned-test.false ∙ c.items-items.ensures.value) c.loop-planned.invariant
