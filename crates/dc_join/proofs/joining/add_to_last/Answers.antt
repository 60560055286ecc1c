-- The last file has a part more.
use Rattle.std.proofs.Common.{◌∙◌, ◌-◌, arith, ap, set}
use Rattle.std.proofs.lemmas.Result.{on_ok_weaker}
use Rattle.dc_join.specs.Adding.{longer}
use Rattle.dc_join.proofs.AddingLemmas.{set_last}
use Rattle.dc_join.proofs.joining.add_to_last.Goals as goal

pub returns : goal.returns
returns g c =
    let files = c.args.files.now.items in
    let place = c.len-last.result - 1 in
    let lent = c.index_mut.result.now in
    on_ok_weaker c.add.result
    (λ e.
    ap (λ parts. set files place (record { item = lent.item; parts = parts })) e
    ∙ ap (λ f. set files place (longer c.args.part f)) c.index_mut.ensures.value
    ∙ set_last c.args.part files lent place (omega arith))
    c.add.ensures.ok
