use Rattle.std.proofs.Common.{◌∙◌, ap, List, drop, length}
use Rattle.std.specs.List.{list_any}
use Rattle.dc_path.specs.Paths.{Names, is_under}
use Rattle.dc_decide.specs.Plans.{Decision, item_rel}
use Rattle.dc_missing.proofs.PlaceLemmas.{under_rest}
use Rattle.dc_missing.proofs.places.has_under.Goals as goal

pub returns : goal.returns
returns c =
    let p = c.args.path.now in
    let plan = c.args.plan.now in
    c.any_under.ensures
    ∙ ap (λ (ds : List Decision). list_any (λ (d : Decision). is_under c.rest_of.result.now (item_rel d)) ds) c.items.ensures.value
    ∙ ap (λ (q : Names). list_any (λ (d : Decision). is_under q (item_rel d)) plan.items) (c.rest_of.ensures ∙ ap (λ (b : Names). drop (length b) p) c.base.ensures)
    ∙ under_rest plan p c.requires
