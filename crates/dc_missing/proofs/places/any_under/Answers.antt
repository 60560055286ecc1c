use Rattle.std.proofs.Common.{sym, ap}
use Rattle.dc_path.specs.Paths.{is_under}
use Rattle.dc_path.proofs.PathLemmas.{is_under-starts_with}
use Rattle.dc_decide.specs.Plans.{Decision, item_rel}
use Rattle.dc_missing.proofs.PlaceLemmas.{under_here, under_past}
use Rattle.dc_missing.proofs.places.any_under.Goals as goal

pub returns-in-Some : goal.returns-in-Some
returns-in-Some c =
    let h = under_here c.args.items.now c.args.path.now c.count_before.result c.in-Some.planned.now c.requires c.count_before.ensures c.in-Some.ensures.lookup.3.0 in
    let l = ap (λ (d : Decision). is_under c.args.path.now (item_rel d)) (c.in-Some.ensures.lookup.3.1 c.in-Some.planned.now) in
    let u = is_under-starts_with c.args.path.now (item_rel c.in-Some.planned.now) in
    let s = c.starts_with.ensures.value in
    cc

pub returns-in-None : goal.returns-in-None
returns-in-None c = sym (under_past c.args.items.now c.args.path.now c.count_before.result c.count_before.ensures c.in-None.ensures.lookup.3)
