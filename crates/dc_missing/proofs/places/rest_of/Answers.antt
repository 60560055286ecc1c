use Rattle.std.proofs.Common.{ap, arith, length}
use Rattle.dc_path.specs.Paths.{Names}
use Rattle.dc_missing.proofs.PlaceLemmas.{longer_under}
use Rattle.dc_missing.proofs.places.rest_of.Goals as goal

pub slice_bounds-result-count : goal.slice_bounds-result-count
slice_bounds-result-count c =
    let longer = longer_under c.args.base.now c.args.path.now c.requires in
    let names = ap (λ (p : Names). length p) c.names-names.ensures in
    omega (arith, longer, names, c.len-count.ensures.count)

pub slice_bounds-result-start : goal.slice_bounds-result-start
slice_bounds-result-start c =
    let longer = longer_under c.args.base.now c.args.path.now c.requires in
    let names = ap (λ (p : Names). length p) c.names-names.ensures in
    omega (arith, longer, names, c.len-count.ensures.count)
