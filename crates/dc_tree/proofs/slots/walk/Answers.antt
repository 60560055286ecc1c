use Rattle.std.proofs.Common.{◌∙◌, sym, map, take, drop, ◌+◌}
use Rattle.dc_tree.specs.Arena.{cell_of, node, link, way_from}
use Rattle.dc_tree.proofs.Cells.{way_first, way_go, way_stop}
use Rattle.dc_tree.proofs.slots.walk.Goals as goal

pub returns-in_default-child : goal.returns-in_default-child
returns-in_default-child c =
    let cells = map cell_of c.args.slots.now in
    let first = way_first cells c.loop-i.at c.args.path.now c.args.count c.loop-i.i c.in-Some.name.now (sym c.in-Some.ensures) c.loop-i-test.true in
    let stop = way_stop (node cells c.loop-i.at) (link cells c.loop-i.at c.in-Some.name.now) (λ k. way_from cells k (drop (c.loop-i.i + 1) (take c.args.count c.args.path.now))) c.child.result (sym c.child.ensures) c.in_default-child.not-At in
    sym (c.loop-i.invariant ∙ first ∙ stop)

pub loop-i-preserved : goal.loop-i-preserved
loop-i-preserved c =
    let cells = map cell_of c.args.slots.now in
    let first = way_first cells c.loop-i.at c.args.path.now c.args.count c.loop-i.i c.in-Some.name.now (sym c.in-Some.ensures) c.loop-i-test.true in
    c.loop-i.invariant ∙ first ∙ way_go (node cells c.loop-i.at) (link cells c.loop-i.at c.in-Some.name.now) (λ k. way_from cells k (drop (c.loop-i.i + 1) (take c.args.count c.args.path.now))) c.in-At.next (sym c.in-At.ensures)
