use Rattle.std.proofs.Common.{refl, map, List}
use Rattle.dc_tree.specs.Arena.{cell_of, Cell, link}
use Rattle.dc_tree.proofs.Cells.{adds, adds_link}
use Rattle.dc_tree.proofs.Homing.{noted}
use Rattle.dc_tree.proofs.slots.add.Goals as goal

pub returns-clause-ok : goal.returns-clause-ok
returns-clause-ok c =
    let old : List Cell = map cell_of c.args.slots.now.items in
    let two : List Cell = map cell_of c.take.new.slots.items in
    let new : List Cell = map cell_of c.put_slot.new.slots.items in
    let was = c.args.homes.now.items in
    let place = c.in_ok-place.place in
    let name = c.args.name.now in
    let took = c.in_ok-place.ensures.ok in
    record {
      adds = adds old two new c.args.at place name (cell_of c.args.slot) took.blank c.requires.dir c.requires.bare took.hangs.set c.put_slot.ensures;
      home = λ to e.
          let is = adds_link old two new c.args.at place name (cell_of c.args.slot) took.blank c.requires.dir c.requires.bare took.hangs.set c.put_slot.ensures in
          noted was was c.take.new.homes.items c.args.at name name place to (link new c.args.at name) is e refl refl took.hangs.home;
    }
