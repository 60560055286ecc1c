use Rattle.std.proofs.Common.{◌∙◌, ap, sym, ℕ, map, Option, Some}
use Rattle.dc_attrs.specs.Trees.{Node}
use Rattle.dc_tree.specs.Arena.{cell_of, Cell}
use Rattle.dc_tree.proofs.Cells.{same_nodes, links_from}
use Rattle.dc_tree.proofs.Homing.{rehomed_from}
use Rattle.dc_tree.proofs.slots.take.Goals as goal

pub hang_at-requires-clause-dir : goal.hang_at-requires-clause-dir
hang_at-requires-clause-dir c = (c.requires.0, ap (λ (n : ℕ → Option Node). n c.args.at) (same_nodes (map cell_of c.args.slots.now.items) (map cell_of c.make_room.new.slots.items) c.in_ok-make_room.ensures.same) ∙ c.requires.1)

pub returns-clause-ok : goal.returns-clause-ok
returns-clause-ok c =
    let room = c.in_ok-make_room.ensures in
    let hung = c.in_ok-hang_at.ensures.ok in
    record {
      blank = ap (λ (f : ℕ → Cell). f c.make_room.new.free) (sym room.same) ∙ room.blank;
      hangs = record {
        set = links_from (map cell_of c.args.slots.now.items) (map cell_of c.make_room.new.slots.items) (map cell_of c.hang_at.new.slots.items) c.args.at c.args.name.now (Some c.make_room.new.free) room.same hung.set;
        home = rehomed_from c.args.homes.now.items c.make_homes.new.homes.items c.hang_at.new.homes.items c.make_room.new.free (record { parent = c.args.at; name = c.args.name.now }) c.make_homes.ensures.same hung.home;
      };
    }
