use Rattle.std.proofs.Common.{◌<◌, map, length, rules}
use Rattle.dc_attrs.specs.Trees.{with_attrs}
use Rattle.dc_tree.specs.Arena.{cell_of, node}
use Rattle.dc_tree.proofs.Cells.{within_some, edited_by}
use Rattle.dc_tree.proofs.Steps.{some_of}
use Rattle.dc_tree.proofs.slots.set_attrs_at.Goals as goal

pub index_mut-requires : goal.index_mut-requires
index_mut-requires c = let h : c.args.at < length c.args.slots.now.items = (let v = some_of (node (map cell_of c.args.slots.now.items) c.args.at) c.requires in within_some c.args.slots.now.items c.args.at v.0 v.1) in search rules

pub returns : goal.returns
returns c = edited_by (with_attrs c.args.attrs) c.args.slots.now.items c.args.at c.index_mut.result.now c.set_attrs_in.new.slot (let v = some_of (node (map cell_of c.args.slots.now.items) c.args.at) c.requires in within_some c.args.slots.now.items c.args.at v.0 v.1) c.index_mut.ensures.value c.set_attrs_in.ensures
