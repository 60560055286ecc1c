use Rattle.std.proofs.Common.{◌<◌, rules, None, length}
use Rattle.dc_tree.proofs.Cells.{within, dir_slot, links_put}
use Rattle.dc_tree.proofs.slots.cut_link.Goals as goal

pub index_mut-requires : goal.index_mut-requires
index_mut-requires c = let h : c.args.at < length c.args.slots.now.items = within c.args.slots.now.items c.args.at c.requires in search rules

pub cut_child-requires : goal.cut_child-requires
cut_child-requires c = dir_slot c.args.slots.now.items c.args.at c.index_mut.result.now c.requires c.index_mut.ensures.value

pub returns : goal.returns
returns c = links_put c.args.slots.now.items c.args.at c.index_mut.result.now c.cut_child.new.slot c.args.name.now None c.requires c.index_mut.ensures.value c.cut_child.ensures
