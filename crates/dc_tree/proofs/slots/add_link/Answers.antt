use Rattle.std.proofs.Common.{◌<◌, rules, Some, length}
use Rattle.std.proofs.lemmas.Result.{on_ok_weaker, on_err_weaker}
use Rattle.dc_tree.proofs.Cells.{within, dir_slot, links_put, same_put}
use Rattle.dc_tree.proofs.slots.add_link.Goals as goal

pub index_mut-requires : goal.index_mut-requires
index_mut-requires c = let h : c.args.at < length c.args.slots.now.items = within c.args.slots.now.items c.args.at c.requires in search rules

pub add_child-requires : goal.add_child-requires
add_child-requires c = dir_slot c.args.slots.now.items c.args.at c.index_mut.result.now c.requires c.index_mut.ensures.value

pub returns-clause-ok : goal.returns-clause-ok
returns-clause-ok c = on_ok_weaker c.add_child.result (λ p. links_put c.args.slots.now.items c.args.at c.index_mut.result.now c.add_child.new.slot c.args.name (Some c.args.to) c.requires c.index_mut.ensures.value p) c.add_child.ensures.ok

pub returns-clause-err : goal.returns-clause-err
returns-clause-err c = on_err_weaker c.add_child.result (λ p. same_put c.args.slots.now.items c.args.at c.index_mut.result.now c.add_child.new.slot c.index_mut.ensures.value p) c.add_child.ensures.err
