use Rattle.std.proofs.Common.{◌∙◌, sym, ◌<◌, length, rules}
use Rattle.std.proofs.lemmas.Result.{on_ok_weaker, on_err_weaker}
use Rattle.dc_attrs.specs.Trees.{File, appended}
use Rattle.dc_tree.proofs.Cells.{within_some, edited_by, node_slot, same_put}
use Rattle.dc_tree.proofs.slots.append_at.Goals as goal

pub index_mut-requires : goal.index_mut-requires
index_mut-requires c = let h : c.args.at < length c.args.slots.now.items = (within_some c.args.slots.now.items c.args.at (File c.requires.0 c.requires.1) c.requires.2) in search rules

pub append_in-requires : goal.append_in-requires
append_in-requires c = (c.requires.0, c.requires.1, sym (node_slot c.args.slots.now.items c.args.at c.index_mut.result.now (within_some c.args.slots.now.items c.args.at (File c.requires.0 c.requires.1) c.requires.2) c.index_mut.ensures.value) ∙ c.requires.2)

pub returns-clause-ok : goal.returns-clause-ok
returns-clause-ok c = on_ok_weaker c.append_in.result (λ d. edited_by (appended c.args.more.now) c.args.slots.now.items c.args.at c.index_mut.result.now c.append_in.new.slot (within_some c.args.slots.now.items c.args.at (File c.requires.0 c.requires.1) c.requires.2) c.index_mut.ensures.value d) c.append_in.ensures.ok

pub returns-clause-err : goal.returns-clause-err
returns-clause-err c = on_err_weaker c.append_in.result (λ d. same_put c.args.slots.now.items c.args.at c.index_mut.result.now c.append_in.new.slot c.index_mut.ensures.value d) c.append_in.ensures.err
