use Rattle.std.proofs.Common.{◌∙◌, ap, refl}
use Rattle.std.proofs.lemmas.Result.{err_from_is_err_and}
use Rattle.dc_fs.specs.Views.{view}
use Rattle.dc_decide.specs.Plans.{Decisions}
use Rattle.dc_engine.specs.Committing.{task_of}
use Rattle.dc_engine.specs.Counting.{paths_out}
use Rattle.dc_engine.proofs.FinishLemmas.{carried_desks, carried_kind, carried_shows, none_out}
use Rattle.dc_engine.proofs.FinishTold.{carried_sure, carried_told, told_sure}
use Rattle.dc_engine.proofs.GainedLemmas.{carried_gained}
use Rattle.dc_engine.proofs.RunShown.{copy_sure}
use Rattle.dc_engine.proofs.RunTold.{copy_ends_told}
use Rattle.dc_engine.proofs.finishing.carry_out.Goals as goal

pub returns-clause-kind : goal.returns-clause-kind
returns-clause-kind g c =
    carried_kind (task_of g.T.Desk.Temp.Held.content g.T.Desk.Temp.Held.size c.args.options.now c.args.options.now.target c.copy.new.plan c.in_ok-files.files c.args.deletes.now)
    (view g.T.Store c.copy.new.target) (view g.T.Store c.commit_copied.new.target) c.copy.new.plan c.commit_copied.result c.commit_copied.ensures.answer c.commit_copied.ensures.ends

pub returns-clause-shows : goal.returns-clause-shows
returns-clause-shows g c =
    carried_shows c.args.options.now (view g.S.Store c.args.source.now) (view g.S.Store c.copy.new.source) (view g.T.Store c.args.target.now) (view g.T.Store c.copy.new.target) (view g.T.Store c.commit_copied.new.target)
    c.copy.ensures.target
    (task_of g.T.Desk.Temp.Held.content g.T.Desk.Temp.Held.size c.args.options.now c.args.options.now.target c.copy.new.plan c.in_ok-files.files c.args.deletes.now)
    c.copy.new.plan c.commit_copied.result refl
    (λ off. ap (λ (plan : Decisions). paths_out plan.items) (c.in_ok-files.ensures.allowed off) ∙ none_out c.args.options.now c.args.plan.now.items off c.requires.asked)
    c.commit_copied.ensures.answer c.commit_copied.ensures.done c.commit_copied.ensures.ends

pub returns-in_err-files-clause-told : goal.returns-in_err-files-clause-told
returns-in_err-files-clause-told g c =
    let p = err_from_is_err_and c.from_residual.result c.from_residual.ensures.1 in
    rw (p.1, p.2)
    (copy_ends_told c.args.options.now c.args.plan.now c.args.deletes.now (g.S.Store.tree c.args.source.now) c.in_err-files.field-0.0
    (view g.S.Store c.args.source.now) (view g.S.Store c.copy.new.source) (view g.T.Store c.args.target.now) (view g.T.Store c.copy.new.target)
    c.copy.ensures.target c.in_err-files.ensures.kind)

pub returns-in_err-files-clause-sure : goal.returns-in_err-files-clause-sure
returns-in_err-files-clause-sure g c =
    let p = err_from_is_err_and c.from_residual.result c.from_residual.ensures.1 in
    rw (p.1, p.2)
    (told_sure (g.S.Store.tree c.args.source.now) (g.T.Store.tree c.args.target.now) c.args.options.now c.args.plan.now c.args.deletes.now c.in_err-files.field-0.0
    (copy_sure (g.S.Store.tree c.args.source.now) (g.T.Store.tree c.args.target.now) c.args.options.now c.args.plan.now c.args.deletes.now c.in_err-files.field-0.0
    c.in_err-files.ensures.untold c.in_err-files.ensures.changed))

pub returns-clause-told : goal.returns-clause-told
returns-clause-told g c =
    carried_told g.T.Desk.Temp.Held.content g.T.Desk.Temp.Held.size c.args.options.now c.args.plan.now c.copy.new.plan c.args.deletes.now c.in_ok-files.files
    c.in_ok-files.ensures.leaves c.in_ok-files.ensures.allowed c.read_items.ensures c.in_ok-files.ensures.ready
    (view g.T.Store c.args.target.now) (view g.T.Store c.copy.new.target) (view g.T.Store c.commit_copied.new.target) c.copy.ensures.target
    (g.S.Store.tree c.args.source.now) c.args.pieces.now c.requires.pieces c.in_ok-files.ensures.copied
    c.commit_copied.result (view g.S.Store c.args.source.now) (view g.S.Store c.copy.new.source)
    c.commit_copied.ensures.answer c.commit_copied.ensures.done c.commit_copied.ensures.due c.commit_copied.ensures.ends c.in_ok-files.ensures.failures c.in_ok-files.ensures.spared

pub returns-clause-sure : goal.returns-clause-sure
returns-clause-sure g c =
    carried_sure g.T.Desk.Temp.Held.content g.T.Desk.Temp.Held.size c.args.options.now c.args.plan.now c.copy.new.plan c.args.deletes.now c.in_ok-files.files
    c.in_ok-files.ensures.leaves c.in_ok-files.ensures.allowed c.read_items.ensures c.in_ok-files.ensures.ready
    (view g.T.Store c.args.target.now) (view g.T.Store c.copy.new.target) (view g.T.Store c.commit_copied.new.target) c.copy.ensures.target
    (g.S.Store.tree c.args.source.now) c.args.pieces.now c.requires.pieces c.in_ok-files.ensures.copied
    c.commit_copied.result c.commit_copied.ensures.answer c.commit_copied.ensures.ends

pub returns-clause-desks : goal.returns-clause-desks
returns-clause-desks g c =
    carried_desks (task_of g.T.Desk.Temp.Held.content g.T.Desk.Temp.Held.size c.args.options.now c.args.options.now.target c.copy.new.plan c.in_ok-files.files c.args.deletes.now)
    (view g.T.Store c.args.target.now) (view g.T.Store c.copy.new.target) (view g.T.Store c.commit_copied.new.target) c.commit_copied.result
    c.copy.ensures.target c.commit_copied.ensures.done c.commit_copied.ensures.ends

pub returns-clause-gained : goal.returns-clause-gained
returns-clause-gained g c =
    carried_gained g.T.Desk.Temp.Held.content g.T.Desk.Temp.Held.size c.args.options.now c.args.plan.now c.copy.new.plan c.args.deletes.now c.in_ok-files.files
    c.read_items.ensures c.in_ok-files.ensures.ready
    (view g.T.Store c.args.target.now) (view g.T.Store c.copy.new.target) (view g.T.Store c.commit_copied.new.target) c.copy.ensures.target
    (g.S.Store.tree c.args.source.now) _ c.args.pieces.now c.requires.pieces c.in_ok-files.ensures.copied
    c.commit_copied.result c.commit_copied.ensures.answer c.commit_copied.ensures.done
