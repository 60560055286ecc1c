use Rattle.std.proofs.Common.{◌∙◌, ◌&&◌, sym, ap, subst, arith, length, sum_by, Bool}
use Rattle.std.proofs.lemmas.Result.{IfErr-weaker}
use Rattle.std.specs.Option.{is_some}
use Rattle.dc_fs.specs.Causes.{Rose}
use Rattle.dc_fs.specs.Views.{view}
use Rattle.dc_crew.specs.Jobs.{job_of}
use Rattle.dc_crew.specs.Slots.{scene_of, slot_makes, source_faults, desk_faults}
use Rattle.dc_crew.specs.Advances.{failures}
use Rattle.dc_crew.proofs.EndLemmas.{ok_then, err_both, ends_as_map, no_failure, brings_map}
use Rattle.dc_crew.proofs.RunLemmas.{keeps_source, keeps_target, made_more, failed_more, calm_none}
use Rattle.dc_crew.proofs.copy.copy_all.Goals as goal

pub returns-clause-source : goal.returns-clause-source
returns-clause-source g c = keeps_source (sum_by (source_faults g.S.Store) c.open_and_copy-done.new.slots) (view g.S.Store c.args.source.now) (view g.S.Store c.close_slots.new.source) c.close_slots.ensures.source

pub returns-clause-target : goal.returns-clause-target
returns-clause-target g c =
    let slots = c.open_and_copy-done.new.slots in
    keeps_target (length slots) (sum_by (slot_makes g.T.Desk.Desk) slots) (sum_by (desk_faults g.T.Desk.Desk) slots) (view g.T.Store c.args.target.now) (view g.T.Store c.open_and_copy-done.new.target) (view g.T.Store c.close_slots.new.target) c.open_and_copy-done.ensures.opened c.close_slots.ensures.target

pub returns-clause-brings : goal.returns-clause-brings
returns-clause-brings g c =
    let slots = c.open_and_copy-done.new.slots in
    let old = view g.T.Store c.args.target.now in
    let between = view g.T.Store c.open_and_copy-done.new.target in
    let new = view g.T.Store c.close_slots.new.target in
    let opened = c.open_and_copy-done.ensures.opened in
    let back = c.close_slots.ensures.target in
    ok_then c.open_and_copy-done.result _ _ c.open_and_copy-done.ensures.brings
    (brings_map (job_of (g.S.Store.tree c.args.source.now) (is_some (g.T.Store.tree c.args.target.now)) c.args.items.now c.args.pieces.now) g.T.Desk.Temp.Held.content g.T.Desk.Temp.Held.size c.args.kills.now c.args.settings.size _ _ _ _
    c.open_and_copy-done.new.states c.open_and_copy-done.new.parts.items
    (λ n small. failed_more g.S.Store g.T.Desk.Desk n slots (view g.S.Store c.args.source.now) (view g.S.Store c.close_slots.new.source) old between new c.close_slots.ensures.source opened back small)
    (λ n. made_more g.T.Desk.Desk n slots old between new opened back))

pub returns-clause-calm : goal.returns-clause-calm
returns-clause-calm g c =
    ok_then c.open_and_copy-done.result _ _ c.open_and_copy-done.ensures.brings (λ h source target.
    calm_none g.S.Store g.T.Desk.Desk (scene_of g.S.Store g.T.Store c.args.source.now c.args.target.now) c.args.settings.size (failures c.open_and_copy-done.new.states) c.open_and_copy-done.new.slots
    (ap (λ (b : Bool). b && g.T.Store.steady c.args.target.now) source ∙ target) c.open_and_copy-done.ensures.fit h.failed)

pub returns-clause-ended : goal.returns-clause-ended
returns-clause-ended g c =
    IfErr-weaker c.open_and_copy-done.result _ _ (λ end w. ends_as_map (job_of (g.S.Store.tree c.args.source.now) (is_some (g.T.Store.tree c.args.target.now)) c.args.items.now c.args.pieces.now) c.open_and_copy-done.new.states _ _ _ _ end
    (subst (Rose (g.T.Store.faults c.args.target.now)) (sym c.close_slots.ensures.target.faults))
    (λ k. (
      k.0,
      failed_more g.S.Store g.T.Desk.Desk 4 c.open_and_copy-done.new.slots (view g.S.Store c.args.source.now) (view g.S.Store c.close_slots.new.source) (view g.T.Store c.args.target.now) (view g.T.Store c.open_and_copy-done.new.target) (view g.T.Store c.close_slots.new.target)
          c.close_slots.ensures.source c.open_and_copy-done.ensures.opened c.close_slots.ensures.target (omega arith) k.1,
    ))
    w) c.open_and_copy-done.ensures.ended

pub returns-clause-never : goal.returns-clause-never
returns-clause-never g c =
    err_both c.open_and_copy-done.result _ _ _ c.open_and_copy-done.ensures.ended c.open_and_copy-done.ensures.never (λ e ends fault source target.
    no_failure (job_of (g.S.Store.tree c.args.source.now) (is_some (g.T.Store.tree c.args.target.now)) c.args.items.now c.args.pieces.now) c.open_and_copy-done.new.states _ _ e (fault target)
    (λ h. let z = calm_none g.S.Store g.T.Desk.Desk (scene_of g.S.Store g.T.Store c.args.source.now c.args.target.now) c.args.settings.size 4 c.open_and_copy-done.new.slots
    (ap (λ (b : Bool). b && g.T.Store.steady c.args.target.now) source ∙ target) c.open_and_copy-done.ensures.fit h.1 in omega arith)
    ends)
