use Rattle.std.proofs.Common.{◌≡◌, sym, subst, ℕ, All, false, IfErr, OnOk}
use Rattle.dc_fs.specs.Views.{view}
use Rattle.dc_crew.specs.Slots.{IsFit, Scene, scene_of, job_in, slot_faults, slot_makes, OpensDesks, FailedIn, MadeIn}
use Rattle.dc_crew.specs.Advances.{Brings, EndsWaves}
use Rattle.dc_crew.proofs.EndLemmas.{ok_from, ok_then, err_from, ends_waves_map, brings_map}
use Rattle.dc_crew.proofs.RunLemmas.{come_to, same_scene}
use Rattle.dc_crew.proofs.copy.open_and_copy.Goals as goal

pub waves_over-requires-clause-fit : goal.waves_over-requires-clause-fit
waves_over-requires-clause-fit g c κs within =
    let o = c.open_slots.ensures.opened in
    subst (λ (x : Scene). All (IsFit g.S.Store g.T.Desk.Desk x c.args.settings.size) c.open_slots.new.slots) (sym (same_scene g.S.Store g.T.Store c.args.source.now c.args.target.now c.open_slots.new.target o.tree o.calm)) c.open_slots.ensures.fit

pub returns-clause-opened : goal.returns-clause-opened
returns-clause-opened g c = subst (λ (n : ℕ). OpensDesks n (view g.T.Store c.args.target.now) (view g.T.Store c.open_slots.new.target)) (sym c.waves_over.ensures.slots) c.open_slots.ensures.opened

pub returns-clause-fit : goal.returns-clause-fit
returns-clause-fit g c =
    let o = c.open_slots.ensures.opened in
    subst (λ (x : Scene). All (IsFit g.S.Store g.T.Desk.Desk x c.args.settings.size) c.waves_over.new.slots) (same_scene g.S.Store g.T.Store c.args.source.now c.args.target.now c.open_slots.new.target o.tree o.calm) c.waves_over.ensures.fit

pub returns-clause-settled : goal.returns-clause-settled
returns-clause-settled g c = ok_from c.ends_by.result c.waves_over.result _ c.ends_by.ensures.ok c.waves_over.ensures.settled

pub returns-clause-brings : goal.returns-clause-brings
returns-clause-brings g c =
    let o = c.open_slots.ensures.opened in
    let size = c.args.settings.size in
    let content = g.T.Desk.Temp.Held.content in
    let size_of = g.T.Desk.Temp.Held.size in
    let old = c.open_slots.new.slots in
    let new = c.waves_over.new.slots in
    let states = c.waves_over.new.states in
    let parts = c.waves_over.new.parts.items in
    let brings = subst (λ (x : Scene). OnOk c.waves_over.result (Brings (job_in x c.args.items.now c.args.pieces.now) content size_of c.args.kills.now size (FailedIn g.S.Store g.T.Desk.Desk old new) (MadeIn g.T.Desk.Desk old new) states parts))
    (same_scene g.S.Store g.T.Store c.args.source.now c.args.target.now c.open_slots.new.target o.tree o.calm) c.waves_over.ensures.brings in
    ok_from c.ends_by.result c.waves_over.result _ c.ends_by.ensures.ok
    (ok_then c.waves_over.result _ _ brings (brings_map (job_in (scene_of g.S.Store g.T.Store c.args.source.now c.args.target.now) c.args.items.now c.args.pieces.now) content size_of c.args.kills.now size _ _ _ _ states parts
    (λ n _. come_to (slot_faults g.S.Store g.T.Desk.Desk) n old new) (λ n. come_to (slot_makes g.T.Desk.Desk) n old new)))

pub returns-clause-ended : goal.returns-clause-ended
returns-clause-ended g c =
    let o = c.open_slots.ensures.opened in
    let halted = subst (λ (x : Scene). IfErr c.waves_over.result (EndsWaves (job_in x c.args.items.now c.args.pieces.now) c.waves_over.new.states ((c.args.settings.go_on ≡ false) × FailedIn g.S.Store g.T.Desk.Desk c.open_slots.new.slots c.waves_over.new.slots 4)))
    (same_scene g.S.Store g.T.Store c.args.source.now c.args.target.now c.open_slots.new.target o.tree o.calm) c.waves_over.ensures.halted in
    err_from c.ends_by.result c.waves_over.result _ _ c.ends_by.ensures.err halted
    (λ h w. ends_waves_map (job_in (scene_of g.S.Store g.T.Store c.args.source.now c.args.target.now) c.args.items.now c.args.pieces.now) c.waves_over.new.states _ _ h (λ k. (k.0, come_to (slot_faults g.S.Store g.T.Desk.Desk) 4 c.open_slots.new.slots c.waves_over.new.slots k.1)) w)
