use Rattle.std.proofs.Common.{rules, ◌≡◌, ◌+◌, ◌*◌, ◌∙◌, ◌≤◌, ℕ, Bool, false, List, length, drop, count_by, IfErr, sym, ap, subst, arith}
use Rattle.std.proofs.lemmas.Result.{IfErr-weaker}
use Rattle.std.specs.Option.{is_some}
use Rattle.dc_decide.specs.Plans.{Decision}
use Rattle.dc_pieces.specs.declared.piece.Piece.{Piece}
use Rattle.dc_pieces.specs.declared.parts.Part.{Part}
use Rattle.dc_pool.proofs.Numbers.{seam}
use Rattle.dc_split.specs.Bundles.{times}
use Rattle.dc_crew.specs.Jobs.{job_of}
use Rattle.dc_fs.specs.Causes.{Rose}
use Rattle.dc_crew.specs.Ends.{EndsAs, EndsCopy}
use Rattle.dc_crew.specs.Slots.{RoseTogether, MadeMore}
use Rattle.dc_crew.specs.States.{undone, parts_of}
use Rattle.dc_crew.specs.Advances.{failures, AreRight, IsSettled, is_reached_entry}
use Rattle.dc_crew.proofs.EndLemmas.{ok_packed, ok_done, err_packed, on_ok, done_or_not, undone_failed, none_undone, no_length, rose_less, ends_as_map, ends_copy}
use Rattle.dc_crew.proofs.WaveLemmas.{no_failures}
use Rattle.dc_crew.proofs.copy.copy_pieces.Goals as goal

pub returns-clause-once : goal.returns-clause-once
returns-clause-once g c =
    let now = c.copy_all-done.new.states in
    let are = seam c.in_ok-states.states.len now (drop (length now) c.in_ok-states.states.items) (search rules) in
    let all = c.copy_all-done.ensures in
    ok_packed c.packed.result c.copy_all-done.result c.copy_all-done.new.parts.items _ _ c.packed.ensures.done c.packed.ensures.parts c.packed.ensures.given_up (λ x parts gone ok p.
    let a = ap (times p) (gone ∙ ap undone are) in
    let b = ap (parts_of p) parts in
    let once = (on_ok c.copy_all-done.result _ all.brings ok).once p in
    let each = done_or_not now (length c.args.pieces.now) p (all.len ∙ search rules) in
    omega arith)

pub returns-clause-right : goal.returns-clause-right
returns-clause-right g c =
    let tree = g.S.Store.tree c.args.source.now in
    let tells = is_some (g.T.Store.tree c.args.target.now) in
    let content = g.T.Desk.Temp.Held.content in
    let size_of = g.T.Desk.Temp.Held.size in
    let all = c.copy_all-done.ensures in
    ok_packed c.packed.result c.copy_all-done.result c.copy_all-done.new.parts.items _ _ c.packed.ensures.done c.packed.ensures.parts c.packed.ensures.given_up (λ x parts gone ok.
    let right = (on_ok c.copy_all-done.result _ all.brings ok).right in
    let by_pieces = subst (λ (ps : List Piece). AreRight (job_of tree tells c.items.result.now ps) content size_of c.copy_all-done.new.parts.items) c.as_slice-3.ensures.value right in
    let by_items = subst (λ (ds : List Decision). AreRight (job_of tree tells ds c.args.pieces.now) content size_of c.copy_all-done.new.parts.items) c.items.ensures.value by_pieces in
    subst (AreRight (job_of tree tells c.args.plan.now.items c.args.pieces.now) content size_of) (sym parts) by_items)

pub returns-clause-allowed : goal.returns-clause-allowed
returns-clause-allowed g c =
    let now = c.copy_all-done.new.states in
    let are = seam c.in_ok-states.states.len now (drop (length now) c.in_ok-states.states.items) (search rules) in
    ok_packed c.packed.result c.copy_all-done.result c.copy_all-done.new.parts.items _ _ c.packed.ensures.done c.packed.ensures.parts c.packed.ensures.given_up (λ x parts gone ok not.
    gone ∙ (ap undone are ∙ none_undone now (subst (λ (b : Bool). IsSettled b now) (c.settings_of-settings.ensures.1 ∙ not) (on_ok c.copy_all-done.result _ c.copy_all-done.ensures.settled ok))))

pub returns-clause-failures : goal.returns-clause-failures
returns-clause-failures g c =
    let now = c.copy_all-done.new.states in
    let are = seam c.in_ok-states.states.len now (drop (length now) c.in_ok-states.states.items) (search rules) in
    let all = c.copy_all-done.ensures in
    ok_packed c.packed.result c.copy_all-done.result c.copy_all-done.new.parts.items _ _ c.packed.ensures.done c.packed.ensures.parts c.packed.ensures.given_up (λ x parts gone ok.
    let long = ap length (gone ∙ ap undone are) in
    let four = undone_failed c.settings_of-settings.result.go_on now (on_ok c.copy_all-done.result _ all.settled ok) in
    rose_less (4 * length x.given_up) (failures now) (g.S.Store.rest c.args.source.now) (g.S.Store.rest c.copy_all-done.new.source) (g.T.Store.rest c.args.target.now) (g.T.Store.rest c.copy_all-done.new.target)
    (on_ok c.copy_all-done.result _ all.brings ok).failed (omega arith))

pub returns-clause-spared : goal.returns-clause-spared
returns-clause-spared g c =
    let now = c.copy_all-done.new.states in
    let are = seam c.in_ok-states.states.len now (drop (length now) c.in_ok-states.states.items) (search rules) in
    let all = c.copy_all-done.ensures in
    ok_packed c.packed.result c.copy_all-done.result c.copy_all-done.new.parts.items _ _ c.packed.ensures.done c.packed.ensures.parts c.packed.ensures.given_up (λ x parts gone ok source target.
    let four = undone_failed c.settings_of-settings.result.go_on now (on_ok c.copy_all-done.result _ all.settled ok) in
    let none = on_ok c.copy_all-done.result _ all.calm ok source target in
    gone ∙ (ap undone are ∙ no_length (undone now) (omega arith)))

pub returns-clause-made : goal.returns-clause-made
returns-clause-made g c =
    ok_packed c.packed.result c.copy_all-done.result c.copy_all-done.new.parts.items _ _ c.packed.ensures.done c.packed.ensures.parts c.packed.ensures.given_up (λ x parts gone ok.
    subst (λ (xs : List (Part g.row.T-Desk-Temp.Denot)). MadeMore (g.T.Store.rest c.args.target.now) (g.T.Store.rest c.copy_all-done.new.target) (length xs)) (sym parts) (on_ok c.copy_all-done.result _ c.copy_all-done.ensures.brings ok).made)

pub returns-clause-reached : goal.returns-clause-reached
returns-clause-reached g c =
    let plan = c.args.kills.now in
    let made = MadeMore (g.T.Store.rest c.args.target.now) (g.T.Store.rest c.copy_all-done.new.target) in
    ok_done c.packed.result c.copy_all-done.result _ c.packed.ensures.done (λ ok still.
    let b = on_ok c.copy_all-done.result _ c.copy_all-done.ensures.brings ok in
    let none = no_failures (failures c.copy_all-done.new.states) (g.S.Store.rest c.args.source.now) (g.S.Store.rest c.copy_all-done.new.source) (g.T.Store.rest c.args.target.now) (g.T.Store.rest c.copy_all-done.new.target) b.failed still in
    let by_pieces = subst (λ (ps : List Piece). made (length ps + count_by (is_reached_entry plan ps c.settings_of-settings.result.size) plan)) c.as_slice-3.ensures.value (b.reached none) in
    subst (λ (size : ℕ). made (length c.args.pieces.now + count_by (is_reached_entry plan c.args.pieces.now size) plan)) c.settings_of-settings.ensures.0 by_pieces)

pub returns-clause-ended : goal.returns-clause-ended
returns-clause-ended g c =
    let tree = g.S.Store.tree c.args.source.now in
    let tells = is_some (g.T.Store.tree c.args.target.now) in
    let states = c.copy_all-done.new.states in
    let target_rose = Rose (g.T.Store.faults c.args.target.now) (g.T.Store.faults c.copy_all-done.new.target) in
    let rose = RoseTogether (g.S.Store.rest c.args.source.now) (g.S.Store.rest c.copy_all-done.new.source) (g.T.Store.rest c.args.target.now) (g.T.Store.rest c.copy_all-done.new.target) 4 in
    let job = job_of tree tells c.args.plan.now.items c.args.pieces.now in
    let by_pieces = subst (λ (ps : List Piece). IfErr c.copy_all-done.result (EndsAs (job_of tree tells c.items.result.now ps) states target_rose ((c.settings_of-settings.result.go_on ≡ false) × rose))) c.as_slice-3.ensures.value c.copy_all-done.ensures.ended in
    let by_items = subst (λ (ds : List Decision). IfErr c.copy_all-done.result (EndsAs (job_of tree tells ds c.args.pieces.now) states target_rose ((c.settings_of-settings.result.go_on ≡ false) × rose))) c.items.ensures.value by_pieces in
    let len : length states ≡ length c.args.pieces.now = c.copy_all-done.ensures.len ∙ search rules in
    err_packed c.packed.result c.copy_all-done.result (EndsCopy job target_rose ((c.args.options.now.ignore ≡ false) × rose)) c.packed.ensures.err
    (IfErr-weaker c.copy_all-done.result _ _ (λ e w. ends_copy job states target_rose _ e len (ends_as_map job states _ target_rose _ ((c.args.options.now.ignore ≡ false) × rose) e (λ r. r) (λ k. (sym c.settings_of-settings.ensures.1 ∙ k.0, k.1)) w)) by_items) tt

pub returns-clause-never : goal.returns-clause-never
returns-clause-never g c = err_packed c.packed.result c.copy_all-done.result _ c.packed.ensures.err c.copy_all-done.ensures.never (λ _ _. Rattle.std.proofs.Common.refl)
