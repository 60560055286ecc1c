use Rattle.std.proofs.Common.{◌≡◌, false, true, Ok, Err, ◌∙◌, subst, rules}
use Rattle.dc_path.specs.Paths.{Names}
use Rattle.dc_fs.specs.Views.{view}
use Rattle.dc_attrs.specs.Keeping.{Kept}
use Rattle.dc_commit.specs.declared.moving.Moved.TheVariants as move
use Rattle.dc_engine.specs.Committing.{AdjustStops, Moves, adjusted, is_moved, move_in, task_of}
use Rattle.dc_engine.specs.declared.committing.CommitError.TheVariants as commit_error
use Rattle.dc_engine.proofs.DueLemmas.{due}
use Rattle.dc_engine.proofs.PhaseLemmas.{adjust_stops, commits_moved, commits_unmoved, move_stops}
use Rattle.dc_engine.proofs.committing.commit.Goals as goal

pub returns-in-Err-adjust-clause-stops : goal.returns-in-Err-adjust-clause-stops
returns-in-Err-adjust-clause-stops g c =
    adjust_stops (task_of g.T.Desk.Temp.Held.content g.T.Desk.Temp.Held.size c.args.options.now c.args.place.now c.args.plan.now c.args.files c.args.deletes.now) (view g.T.Store c.args.target.now) (view g.T.Store c.build.new.target) (view g.T.Store c.adjust.new.target) c.in-Ok.ensures.builds c.adjust.ensures.rest c.in-Err-adjust.error (subst (λ (keep : Kept). AdjustStops keep c.args.plan.now c.args.deletes.now (g.T.Store.tree c.build.new.target) (g.T.Store.tree c.adjust.new.target) c.in-Err-adjust.error) c.keep.ensures c.in-Err-adjust.ensures.adjusts)

pub returns-in-Err-adjust-clause-due : goal.returns-in-Err-adjust-clause-due
returns-in-Err-adjust-clause-due g c =
    due (task_of g.T.Desk.Temp.Held.content g.T.Desk.Temp.Held.size c.args.options.now c.args.place.now c.args.plan.now c.args.files c.args.deletes.now) (view g.T.Store c.args.target.now) (view g.T.Store c.adjust.new.target) (Err (commit_error.Adjust c.in-Err-adjust.error)) tt (adjust_stops (task_of g.T.Desk.Temp.Held.content g.T.Desk.Temp.Held.size c.args.options.now c.args.place.now c.args.plan.now c.args.files c.args.deletes.now) (view g.T.Store c.args.target.now) (view g.T.Store c.build.new.target) (view g.T.Store c.adjust.new.target) c.in-Ok.ensures.builds c.adjust.ensures.rest c.in-Err-adjust.error (subst (λ (keep : Kept). AdjustStops keep c.args.plan.now c.args.deletes.now (g.T.Store.tree c.build.new.target) (g.T.Store.tree c.adjust.new.target) c.in-Err-adjust.error) c.keep.ensures c.in-Err-adjust.ensures.adjusts))

pub returns-then-not-moves-clause-ok : goal.returns-then-not-moves-clause-ok
returns-then-not-moves-clause-ok g c =
    let unmoved : is_moved (task_of g.T.Desk.Temp.Held.content g.T.Desk.Temp.Held.size c.args.options.now c.args.place.now c.args.plan.now c.args.files c.args.deletes.now) ≡ false = search rules in commits_unmoved (task_of g.T.Desk.Temp.Held.content g.T.Desk.Temp.Held.size c.args.options.now c.args.place.now c.args.plan.now c.args.files c.args.deletes.now) (view g.T.Store c.args.target.now) (view g.T.Store c.build.new.target) (view g.T.Store c.adjust.new.target) c.in-Ok.ensures.builds c.adjust.ensures.rest (subst (λ (keep : Kept). g.T.Store.tree c.adjust.new.target ≡ adjusted keep c.args.plan.now c.args.deletes.now (g.T.Store.tree c.build.new.target)) c.keep.ensures c.in-Ok-adjust.ensures.adjusts) unmoved (c.in-Ok-adjust.ensures.cause.still ∙ c.in-Ok.ensures.cause.still)

pub returns-then-not-moves-clause-due : goal.returns-then-not-moves-clause-due
returns-then-not-moves-clause-due g c =
    let unmoved : is_moved (task_of g.T.Desk.Temp.Held.content g.T.Desk.Temp.Held.size c.args.options.now c.args.place.now c.args.plan.now c.args.files c.args.deletes.now) ≡ false = search rules in due (task_of g.T.Desk.Temp.Held.content g.T.Desk.Temp.Held.size c.args.options.now c.args.place.now c.args.plan.now c.args.files c.args.deletes.now) (view g.T.Store c.args.target.now) (view g.T.Store c.adjust.new.target) (Ok tt) (commits_unmoved (task_of g.T.Desk.Temp.Held.content g.T.Desk.Temp.Held.size c.args.options.now c.args.place.now c.args.plan.now c.args.files c.args.deletes.now) (view g.T.Store c.args.target.now) (view g.T.Store c.build.new.target) (view g.T.Store c.adjust.new.target) c.in-Ok.ensures.builds c.adjust.ensures.rest (subst (λ (keep : Kept). g.T.Store.tree c.adjust.new.target ≡ adjusted keep c.args.plan.now c.args.deletes.now (g.T.Store.tree c.build.new.target)) c.keep.ensures c.in-Ok-adjust.ensures.adjusts) unmoved (c.in-Ok-adjust.ensures.cause.still ∙ c.in-Ok.ensures.cause.still)) tt

pub returns-in-Ok-move_built-clause-ok : goal.returns-in-Ok-move_built-clause-ok
returns-in-Ok-move_built-clause-ok g c =
    let asked : is_moved (task_of g.T.Desk.Temp.Held.content g.T.Desk.Temp.Held.size c.args.options.now c.args.place.now c.args.plan.now c.args.files c.args.deletes.now) ≡ true = search rules in commits_moved (task_of g.T.Desk.Temp.Held.content g.T.Desk.Temp.Held.size c.args.options.now c.args.place.now c.args.plan.now c.args.files c.args.deletes.now) (view g.T.Store c.args.target.now) (view g.T.Store c.build.new.target) (view g.T.Store c.adjust.new.target) c.in-Ok.ensures.builds c.adjust.ensures.rest (subst (λ (keep : Kept). g.T.Store.tree c.adjust.new.target ≡ adjusted keep c.args.plan.now c.args.deletes.now (g.T.Store.tree c.build.new.target)) c.keep.ensures c.in-Ok-adjust.ensures.adjusts) (view g.T.Store c.move_built.new.target) asked c.move_built.ensures.kept (subst (λ (work : Names). Moves move.Moved work c.args.place.now (g.T.Store.tree c.adjust.new.target) (g.T.Store.tree c.move_built.new.target)) c.base.ensures c.in-Ok-move_built.ensures.tree)

pub returns-in-Ok-move_built-clause-due : goal.returns-in-Ok-move_built-clause-due
returns-in-Ok-move_built-clause-due g c =
    let asked : is_moved (task_of g.T.Desk.Temp.Held.content g.T.Desk.Temp.Held.size c.args.options.now c.args.place.now c.args.plan.now c.args.files c.args.deletes.now) ≡ true = search rules in due (task_of g.T.Desk.Temp.Held.content g.T.Desk.Temp.Held.size c.args.options.now c.args.place.now c.args.plan.now c.args.files c.args.deletes.now) (view g.T.Store c.args.target.now) (view g.T.Store c.move_built.new.target) (Ok tt) (commits_moved (task_of g.T.Desk.Temp.Held.content g.T.Desk.Temp.Held.size c.args.options.now c.args.place.now c.args.plan.now c.args.files c.args.deletes.now) (view g.T.Store c.args.target.now) (view g.T.Store c.build.new.target) (view g.T.Store c.adjust.new.target) c.in-Ok.ensures.builds c.adjust.ensures.rest (subst (λ (keep : Kept). g.T.Store.tree c.adjust.new.target ≡ adjusted keep c.args.plan.now c.args.deletes.now (g.T.Store.tree c.build.new.target)) c.keep.ensures c.in-Ok-adjust.ensures.adjusts) (view g.T.Store c.move_built.new.target) asked c.move_built.ensures.kept (subst (λ (work : Names). Moves move.Moved work c.args.place.now (g.T.Store.tree c.adjust.new.target) (g.T.Store.tree c.move_built.new.target)) c.base.ensures c.in-Ok-move_built.ensures.tree)) tt

pub returns-in-Err-move_built-clause-stops : goal.returns-in-Err-move_built-clause-stops
returns-in-Err-move_built-clause-stops g c =
    let asked : is_moved (task_of g.T.Desk.Temp.Held.content g.T.Desk.Temp.Held.size c.args.options.now c.args.place.now c.args.plan.now c.args.files c.args.deletes.now) ≡ true = search rules in move_stops (task_of g.T.Desk.Temp.Held.content g.T.Desk.Temp.Held.size c.args.options.now c.args.place.now c.args.plan.now c.args.files c.args.deletes.now) (view g.T.Store c.args.target.now) (view g.T.Store c.build.new.target) (view g.T.Store c.adjust.new.target) c.in-Ok.ensures.builds c.adjust.ensures.rest (subst (λ (keep : Kept). g.T.Store.tree c.adjust.new.target ≡ adjusted keep c.args.plan.now c.args.deletes.now (g.T.Store.tree c.build.new.target)) c.keep.ensures c.in-Ok-adjust.ensures.adjusts) (view g.T.Store c.move_built.new.target) asked c.move_built.ensures.kept c.in-Err-move_built.error (subst (λ (work : Names). Moves (move_in c.in-Err-move_built.error) work c.args.place.now (g.T.Store.tree c.adjust.new.target) (g.T.Store.tree c.move_built.new.target)) c.base.ensures c.in-Err-move_built.ensures.tree) c.in-Err-move_built.ensures.named

pub returns-in-Err-move_built-clause-due : goal.returns-in-Err-move_built-clause-due
returns-in-Err-move_built-clause-due g c =
    let asked : is_moved (task_of g.T.Desk.Temp.Held.content g.T.Desk.Temp.Held.size c.args.options.now c.args.place.now c.args.plan.now c.args.files c.args.deletes.now) ≡ true = search rules in due (task_of g.T.Desk.Temp.Held.content g.T.Desk.Temp.Held.size c.args.options.now c.args.place.now c.args.plan.now c.args.files c.args.deletes.now) (view g.T.Store c.args.target.now) (view g.T.Store c.move_built.new.target) (Err (commit_error.Move c.in-Err-move_built.error)) tt (move_stops (task_of g.T.Desk.Temp.Held.content g.T.Desk.Temp.Held.size c.args.options.now c.args.place.now c.args.plan.now c.args.files c.args.deletes.now) (view g.T.Store c.args.target.now) (view g.T.Store c.build.new.target) (view g.T.Store c.adjust.new.target) c.in-Ok.ensures.builds c.adjust.ensures.rest (subst (λ (keep : Kept). g.T.Store.tree c.adjust.new.target ≡ adjusted keep c.args.plan.now c.args.deletes.now (g.T.Store.tree c.build.new.target)) c.keep.ensures c.in-Ok-adjust.ensures.adjusts) (view g.T.Store c.move_built.new.target) asked c.move_built.ensures.kept c.in-Err-move_built.error (subst (λ (work : Names). Moves (move_in c.in-Err-move_built.error) work c.args.place.now (g.T.Store.tree c.adjust.new.target) (g.T.Store.tree c.move_built.new.target)) c.base.ensures c.in-Err-move_built.ensures.tree) c.in-Err-move_built.ensures.named)

pub returns-in-Err-clause-due : goal.returns-in-Err-clause-due
returns-in-Err-clause-due g c =
    due (task_of g.T.Desk.Temp.Held.content g.T.Desk.Temp.Held.size c.args.options.now c.args.place.now c.args.plan.now c.args.files c.args.deletes.now) (view g.T.Store c.args.target.now) (view g.T.Store c.build.new.target) (Err (commit_error.Build c.in-Err.error)) tt c.in-Err.ensures.builds
