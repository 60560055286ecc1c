-- The stage is too long, taken, or free.
use Rattle.std.proofs.Common.{◌≡◌, ◌++◌, ◌∷◌, [], ◌∙◌, sym, ap, subst, rules, ℕ, Bool, cond, not, ◌||◌, List, Some, Ok, Err}
use Rattle.std.proofs.lemmas.Result.{err_from_is_err_and}
use Rattle.std.specs.List.{list_any}
use Rattle.dc_fs.specs.Views.{view}
use Rattle.dc_path.specs.Paths.{Names}
use Rattle.dc_report.specs.Moves.{stage_name}
use Rattle.dc_report.specs.Writing.{paths_of}
use Rattle.dc_replay.specs.Checking.{begins_with}
use Rattle.dc_sync.specs.Checks.{Looked}
use Rattle.dc_sync.specs.Steps.{stepped_on}
use Rattle.dc_sync.specs.declared.errors.SyncError.TheVariants as sync_error
use Rattle.dc_sync.proofs.LookLemmas.{stepped_ok}
use Rattle.dc_sync.proofs.TestLemmas.{free_tests, paths_tests, stage_is, stage_is_name, step_tests}
use Rattle.dc_sync.proofs.tests.test_stage.Goals as goal

pub name_of-requires : goal.name_of-requires
name_of-requires g c = stage_is_name

pub returns-in_err-stage-clause-tests : goal.returns-in_err-stage-clause-tests
returns-in_err-stage-clause-tests g c =
    let p = err_from_is_err_and c.from_residual-in_err-stage.result c.from_residual-in_err-stage.ensures.1 in
    let name : c.in_ok-name.name ≡ stage_name = c.in_ok-name.ensures ∙ stage_is in
    let names : c.as_slice-below.result.now ≡ c.in_ok-name.name ∷ [] = search rules in
    rw (p.1, p.2)
    (paths_tests _ c.args.base.now _ _ (λ A. step_tests c.args.base.now (stage_name ∷ []) c.in_err-stage.field-0.0 _
    (λ k. ap (stepped_on c.args.base.now) (ap (λ (x : List ℕ). x ∷ []) (sym name) ∙ sym names) ∙ c.in_err-stage.ensures k)))

pub returns-clause-tests : goal.returns-clause-tests
returns-clause-tests g c =
    let name : c.in_ok-name.name ≡ stage_name = c.in_ok-name.ensures ∙ stage_is in
    let names : c.as_slice-below.result.now ≡ c.in_ok-name.name ∷ [] = search rules in
    let stage : c.as_slice-below.result.now ≡ stage_name ∷ [] = names ∙ ap (λ (x : List ℕ). x ∷ []) name in
    let path : c.in_ok-stage.stage ≡ c.args.base.now ++ stage_name ∷ [] =
    stepped_ok c.args.base.now c.as_slice-below.result.now c.in_ok-stage.stage c.in_ok-stage.ensures ∙ ap (λ (q : Names). c.args.base.now ++ q) stage in
    let named : c.is_named-named.result ≡ list_any (λ entry. list_any (begins_with stage_name) (paths_of entry)) c.args.report.now =
    c.is_named-named.ensures ∙ ap (λ (x : List ℕ). list_any (λ entry. list_any (begins_with x) (paths_of entry)) c.args.report.now) name in
    let looked = subst (λ (q : Names). Looked (view g.S.Store c.args.store.now) (view g.S.Store c.look_below.new.store) c.args.base.now (Some q) (Ok c.in_ok-shown.shown)) stage c.in_ok-shown.ensures.looked in
    free_tests (view g.S.Store c.args.store.now) (view g.S.Store c.look_below.new.store) c.args.base.now c.in_ok-shown.shown c.is_named-named.result c.args.report.now c.in_ok-stage.stage c.free.result looked named path
    (subst (λ (b : Bool). c.free.result ≡ cond (not (b || c.is_named-named.result)) (Ok tt) (Err (sync_error.StageExists c.in_ok-stage.stage))) c.is_standing.ensures c.free.ensures)
