-- The path that is looked for is too long, or the store failed.
use Rattle.std.proofs.Common.{◌≡◌, ◌∙◌, false, rules, sym, ap, subst, Option, Err}
use Rattle.std.proofs.lemmas.Result.{err_from_is_err_and}
use Rattle.dc_fs.specs.Views.{view}
use Rattle.dc_path.specs.Paths.{Names, front_of, is_root}
use Rattle.dc_report.specs.Carrying.{carries_of, plan}
use Rattle.dc_replay.specs.Checking.{look}
use Rattle.dc_sync.specs.Checks.{Looked, renamed}
use Rattle.dc_sync.proofs.TestLemmas.{landing_unseen, parent_front}
use Rattle.dc_sync.proofs.tests.test_landing.Goals as goal

pub returns-in_err-shown-clause-tests : goal.returns-in_err-shown-clause-tests
returns-in_err-shown-clause-tests g c =
    let p = err_from_is_err_and c.from_residual-in_err-shown.result c.from_residual-in_err-shown.ensures.1 in
    let root : is_root (front_of c.args.to.now) ≡ false = search rules in
    let parent : c.in-Some.parent ≡ front_of c.args.to.now = parent_front c.args.to.now c.in-Some.parent (sym c.in-Some.is ∙ c.in_ok-parent.ensures) in
    let found : c.in_ok-found.found ≡ look (carries_of c.args.report.now) (plan c.args.report.now).news (front_of c.args.to.now) =
    c.in_ok-found.ensures ∙ ap (look (carries_of c.args.report.now) (plan c.args.report.now).news) (c.names.ensures ∙ parent) in
    rw (p.1, p.2)
    (landing_unseen _ _ c.args.base.now (plan c.args.report.now) (renamed c.args.from.now c.args.to.now) c.in_err-shown.field-0.0 root
    (subst (λ (o : Option Names). Looked (view g.S.Store c.args.store.now) (view g.S.Store c.look_back.new.store) c.args.base.now o (Err c.in_err-shown.field-0.0)) found c.in_err-shown.ensures.looked))
