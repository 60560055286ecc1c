-- The map of new paths leads back to one path, which is looked at.
use Rattle.std.proofs.Common.{◌≡◌, ◌∙◌, sym, subst, IfOk, Option}
use Rattle.dc_path.specs.Paths.{Names}
use Rattle.dc_report.specs.Carrying.{plan}
use Rattle.dc_sync.proofs.OriginLemmas.{leads_none, leads_some, look_at}
use Rattle.dc_sync.proofs.looks.origin.Goals as goal

pub returns-in_default : goal.returns-in_default
returns-in_default c = absurd (leads_none c.args.report.now c.args.sources.now.entries c.args.to.now c.requires.sources (sym c.in_default.is ∙ c.in_ok-path.ensures))

pub returns : goal.returns
returns c =
    let p = leads_some c.args.report.now c.args.sources.now.entries c.args.to.now c.in-Some.path c.requires.sources (sym c.in-Some.is ∙ c.in_ok-path.ensures) in
    subst (λ (o : Option Names). IfOk c.if_it_leads.result (λ found. found ≡ o)) (look_at c.args.report.now (plan c.args.report.now).news c.in-Some.path c.args.to.now p) c.if_it_leads.ensures
