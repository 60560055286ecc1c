-- The map of new paths leads the parent back to one path.
use Rattle.std.proofs.Common.{◌∙◌, sym}
use Rattle.dc_sync.proofs.OriginLemmas.{beside_none, other_looks}
use Rattle.dc_sync.proofs.looks.other_origin.Goals as goal

pub returns-in_default : goal.returns-in_default
returns-in_default c = absurd (beside_none c.args.report.now c.args.sources.now.entries c.args.to.now c.requires.sources (sym c.in_default.is ∙ c.in_ok-path.ensures))

pub returns : goal.returns
returns c =
    other_looks c.args.report.now c.args.sources.now.entries c.in-Some.path c.args.to.now c.names.result.now c.if_it_leads.result c.requires.sources c.names.ensures
    (sym c.in-Some.is ∙ c.in_ok-path.ensures) c.if_it_leads.ensures
