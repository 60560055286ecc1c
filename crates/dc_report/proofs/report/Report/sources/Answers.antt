-- The new paths of a report differ, and are within the limits.
use Rattle.std.proofs.Common.{◌≡◌, sym, subst, IfOk}
use Rattle.dc_report.specs.Carrying.{old_lt}
use Rattle.dc_report.specs.Landings.{NewsDiffer, sources_of}
use Rattle.dc_report.proofs.Carriers.{map_ascends}
use Rattle.dc_report.proofs.LandingLemmas.{news_differ}
use Rattle.dc_report.proofs.Sorting.{IsSorted}
use Rattle.dc_report.proofs.SourceLemmas.{fit_in}
use Rattle.dc_report.proofs.ToldApart.{told_apart}
use Rattle.dc_report.proofs.report.Report.sources.Goals as goal

pub sources-requires : goal.sources-requires
sources-requires c =
    let sorted = subst (IsSorted old_lt) c.self.invariant.1 (map_ascends c.self.inside.carries.entries c.len-ordered.ensures.ordered) in
    subst NewsDiffer (sym c.self.invariant.1) (news_differ c.self.inside.entries (told_apart c.self.inside.entries c.self.invariant.0) sorted)

pub returns-clause-fit : goal.returns-clause-fit
returns-clause-fit c = fit_in c.self.inside.entries c.sources.result c.self.invariant.0 (subst (λ cs. IfOk c.sources.result (λ s. s.entries ≡ sources_of cs)) c.self.invariant.1 c.sources.ensures)
