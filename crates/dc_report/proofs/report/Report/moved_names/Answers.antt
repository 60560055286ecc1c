-- The paths that a report takes are within the limits.
use Rattle.std.proofs.Common.{sym, subst}
use Rattle.dc_report.specs.Carries.{OldsFit}
use Rattle.dc_report.proofs.ToldApart.{olds_fit}
use Rattle.dc_report.proofs.report.Report.moved_names.Goals as goal

pub moved_names-requires : goal.moved_names-requires
moved_names-requires c = subst OldsFit (sym c.self.invariant.1) (olds_fit c.self.inside.entries c.self.invariant.0)
