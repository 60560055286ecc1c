-- Entries that a text can tell take and give no path twice, and have no name of snapshots.
use Rattle.std.proofs.Common.{codes, subst}
use Rattle.dc_report.specs.Apart.{IsReport}
use Rattle.dc_report.specs.Told.{HasNoName}
use Rattle.dc_report.proofs.ToldApart.{told_apart, told_plain}
use Rattle.dc_report.proofs.report.Report.entries.Goals as goal

pub returns-clause-apart : goal.returns-clause-apart
returns-clause-apart c = subst IsReport c.self.view_is (told_apart c.self.inside.entries c.self.invariant.0)

pub returns-clause-plain : goal.returns-clause-plain
returns-clause-plain c = subst (HasNoName (codes ".snapshot")) c.self.view_is (told_plain c.self.inside.entries c.self.invariant.0)
