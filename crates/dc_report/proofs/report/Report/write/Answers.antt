-- What is written is read as the entries.
use Rattle.std.proofs.Common.{◌≡◌, List, [], subst, ◌∙◌}
use Rattle.dc_path.specs.Unless.{GivesUnless}
use Rattle.dc_report.specs.declared.entries.Entry.{Entry}
use Rattle.dc_report.specs.declared.writing.WriteReportError.TheVariants.{Memory}
use Rattle.dc_report.specs.Writing.{written}
use Rattle.dc_report.specs.Told.{AreTold}
use Rattle.dc_report.proofs.WrittenLines.{written_reads}
use Rattle.dc_report.proofs.report.Report.write.Goals as goal

pub returns-clause-read_back : goal.returns-clause-read_back
returns-clause-read_back c =
    let same : c.as_slice.result.now ≡ c.args.self.now = c.as_slice.ensures ∙ c.self.view_is in
    written_reads c.args.heading.now c.args.self.now (subst (AreTold []) c.self.view_is c.self.invariant.0) c.write_entries.result
    (subst (λ (es : List Entry). GivesUnless Memory c.write_entries.result (written c.args.heading.now es)) same c.write_entries.ensures)
