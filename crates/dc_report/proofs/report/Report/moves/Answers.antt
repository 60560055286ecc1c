-- The entries are those that the report is seen as.
use Rattle.std.proofs.Common.{List, subst}
use Rattle.dc_path.specs.Unless.{GivesUnless}
use Rattle.dc_path.specs.declared.path.PathError.TheVariants.{Memory}
use Rattle.dc_report.specs.Moves.{limited_moves, moves_of, stage_name}
use Rattle.dc_report.specs.declared.entries.Entry.{Entry}
use Rattle.dc_report.proofs.report.Report.moves.Goals as goal

pub returns : goal.returns
returns c = subst (λ (R : List Entry). GivesUnless Memory c.report_moves.result (limited_moves (moves_of stage_name c.args.base.now R))) c.self.view_is c.report_moves.ensures
