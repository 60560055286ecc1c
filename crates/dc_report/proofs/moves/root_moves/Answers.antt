-- The carries of a report have different new paths.
use Rattle.std.proofs.Common.{sym, subst}
use Rattle.dc_report.specs.Carrying.{old_lt}
use Rattle.dc_report.specs.Landings.{NewsDiffer}
use Rattle.dc_report.proofs.Carriers.{map_ascends}
use Rattle.dc_report.proofs.LandingLemmas.{news_differ}
use Rattle.dc_report.proofs.Sorting.{IsSorted}
use Rattle.dc_report.proofs.ToldApart.{told_apart}
use Rattle.dc_report.proofs.moves.root_moves.Goals as goal

pub moves_from-requires-clause-apart : goal.moves_from-requires-clause-apart
moves_from-requires-clause-apart c =
    let sorted = subst (IsSorted old_lt) c.requires.carries (map_ascends c.args.carries.now.entries c.len.ensures.ordered) in
    subst NewsDiffer (sym c.requires.carries) (news_differ c.args.entries.now (told_apart c.args.entries.now c.requires.told) sorted)
