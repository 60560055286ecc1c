-- The first line ends at the first line feed, or with the text.
use Rattle.std.proofs.Common.{◌∙◌, [], length, sym, refl, arith}
use Rattle.std.proofs.lemmas.List.{take_rest, drop_all}
use Rattle.dc_path.proofs.LineLemmas.{line_upto, line_whole, no_lines}
use Rattle.dc_path.proofs.lines.first_line.Goals as goal

pub returns-in-Some-clause-split : goal.returns-in-Some-clause-split
returns-in-Some-clause-split c = rw take_rest (line_upto c.args.text.now c.in-Some.at (sym c.line_feed.ensures ∙ c.in-Some.is))

pub returns-in-None-clause-split : goal.returns-in-None-clause-split
returns-in-None-clause-split c =
    rw (take_rest, drop_all (length c.args.text.now) c.args.text.now (omega arith), no_lines [] refl)
    (line_whole c.args.text.now c.requires (sym c.line_feed.ensures ∙ c.in-None.is))
