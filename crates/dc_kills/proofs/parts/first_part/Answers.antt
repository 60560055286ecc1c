-- The first part ends at the first blank, or with the line.
use Rattle.std.proofs.Common.{◌∙◌, sym}
use Rattle.std.proofs.lemmas.List.{take_rest}
use Rattle.dc_path.proofs.LineLemmas.{part_upto, part_whole}
use Rattle.dc_kills.specs.Parts.{is_blank}
use Rattle.dc_kills.proofs.parts.first_part.Goals as goal

pub returns-in-Some : goal.returns-in-Some
returns-in-Some c = rw take_rest (part_upto is_blank c.args.line.now c.in-Some.at (sym c.blank.ensures ∙ c.in-Some.is))

pub returns-in-None : goal.returns-in-None
returns-in-None c = part_whole is_blank c.args.line.now (sym c.blank.ensures ∙ c.in-None.is)
