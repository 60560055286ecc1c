-- What is known of the loop over the new paths.
use Rattle.std.proofs.Common.{◌≡◌, ◌++◌, None}
use Rattle.std.specs.Option.{option_copied}
use Rattle.dc_report.specs.Landings.{landings_moves}
use Rattle.dc_report.specs.Moves.{stage_name}
use Rattle.dc_report.proofs.moves.land_all.Given as goal

-- what is left moves what all move
abbrev pub invariant-loop-new : goal.invariant-loop-new
invariant-loop-new l =
    l.moves ++ landings_moves stage_name l.ground (option_copied l.last) l.new-iterator ≡ l.fn.moves ++ landings_moves stage_name l.ground None l.ground.landings.entries
