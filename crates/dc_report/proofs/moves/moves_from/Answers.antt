-- The moves are added in their order.
use Rattle.std.proofs.Common.{◌∙◌}
use Rattle.dc_report.specs.Carries.{carries_in}
use Rattle.dc_report.specs.declared.moves.Ground.{Ground}
use Rattle.dc_report.proofs.MovesOf.{moves_are}
use Rattle.dc_report.proofs.moves.moves_from.Goals as goal

pub returns : goal.returns
returns c =
    let g : Ground = record { places = c.in_ok-places.places; landings = c.in_ok-landings.landings } in
    let all =
    moves_are c.args.entries.now g (carries_in c.args.carries.now.entries) c.requires.told c.requires.carries c.requires.apart c.in_ok-landings.ensures.landings c.in_ok-places.ensures in
    c.in_ok-add-2.ensures.ok
    ∙ rw (c.in_ok-land_all.ensures, c.in_ok-landings.ensures.moves, c.in_ok-add.ensures.ok, c.new-moves.ensures, c.in_ok-path.ensures, c.in_ok-stage.ensures) all
