-- The laws are proved of the definitions.
use Rattle.dc_result.proofs.Lawful.{effects_land, land_stops_are_fronts, move_gives_result, move_not_refused, none_refused, others_are_spared, phases_build, points_are_partly, stops_are_fronts}
use Rattle.dc_result.proofs.ListedAbove.{listed_copies_begin}
use Rattle.dc_result.proofs.Planning.{listed_copies_are_jobs}
use Rattle.dc_result.proofs.Removing.{missing_goes, none_goes}
use Rattle.dc_result.proofs.RootPlaces.{roots_are_placed}
use Rattle.dc_result.proofs.Untouched.{target_is_untouched}
use Rattle.dc_result.proofs.laws.result_laws.Goals as goal

pub returns : goal.returns
returns c = record {
  listed = listed_copies_are_jobs;
  begins = listed_copies_begin;
  roots = roots_are_placed;
  missing = missing_goes;
  kept = none_goes;
  build = phases_build;
  moves = move_gives_result;
  effects = effects_land;
  allowed = none_refused;
  move_allowed = move_not_refused;
  points = points_are_partly;
  spared = others_are_spared;
  untouched = target_is_untouched;
  stops = stops_are_fronts;
  land_stops = land_stops_are_fronts;
}
