-- Each way through a line, and the end.
use Rattle.std.proofs.Common.{◌≡◌, ℕ, List, [], ◌∷◌, length, refl, arith, rules}
use Rattle.std.proofs.lemmas.Bool.Decides.{nat_tests}
use Rattle.std.proofs.lemmas.List.{nil_from_length}
use Rattle.dc_kills.specs.Reading.{GainsLine}
use Rattle.dc_kills.proofs.Reading.{reading_end, reading_stops, reading_more}
use Rattle.dc_kills.proofs.plan.KillPlan.read.Goals as goal

pub loop-rest-preserved : goal.loop-rest-preserved
loop-rest-preserved c =
    let gains : GainsLine c.loop-rest.stops.entries c.add_line.new.stops.entries c.first_line.result.0.now = search rules in
    record {
      reading = reading_more c.loop-rest.invariant.reading c.first_line.result.0.now c.first_line.result.1.now c.first_line.ensures.split c.add_line.new.stops.entries (omega arith) gains;
      ordered = gains.ordered;
      few = omega (arith, gains.counted);
    }

pub returns-clause-plan : goal.returns-clause-plan
returns-clause-plan c =
    let none : c.loop-rest.rest.now ≡ [] = nil_from_length c.loop-rest.rest.now (grind (arith, nat_tests, c.loop-rest-test.ensures)) in
    record {
      faultless = reading_end c.loop-rest.invariant.reading none;
      stops = reading_stops c.loop-rest.invariant.reading none;
    }
