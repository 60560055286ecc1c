use Rattle.std.proofs.Common.{rules, All, IfOk}
use Rattle.std.proofs.lemmas.List.Elements.{All-append}
use Rattle.std.proofs.lemmas.Result.{IfOk-weaker, IfOk-at_ok}
use Rattle.dc_pool.specs.Counts.{NoneFell}
use Rattle.dc_pool.specs.Waves.{IsSeated, IsGathered}
use Rattle.dc_pool.proofs.Numbers.{gathered_joined, fell_joined}
use Rattle.dc_pool.proofs.threads.+fn-halves-join_mut+arg2+fn-halves-join_mut+arg3+halves.Goals as goal

pub returns-clause-fit : goal.returns-clause-fit
returns-clause-fit g t c =
    let front : All (g.C.Crew.fit c.args.crew.now) c.front_slots-1.given.0 = search rules in
    let back : All (g.C.Crew.fit c.args.crew.now) c.back_slots-1.given.0 = search rules in
    All-append (g.C.Crew.fit c.args.crew.now) _ _ front back

pub returns-clause-own : goal.returns-clause-own
returns-clause-own g t c =
    let front : All (IsSeated c.args.draws.now.table.shared.table_id c.args.draws.now.bundles) c.front_drawers-1.given.0 = search rules in
    let back : All (IsSeated c.args.draws.now.table.shared.table_id c.args.draws.now.bundles) c.back_drawers-1.given.0 = search rules in
    All-append (IsSeated c.args.draws.now.table.shared.table_id c.args.draws.now.bundles) _ _ front back

pub returns-clause-faults : goal.returns-clause-faults
returns-clause-faults g t c =
    let front : NoneFell g.C.Crew.faults c.split_at_mut-front_slots.result.0.now c.front_slots-1.given.0 = search rules in
    let back : NoneFell g.C.Crew.faults c.split_at_mut-front_slots.result.1.now c.back_slots-1.given.0 = search rules in
    rw c.split_at_mut-front_slots.ensures.value (fell_joined g.C.Crew.faults c.split_at_mut-front_slots.result.0.now c.split_at_mut-front_slots.result.1.now c.front_slots-1.given.0 c.back_slots-1.given.0 front back)

pub returns-clause-makes : goal.returns-clause-makes
returns-clause-makes g t c =
    let front : NoneFell g.C.Crew.makes c.split_at_mut-front_slots.result.0.now c.front_slots-1.given.0 = search rules in
    let back : NoneFell g.C.Crew.makes c.split_at_mut-front_slots.result.1.now c.back_slots-1.given.0 = search rules in
    rw c.split_at_mut-front_slots.ensures.value (fell_joined g.C.Crew.makes c.split_at_mut-front_slots.result.0.now c.split_at_mut-front_slots.result.1.now c.front_slots-1.given.0 c.back_slots-1.given.0 front back)

pub returns-clause-gathered : goal.returns-clause-gathered
returns-clause-gathered g t c =
    let crew = c.args.crew.now in
    let front : IfOk c.join_mut-front.result.0 (IsGathered (g.C.Crew.right crew) (g.C.Crew.right_end crew) (g.C.Crew.doomed crew) (g.C.Crew.stops crew) (g.C.Crew.late crew) g.C.Crew.faults g.C.Crew.makes c.args.bundles.now c.split_at_mut-front_slots.result.0.now c.front_slots-1.given.0 c.front_drawers-1.given.0) = search rules in
    let back : IfOk c.join_mut-front.result.1 (IsGathered (g.C.Crew.right crew) (g.C.Crew.right_end crew) (g.C.Crew.doomed crew) (g.C.Crew.stops crew) (g.C.Crew.late crew) g.C.Crew.faults g.C.Crew.makes c.args.bundles.now c.split_at_mut-front_slots.result.1.now c.back_slots-1.given.0 c.back_drawers-1.given.0) = search rules in
    IfOk-weaker c.both.result _ _ (λ w j. gathered_joined (g.C.Crew.right crew) (g.C.Crew.right_end crew) (g.C.Crew.doomed crew) (g.C.Crew.stops crew) (g.C.Crew.late crew) g.C.Crew.faults g.C.Crew.makes c.args.bundles.now c.args.slots.now c.split_at_mut-front_slots.result.0.now c.split_at_mut-front_slots.result.1.now c.front_slots-1.given.0 c.back_slots-1.given.0 c.front_drawers-1.given.0 c.back_drawers-1.given.0 j.0 j.1 w c.split_at_mut-front_slots.ensures.value (IfOk-at_ok _ j.2 front) (IfOk-at_ok _ j.3 back) j.4) c.both.ensures
