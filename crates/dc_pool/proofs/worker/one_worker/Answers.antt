use Rattle.std.proofs.Common.{ap, sym, ◌∙◌, rules, arith, subst, [], List, ℕ, get_or, ◌≡◌}
use Rattle.std.specs.List.{Contains}
use Rattle.std.proofs.lemmas.List.Elements.{Contains-get_or}
use Rattle.dc_split.specs.Bundles.{times}
use Rattle.dc_pool.specs.Waves.{in_bundle, LeaveGoing, Stopped}
use Rattle.dc_pool.proofs.Numbers.{get_or_same, worked, falls_by, rose_on}
use Rattle.dc_pool.proofs.Losses.{lost_by_stop, stopped_by_stop, few_by_stop, going_stopped, going_count}
use Rattle.dc_pool.proofs.worker.one_worker.Goals as goal

pub returns-then-stopped-clause-numbers : goal.returns-then-stopped-clause-numbers
returns-then-stopped-clause-numbers g c = λ x. worked (in_bundle c.args.bundles.now x) _ _ c.in-Some.b _ _ _ _ c.in-Some.ensures.drawn (c.loop-b.invariant.numbers x) (c.in_ok-stopped.ensures.numbers x)
    (ap (times x) (get_or_same c.args.bundles.now c.in-Some.b [] c.index-bundles-b.result (search rules) ∙ (sym c.index-bundles-b.is ∙ sym c.as_slice.ensures)))

pub returns-then-stopped-clause-lost : goal.returns-then-stopped-clause-lost
returns-then-stopped-clause-lost g c =
    let here : Contains c.args.bundles.now (get_or c.args.bundles.now c.in-Some.b c.index-bundles-b.result) = Contains-get_or c.args.bundles.now c.in-Some.b c.index-bundles-b.result (search rules) in
    let has : Contains c.args.bundles.now c.as_slice.result.now = subst (Contains c.args.bundles.now) (sym c.index-bundles-b.is ∙ sym c.as_slice.ensures) here in
    let stop : Stopped (g.C.Crew.stops c.args.crew.now) c.as_slice.result.now c.loop-b.wave.lost c.do_bundle.new.wave.killed c.do_bundle.new.wave.lost = rw c.if-stopped.true at c.in_ok-stopped.ensures.stopped in
    lost_by_stop (g.C.Crew.stops c.args.crew.now) c.args.bundles.now c.as_slice.result.now c.do_bundle.new.wave.killed c.do_bundle.new.wave.lost has
    (subst (λ (old : List ℕ). Stopped (g.C.Crew.stops c.args.crew.now) c.as_slice.result.now old c.do_bundle.new.wave.killed c.do_bundle.new.wave.lost) c.loop-b.invariant.lost stop)

pub returns-then-stopped-clause-stopped : goal.returns-then-stopped-clause-stopped
returns-then-stopped-clause-stopped g c =
    let here : Contains c.args.bundles.now (get_or c.args.bundles.now c.in-Some.b c.index-bundles-b.result) = Contains-get_or c.args.bundles.now c.in-Some.b c.index-bundles-b.result (search rules) in
    let has : Contains c.args.bundles.now c.as_slice.result.now = subst (Contains c.args.bundles.now) (sym c.index-bundles-b.is ∙ sym c.as_slice.ensures) here in
    let stop : Stopped (g.C.Crew.stops c.args.crew.now) c.as_slice.result.now c.loop-b.wave.lost c.do_bundle.new.wave.killed c.do_bundle.new.wave.lost = rw c.if-stopped.true at c.in_ok-stopped.ensures.stopped in
    stopped_by_stop (g.C.Crew.stops c.args.crew.now) c.args.bundles.now c.as_slice.result.now c.do_bundle.new.wave.killed c.do_bundle.new.wave.lost has
    (subst (λ (old : List ℕ). Stopped (g.C.Crew.stops c.args.crew.now) c.as_slice.result.now old c.do_bundle.new.wave.killed c.do_bundle.new.wave.lost) c.loop-b.invariant.lost stop)

pub returns-then-stopped-clause-few : goal.returns-then-stopped-clause-few
returns-then-stopped-clause-few g c =
    let stop : Stopped (g.C.Crew.stops c.args.crew.now) c.as_slice.result.now c.loop-b.wave.lost c.do_bundle.new.wave.killed c.do_bundle.new.wave.lost = rw c.if-stopped.true at c.in_ok-stopped.ensures.stopped in
    few_by_stop (g.C.Crew.stops c.args.crew.now) c.as_slice.result.now c.loop-b.wave.lost c.do_bundle.new.wave.killed c.do_bundle.new.wave.lost stop

pub returns-clause-stopped : goal.returns-clause-stopped
returns-clause-stopped g c = going_stopped (g.C.Crew.stops c.args.crew.now) c.args.bundles.now c.loop-b.wave.killed c.loop-b.wave.lost c.loop-b.invariant.going

pub returns-clause-few : goal.returns-clause-few
returns-clause-few g c = let none = going_count (g.C.Crew.stops c.args.crew.now) c.loop-b.wave.killed c.loop-b.invariant.going in omega arith

pub loop-b-smaller : goal.loop-b-smaller
loop-b-smaller g c = falls_by c.args.draws.now.bundles _ _ c.in-Some.b c.in-Some.ensures.below c.in-Some.ensures.above c.in-Some.ensures.drawn

pub loop-b-preserved : goal.loop-b-preserved
loop-b-preserved g c =
    let went : (c.do_bundle.new.wave.lost ≡ c.loop-b.wave.lost) × LeaveGoing (g.C.Crew.stops c.args.crew.now) c.do_bundle.new.wave.killed = rw c.if-stopped.false at c.in_ok-stopped.ensures.stopped in record {
      fit = c.in_ok-stopped.ensures.fit;
      kept = (omega arith, omega arith);
      right = c.in_ok-stopped.ensures.added.right;
      own = search rules;
      numbers = λ x. worked (in_bundle c.args.bundles.now x) _ _ c.in-Some.b _ _ _ _ c.in-Some.ensures.drawn (c.loop-b.invariant.numbers x) (c.in_ok-stopped.ensures.numbers x)
          (ap (times x) (get_or_same c.args.bundles.now c.in-Some.b [] c.index-bundles-b.result (search rules) ∙ (sym c.index-bundles-b.is ∙ sym c.as_slice.ensures)));
      faults = rose_on _ _ _ _ _ _ c.loop-b.invariant.faults c.in_ok-stopped.ensures.added.faults;
      makes = rose_on _ _ _ _ _ _ c.loop-b.invariant.makes c.in_ok-stopped.ensures.added.makes;
      lost = went.0 ∙ c.loop-b.invariant.lost;
      going = went.1;
    }
