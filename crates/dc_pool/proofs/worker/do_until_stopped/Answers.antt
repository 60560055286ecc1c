use Rattle.std.proofs.Common.{arith, ◌∙◌, ap}
use Rattle.dc_split.specs.Bundles.{times}
use Rattle.dc_pool.proofs.Numbers.{times_take, take_whole, added_on}
use Rattle.dc_pool.proofs.worker.do_until_stopped.Goals as goal

pub returns-then-stopped-clause-part : goal.returns-then-stopped-clause-part
returns-then-stopped-clause-part g c = λ x.
    let a = c.in_ok-stopped.ensures.numbers x in
    let b = c.loop-at.invariant.numbers x in
    let t = times_take x c.loop-at.at c.args.numbers.now (omega arith) in
    omega arith

pub loop-at-preserved : goal.loop-at-preserved
loop-at-preserved g c = record {
  within = omega arith;
  fit = c.in_ok-stopped.ensures.fit;
  kept = (omega arith, omega arith);
  added = added_on (g.C.Crew.right c.args.crew.now) (g.C.Crew.right_end c.args.crew.now) (g.C.Crew.doomed c.args.crew.now) (g.C.Crew.late c.args.crew.now) g.C.Crew.faults g.C.Crew.makes _ _ _ _ _ _ c.loop-at.invariant.added c.in_ok-stopped.ensures.added;
  numbers = λ x.
      let a = c.in_ok-stopped.ensures.numbers x in
      let b = c.loop-at.invariant.numbers x in
      let t = times_take x c.loop-at.at c.args.numbers.now (omega arith) in
      omega arith;
  lost = c.in_ok-stopped.ensures.lost ∙ c.loop-at.invariant.lost;
  going = c.in_ok-stopped.ensures.going c.if-stopped.false;
}

pub returns-clause-whole : goal.returns-clause-whole
returns-clause-whole g c = λ x. let b = c.loop-at.invariant.numbers x in let t = ap (times x) (take_whole c.loop-at.at c.args.numbers.now (omega arith)) in omega arith
