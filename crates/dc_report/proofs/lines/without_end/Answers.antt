-- Each line feed at the end is passed over.
use Rattle.std.proofs.Common.{◌≡◌, ◌==◌, false, get_or, ◌-◌, arith}
use Rattle.std.proofs.lemmas.Bool.Decides.{nat_tests}
use Rattle.dc_report.proofs.LineLemmas.{end_more, end_other, end_none}
use Rattle.dc_report.proofs.lines.without_end.Goals as goal
use Rattle.dc_report.proofs.lines.without_end.Goals.{then-loop-end-test+else-text-end-eq10, else-loop-end-test}

pub loop-end-preserved : goal.loop-end-preserved
loop-end-preserved c = record {
  within = omega arith;
  same = end_more c.args.text.now c.loop-end.end (omega arith) c.loop-end.invariant.within (omega arith) c.loop-end.invariant.same;
}

pub returns : goal.returns
returns c = elim c.loop-end-test.branch [
  | then-loop-end-test+else-text-end-eq10 w ↦
      let apart : (get_or c.args.text.now (c.loop-end.end - 1) 0 == 10) ≡ false = grind (arith, nat_tests, w.if-text-end-eq10.false) in
      end_other c.args.text.now c.loop-end.end (omega (arith, w.loop-end-test.true)) c.loop-end.invariant.within apart c.loop-end.invariant.same
  | else-loop-end-test w ↦ end_none c.args.text.now c.loop-end.end (omega (arith, w.loop-end-test.false)) c.loop-end.invariant.same
]
