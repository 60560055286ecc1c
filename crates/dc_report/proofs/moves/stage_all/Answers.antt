-- A carry more is staged.
use Rattle.std.specs.Iterator.Adapters.{rev_source}
use Rattle.dc_report.proofs.StageLoop.{stage_more}
use Rattle.dc_report.proofs.moves.stage_all.Goals as goal

pub loop-old-preserved : goal.loop-old-preserved
loop-old-preserved c = (
  tt,
  tt,
  stage_more c.args.carries.now.entries (rev_source c.loop-old.old-iterator) (rev_source c.next.new.self) (c.in-Some.old.now, c.in-Some.new.now) c.loop-old.label
      c.loop-old.landings.entries c.land.new.landings.entries c.args.moves.now c.loop-old.moves c.push_staged.new.moves c.requires.apart c.loop-old.invariant.2
      c.in-Some.ensures.steps c.in_ok-push_staged.ensures c.in_ok-land.ensures,
)
