-- A carry more.
use Rattle.std.specs.Iterator.Adapters.{rev_source}
use Rattle.dc_report.proofs.SourceLemmas.{source_more}
use Rattle.dc_report.proofs.sources.sources.Goals as goal

pub loop-old-preserved : goal.loop-old-preserved
loop-old-preserved c = (
  tt,
  tt,
  source_more c.args.carries.now.entries (rev_source c.loop-old.old-iterator) (rev_source c.next.new.self) (c.in-Some.old.now, c.in-Some.new.now)
      c.loop-old.sources.entries c.add_source.new.sources.entries c.requires c.loop-old.invariant.2 c.in-Some.ensures.steps c.in_ok-add_source.ensures,
)
