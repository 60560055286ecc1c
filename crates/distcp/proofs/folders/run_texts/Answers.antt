use Rattle.dc_fs.specs.Views.{view}
use Rattle.dc_options.specs.Reading.{options}
use Rattle.distcp.proofs.Ends.{swept_after}
use Rattle.distcp.proofs.folders.run_texts.Goals as goal

pub returns : goal.returns
returns g c = record {
  ended = c.distcp-ran.result.outcome;
  counts = c.distcp-ran.result.counts;
  printed = c.distcp-ran.result.printed;
  allowed = record { words = c.distcp-ran.ensures.words; due = c.distcp-ran.ensures.due; filtered = c.distcp-ran.ensures.filtered };
  unasked = c.distcp-ran.ensures.unasked;
  committed = λ h. record {
    copied = c.distcp-ran.ensures.copied h;
    gained = c.distcp-ran.ensures.gained h;
    swept = swept_after (options c.args.words.now) _ c.distcp-ran.result.outcome
        (view g.S.Store c.args.source.now) (view g.S.Store c.distcp-ran.new.source) (view g.T.Store c.args.target.now) (view g.T.Store c.distcp-ran.new.target)
        (c.distcp-ran.ensures.copied h) c.distcp-ran.ensures.shows h;
    source_still = c.distcp-ran.ensures.source_still h;
  };
  stopped = λ h. record {
    uncounted = c.distcp-ran.ensures.no_counts h;
    source_fault = c.distcp-ran.ensures.source_fault;
    left = c.distcp-ran.ensures.left h;
    emptied = c.distcp-ran.ensures.emptied;
    untouched = c.distcp-ran.ensures.untouched;
    unchanged = c.distcp-ran.ensures.unchanged;
  };
  keeps = record {
    kept = c.distcp-ran.ensures.source;
    desks = c.distcp-ran.ensures.desks;
    later = c.distcp-ran.ensures.target_later;
    calm = c.distcp-ran.ensures.calm;
  };
  shows = c.distcp-ran.ensures.shows;
  too_long = c.distcp-ran.ensures.too_long;
  status = c.status.ensures;
  lines = c.distcp-ran.ensures.printed;
  unprinted = c.distcp-ran.ensures.cause;
}
