-- What is known of the loop over the carries, from the last on.
use Rattle.std.specs.Iterator.Adapters.{rev_source}
use Rattle.dc_report.proofs.SourceLemmas.{IsSourced}
use Rattle.dc_report.proofs.sources.sources.Given as goal

abbrev pub invariant-loop-old : goal.invariant-loop-old
invariant-loop-old l =
    (goal.iterator-loop-old).can_next l.old-iterator × (goal.iterator-loop-old).is_finite l.old-iterator
    × IsSourced l.carries.entries (rev_source l.old-iterator) l.sources.entries
