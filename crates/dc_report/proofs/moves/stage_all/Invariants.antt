-- What is known of the loop over the carries, from the last on.
use Rattle.std.specs.Iterator.Adapters.{rev_source}
use Rattle.dc_report.proofs.StageLoop.{IsStaged}
use Rattle.dc_report.proofs.moves.stage_all.Given as goal

abbrev pub invariant-loop-old : goal.invariant-loop-old
invariant-loop-old l =
    (goal.iterator-loop-old).can_next l.old-iterator × (goal.iterator-loop-old).is_finite l.old-iterator
    × IsStaged l.carries.entries (rev_source l.old-iterator) l.label l.landings.entries l.fn.moves l.moves
