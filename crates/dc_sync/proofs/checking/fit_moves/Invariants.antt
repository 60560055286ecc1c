-- What is known of the loop over the moves.
use Rattle.std.proofs.Common.{◌≡◌, drop, map}
use Rattle.std.specs.List.{flat_map}
use Rattle.dc_report.specs.Moves.{paths_in}
use Rattle.dc_replay.specs.TestAnswers.{Holds, first_answer, within}
use Rattle.dc_sync.proofs.checking.fit_moves.Given as goal

-- the paths that are left decide
abbrev pub invariant-loop-one : goal.invariant-loop-one
invariant-loop-one l =
    first_answer (map (λ p. within l.fn.base p Holds) (flat_map paths_in l.fn.moves)) ≡ first_answer (map (λ p. within l.fn.base p Holds) (flat_map paths_in (drop l.one-index l.one-items)))
