-- What is known of the loop over the moves.
use Rattle.std.proofs.Common.{◌≡◌, take}
use Rattle.std.specs.BTreeSet.{contains}
use Rattle.std.specs.List.{filter_map, list_any}
use Rattle.dc_path.specs.Paths.{Names, path_cmp, same_path}
use Rattle.dc_replay.specs.Replaying.{made_by}
use Rattle.dc_sync.proofs.checking.made_parents.Given as goal

-- the set has the parents of the moves so far
abbrev pub invariant-loop-one : goal.invariant-loop-one
invariant-loop-one l = (q : Names) → contains path_cmp l.made q ≡ list_any (λ p. same_path p q) (filter_map made_by (take l.one-index l.moves))
