use Rattle.std.proofs.Common.{◌≡◌, map, ℕ, List, true}
use Rattle.std.specs.List.{AllByRecursion}
use Rattle.std.specs.Map.Iter.{deref_pair}
use Rattle.dc_tree.specs.Arena.{cell_of}
use Rattle.dc_tree.proofs.Nexts.{is_known}
use Rattle.dc_tree.proofs.same.all_known.Given as goal

abbrev pub invariant-loop-name : goal.invariant-loop-name
invariant-loop-name l =
    (goal.iterator-loop-name).can_next l.name-iterator ×
    (goal.iterator-loop-name).is_finite l.name-iterator ×
    AllByRecursion (λ (e : List ℕ × ℕ). is_known (map cell_of l.first) l.at e.0 ≡ true) (map deref_pair l.yielded)
