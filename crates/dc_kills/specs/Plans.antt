-- A kill plan: a finite map from attempts to stops, as the list of its entries in order.
use Rattle.std.specs.Prelude.{ℕ, Bool, List, map, Option, ◌==◌, ◌&&◌, filter_map}
use Rattle.std.specs.List.Sorted.{IsStrictlySortedBy}
use Rattle.std.specs.Map.{lookup}
use Rattle.std.specs.Ordering.{nat_cmp, ordering_then}
use Rattle.std.specs.declared.cmp.Ordering.{Ordering}
use Rattle.dc_kills.specs.declared.stop.Stop.{Stop}
use Rattle.dc_kills.specs.Entries.{Attempt, Entry, entry_from}

-- two attempts are the same: the piece and the number
abbrev pub is_same : Attempt → Attempt → Bool
is_same a b = a.0 == b.0 && a.1 == b.1

-- where an attempt is stopped: the first entry that has it decides
abbrev pub stop_in : List Entry → Attempt → Option Stop
stop_in plan attempt = lookup (is_same attempt) plan

-- where the lines of a plan stop an attempt
abbrev pub stop_of : List (List ℕ) → Attempt → Option Stop
stop_of lines attempt = stop_in (filter_map entry_from lines) attempt

-- the order of attempts: by piece, then by number
abbrev pub attempt_cmp : Attempt → Attempt → Ordering
attempt_cmp a b = ordering_then (nat_cmp a.0 b.0) (nat_cmp a.1 b.1)

-- the entries stand in the order of attempts, and each attempt stands once
abbrev pub IsInOrder : List Entry → Type 0
IsInOrder plan = IsStrictlySortedBy attempt_cmp (map (λ entry. entry.0) plan)
