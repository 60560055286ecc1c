-- What a line of a kill plan says.
use Rattle.std.specs.Prelude.{ℕ, Bool, true, false, List, [], ◌∷◌, Option, Some, None, codes, nat_eq, if◌then◌else◌}
use Rattle.std.specs.Cmp.Lexicographic.{pointwise}
use Rattle.dc_path.specs.Numbers.{number_in}
use Rattle.dc_kills.specs.declared.stop.Stop.{Stop}
use Rattle.dc_kills.specs.Parts.{parts_of}

-- a piece, and the number of an attempt at it
abbrev pub Attempt : Type 0
Attempt = ℕ × ℕ

-- an attempt, and where it is stopped
abbrev pub Entry : Type 0
Entry = Attempt × Stop

-- whether the worker stops too, by the parts behind the step: there is none, or it is `worker`
abbrev pub worker_from : List (List ℕ) → Option Bool
worker_from [] = Some false
worker_from (word ∷ []) = if pointwise nat_eq word (codes "worker") then Some true else None
worker_from (word ∷ more ∷ parts) = None

-- an entry, where all its parts are there
abbrev pub entry_by : Option ℕ → Option ℕ → Option ℕ → Option Bool → Option Entry
entry_by (Some piece) (Some attempt) (Some step) (Some worker_too) = Some ((piece, attempt), record { step = step; worker_too = worker_too })
entry_by (Some piece) (Some attempt) (Some step) None = None
entry_by (Some piece) (Some attempt) None worker_too = None
entry_by (Some piece) None step worker_too = None
entry_by None attempt step worker_too = None

-- the entry of a piece up to 8,388,607, an attempt from 1 on, a step, and perhaps `worker`
abbrev pub entry_of : List (List ℕ) → Option Entry
entry_of (piece ∷ attempt ∷ step ∷ parts) =
    entry_by (number_in 0 8388607 piece) (number_in 1 4294967295 attempt) (number_in 0 18446744073709551615 step) (worker_from parts)
entry_of (piece ∷ attempt ∷ []) = None
entry_of (piece ∷ []) = None
entry_of [] = None

-- the entry that a line spells; none where it is of no such form
unfoldable pub entry_from : List ℕ → Option Entry
entry_from line = entry_of (parts_of line)
