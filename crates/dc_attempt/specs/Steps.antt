-- What an attempt is asked for, and its steps.
use Rattle.std.specs.Prelude.{◌≡◌, ℕ, ◌+◌, ◌-◌, ◌*◌, ◌<◌, ◌≤◌, min, Bool, List, length, Option, Some, None, IfSome}
use Rattle.std.specs.Int.{div_ceil}
use Rattle.dc_path.specs.Paths.{Names}
use Rattle.dc_attrs.specs.Trees.{Tree}
use Rattle.dc_fs.specs.Temporaries.{told_if}
use Rattle.dc_fs.specs.declared.errors.DeskError.{DeskError}
use Rattle.dc_fs.specs.declared.errors.DeskError.TheVariants as desk_error
use Rattle.dc_attempt.specs.Benches.{Bench}
use Rattle.dc_attempt.specs.Ranges.{told_range, lies_in}
use Rattle.dc_attempt.specs.declared.stopping.Stopped.{Stopped}
use Rattle.dc_attempt.specs.declared.stopping.Stopped.TheVariants as stopped

-- what an attempt is asked for: a range of a file, in the tree of the reader where it tells one; the length of the buffer
-- through which it goes; and the step before which it stops, if there is one
pub record Asked : Type 0 where
  pub tree : Option Tree
  pub path : Names
  pub from : ℕ
  pub count : ℕ
  pub room : ℕ
  pub stop : Option ℕ

abbrev pub asked_for : Option Tree → Names → ℕ → ℕ → ℕ → Option ℕ → Asked
asked_for tree path from count room stop = record { tree = tree; path = path; from = from; count = count; room = room; stop = stop }

-- the tree is told, and the range lies in the file
abbrev pub lies : Asked → Bool
lies asked = lies_in asked.tree asked.path asked.from asked.count

-- how many times a bufferful is read: steps 1 to this one
abbrev pub reads : Asked → ℕ
reads asked = div_ceil asked.count asked.room

-- the most reads up to a stop, which is not taken, if there is one
abbrev pub reads_before : Option ℕ → ℕ → ℕ
reads_before None all = all
reads_before (Some stop) all = min (stop - 1) all

-- the most reads of an attempt: each bufferful once, and none from the stop on
abbrev pub most_reads : Asked → ℕ
most_reads asked = reads_before asked.stop (reads asked)

-- the step that compares the digests, the one that seals, and the last, which hands the temporary out
abbrev pub compare_step : Asked → ℕ
compare_step asked = reads asked + 1

abbrev pub seal_step : Asked → ℕ
seal_step asked = reads asked + 2

abbrev pub last_step : Asked → ℕ
last_step asked = reads asked + 3

-- how many bytes the steps before this one have read, at step 1 and later
abbrev pub filled_before : Asked → ℕ → ℕ
filled_before asked step = min ((step - 1) * asked.room) asked.count

-- the stop, if there is one, is this step or a later one
abbrev pub NoStopBefore : Option ℕ → ℕ → Type 0
NoStopBefore stop step = IfSome stop (λ s. step ≤ s)

-- the temporary at work has so many bytes. Where the tree is told they are the first of the range
pub record IsFilled (asked : Asked) (done : ℕ) (tells : Bool) (now : Bench) : Type 0 where
  pub bytes : List ℕ
  pub counted : length bytes ≡ done
  pub sized : now.size ≡ done
  pub at_work : now.current ≡ Some (told_if tells bytes)
  pub range : 0 < done → IfSome asked.tree (λ _. told_range asked.tree asked.path asked.from done ≡ Some bytes)

-- what a desk's refusal means for the attempt
abbrev pub stopped_of : DeskError → Stopped
stopped_of desk_error.Fault = stopped.Fault
stopped_of desk_error.Memory = stopped.Memory
