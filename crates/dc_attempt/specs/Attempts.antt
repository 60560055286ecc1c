-- How an attempt ends, and what it leaves on the desk.
use Rattle.std.specs.Prelude.{◌≡◌, ◌≢◌, ◌⊎◌, ℕ, ◌+◌, ◌<◌, ◌≤◌, Bool, true, false, List, length, Option, Some, None, IfSome, Result, Ok, Err}
use Rattle.dc_fs.specs.Causes.{raised, Rose}
use Rattle.dc_fs.specs.Digests.{IsDigestAtWork}
use Rattle.dc_fs.specs.Temporaries.{told_if}
use Rattle.md5.specs.Md5.{md5}
use Rattle.dc_attempt.specs.Benches.{Bench, IsCleared}
use Rattle.dc_attempt.specs.Ranges.{told_range}
use Rattle.dc_attempt.specs.Steps.{Asked, lies, reads, compare_step, seal_step, last_step, filled_before, NoStopBefore, IsFilled}
use Rattle.dc_attempt.specs.declared.attempted.Attempted.{Attempted}
use Rattle.dc_attempt.specs.declared.attempted.Attempted.TheVariants.{Sealed, Killed, Fault, Differs, Changed, Memory}
use Rattle.dc_attempt.specs.declared.stopping.Stopped.{Stopped}
use Rattle.dc_attempt.specs.declared.stopping.Stopped.TheVariants as stopped

-- one temporary more was made, and it has so many bytes
pub record HasFilled (asked : Asked) (done : ℕ) (old new : Bench) : Type 0 where
  pub counted : new.made ≡ raised old.made
  pub filled : IsFilled asked done old.tells new

-- ---- the desk
-- the desk where the steps before this one were done, and no other
pub record StandsBefore (asked : Asked) (step : ℕ) (old new : Bench) : Type 0 where
  pub first : step ≡ 0 → new ≡ old
  pub work : 1 ≤ step → step ≤ seal_step asked → HasFilled asked (filled_before asked step) old new
  pub sealed : step ≡ last_step asked → IsCleared old new

-- a temporary with what the reads before a step gave, and at most so many bytes in all
pub record HasPartly (asked : Asked) (step most : ℕ) (old new : Bench) : Type 0 where
  pub done : ℕ
  pub least : filled_before asked step ≤ done
  pub within : done ≤ most
  pub has : HasFilled asked done old new

-- the desk where this step was begun and failed: the last cannot fail
pub record FailsIn (asked : Asked) (step most : ℕ) (old new : Bench) : Type 0 where
  pub first : step ≡ 0 → (new.made ≡ old.made) × (new.current ≡ None)
  pub work : 1 ≤ step → step ≤ compare_step asked → HasPartly asked step most old new
  pub seal : step ≡ seal_step asked → IsCleared old new

-- a step failed before the stop, and a read that failed has added at most so many bytes
pub record StepFails (asked : Asked) (most : ℕ → ℕ) (old new : Bench) : Type 0 where
  pub step : ℕ
  pub early : step ≤ seal_step asked
  pub begun : NoStopBefore asked.stop (step + 1)
  pub desk : FailsIn asked step (most step) old new

-- no count of faults rose
pub record IsStill (old new : Bench) (before now : ℕ) : Type 0 where
  pub reader : now ≡ before
  pub desk : new.faults ≡ old.faults

-- ---- the answers
-- a temporary with the bytes of the range, and no stop up to the last step
pub record IsSealed (asked : Asked) (content : Option (List ℕ)) (size : ℕ) (old new : Bench) : Type 0 where
  pub unstopped : NoStopBefore asked.stop (last_step asked + 1)
  pub bytes : List ℕ
  pub counted : length bytes ≡ asked.count
  pub sized : size ≡ asked.count
  pub holds : content ≡ told_if old.tells bytes
  pub range : 0 < asked.count → IfSome asked.tree (λ _. told_range asked.tree asked.path asked.from asked.count ≡ Some bytes)
  pub desk : IsCleared old new

-- the stop is a step, and those before it were done
pub record IsKilled (asked : Asked) (old new : Bench) : Type 0 where
  pub step : ℕ
  pub stop : asked.stop ≡ Some step
  pub reached : step ≤ last_step asked
  pub desk : StandsBefore asked step old new

-- a step failed, and the reader's count of faults rose or the desk's
pub record IsFault (asked : Asked) (old new : Bench) (before now : ℕ) : Type 0 where
  pub rose : Rose before now ⊎ Rose old.faults new.faults
  pub stops : StepFails asked (λ step. filled_before asked (step + 1)) old new

-- all was read, and its digest is another than that of the temporary, which the desk does not tell
pub record IsDifferent (asked : Asked) (expected found : List ℕ) (old new : Bench) : Type 0 where
  pub differ : expected ≢ found
  pub begun : NoStopBefore asked.stop (compare_step asked + 1)
  pub desk : HasFilled asked asked.count old new
  pub read : expected ≡ md5 desk.filled.bytes
  pub held : IsDigestAtWork new.current found
  pub untold : old.tells ≡ false

-- a read was refused or came to the end of the file: where the tree is told, the range does not lie in it
pub record IsChanged (asked : Asked) (old new : Bench) : Type 0 where
  pub lacks : lies asked ≡ false
  pub step : ℕ
  pub read : (1 ≤ step) × (step ≤ reads asked)
  pub begun : NoStopBefore asked.stop (step + 1)
  pub desk : StandsBefore asked step old new

-- how an attempt ends, by what its temporaries hold and their sizes, the desk before and after, and the reader's faults
abbrev pub Answers : {P : Type 0} → (P → Option (List ℕ)) → (P → ℕ) → Asked → Bench → Bench → ℕ → ℕ → Attempted P → Type 0
Answers content size asked old new before now (Sealed temp) = IsSealed asked (content temp) (size temp) old new × IsStill old new before now
Answers content size asked old new before now Killed = IsKilled asked old new × IsStill old new before now
Answers content size asked old new before now Fault = IsFault asked old new before now
Answers content size asked old new before now (Differs expected found) = IsDifferent asked expected found old new × IsStill old new before now
Answers content size asked old new before now Changed = IsChanged asked old new
Answers content size asked old new before now Memory = StepFails asked (filled_before asked) old new

-- a fault is the answer
abbrev pub is_fault : {P : Type 0} → Attempted P → Bool
is_fault (Sealed temp) = false
is_fault Killed = false
is_fault Fault = true
is_fault (Differs expected found) = false
is_fault Changed = false
is_fault Memory = false

-- the end of an attempt whose steps came to this
abbrev pub attempted_of : {P : Type 0} → Result P Stopped → Attempted P
attempted_of (Ok temp) = Sealed temp
attempted_of (Err stopped.Killed) = Killed
attempted_of (Err stopped.Fault) = Fault
attempted_of (Err (stopped.Differs expected found)) = Differs expected found
attempted_of (Err stopped.Changed) = Changed
attempted_of (Err stopped.Memory) = Memory
