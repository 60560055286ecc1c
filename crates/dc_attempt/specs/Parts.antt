-- What a bufferful adds to the temporary at work, and why a range is not copied.
use Rattle.std.specs.Prelude.{◌≡◌, ◌⊎◌, ℕ, ◌+◌, ◌<◌, ◌≤◌, Bool, false, List, ◌++◌, length, Option, Some, IfSome}
use Rattle.dc_path.specs.Paths.{Names}
use Rattle.dc_attrs.specs.Trees.{Tree}
use Rattle.dc_fs.specs.Causes.{Rose}
use Rattle.dc_fs.specs.Temporaries.{more}
use Rattle.md5.specs.Md5.{Holds}
use Rattle.md5.specs.declared.Md5.{Md5}
use Rattle.dc_attempt.specs.Attempts.{IsStill}
use Rattle.dc_attempt.specs.Benches.{Bench}
use Rattle.dc_attempt.specs.Ranges.{told_range, lies_in}
use Rattle.dc_attempt.specs.Steps.{Asked, lies, reads, filled_before, NoStopBefore, IsFilled}
use Rattle.dc_attempt.specs.declared.stopping.Stopped.{Stopped}
use Rattle.dc_attempt.specs.declared.stopping.Stopped.TheVariants as stopped

-- so many bytes were added. Where the tree is told they are the file's from a place on
pub record IsAdded (tree : Option Tree) (path : Names) (at count : ℕ) (old new : Bench) : Type 0 where
  pub bytes : List ℕ
  pub counted : length bytes ≡ count
  pub longer : new.size ≡ old.size + count
  pub appended : new.current ≡ more bytes old.current
  pub range : 0 < count → IfSome tree (λ _. told_range tree path at count ≡ Some bytes)

-- a whole bufferful was added, and hashed too
pub record IsHashed (tree : Option Tree) (path : Names) (at count : ℕ) (old new : Bench) (hasher after : Md5) : Type 0 where
  pub added : IsAdded tree path at count old new
  pub hashed : (m : List ℕ) → Holds hasher m → Holds after (m ++ added.bytes)

-- a front of a bufferful was added
pub record AddsPart (tree : Option Tree) (path : Names) (at count : ℕ) (old new : Bench) : Type 0 where
  pub front : ℕ
  pub within : front ≤ count
  pub added : IsAdded tree path at front old new

-- why a bufferful is not copied, and what that leaves
abbrev pub PartStops : Option Tree → Names → ℕ → ℕ → Bench → Bench → ℕ → ℕ → Stopped → Type 0
PartStops tree path at count old new before now stopped.Killed = ⊥
PartStops tree path at count old new before now stopped.Fault = (Rose before now ⊎ Rose old.faults new.faults) × AddsPart tree path at count old new
PartStops tree path at count old new before now (stopped.Differs expected found) = ⊥
PartStops tree path at count old new before now stopped.Changed = (lies_in tree path at count ≡ false) × IsAdded tree path at 0 old new
PartStops tree path at count old new before now stopped.Memory = IsAdded tree path at 0 old new

-- so many bytes of the range were copied: they stand in the temporary at work, and they were hashed
pub record IsCopied (asked : Asked) (done : ℕ) (tells : Bool) (now : Bench) (hasher : Md5) : Type 0 where
  pub filled : IsFilled asked done tells now
  pub hashed : Holds hasher filled.bytes

-- a read failed before the stop, and has added at most so many bytes
pub record ReadFails (asked : Asked) (most : ℕ → ℕ) (tells : Bool) (new : Bench) : Type 0 where
  pub step : ℕ
  pub read : (1 ≤ step) × (step ≤ reads asked)
  pub begun : NoStopBefore asked.stop (step + 1)
  pub done : ℕ
  pub least : filled_before asked step ≤ done
  pub within : done ≤ most step
  pub filled : IsFilled asked done tells new

-- a read is the stop
pub record ReadIsStop (asked : Asked) (tells : Bool) (new : Bench) : Type 0 where
  pub step : ℕ
  pub read : (1 ≤ step) × (step ≤ reads asked)
  pub stop : asked.stop ≡ Some step
  pub filled : IsFilled asked (filled_before asked step) tells new

-- why a range is not copied, and what that leaves
abbrev pub RangeStops : Asked → Bool → Bench → Bench → ℕ → ℕ → Stopped → Type 0
RangeStops asked tells old new before now stopped.Killed = ReadIsStop asked tells new × IsStill old new before now
RangeStops asked tells old new before now stopped.Fault = (Rose before now ⊎ Rose old.faults new.faults) × ReadFails asked (λ step. filled_before asked (step + 1)) tells new
RangeStops asked tells old new before now (stopped.Differs expected found) = ⊥
RangeStops asked tells old new before now stopped.Changed = (lies asked ≡ false) × ReadFails asked (filled_before asked) tells new
RangeStops asked tells old new before now stopped.Memory = ReadFails asked (filled_before asked) tells new
