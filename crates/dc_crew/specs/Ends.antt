-- Why the pieces of a copy are not all copied.
use Rattle.std.specs.Prelude.{◌<◌, Bool, true, false, ⊤, List, length}
use Rattle.dc_fs.specs.declared.errors.DeskError.{DeskError}
use Rattle.dc_fs.specs.declared.errors.DeskError.TheVariants as desk_error
use Rattle.dc_crew.specs.Jobs.{Job, IsEnd}
use Rattle.dc_crew.specs.Advances.{EndsWaves}
use Rattle.dc_crew.specs.declared.crew.End.TheVariants as ends
use Rattle.dc_crew.specs.declared.halts.Halt.TheVariants as halts
use Rattle.dc_crew.specs.declared.states.State.{State}
use Rattle.dc_crew.specs.declared.copy.CopyError.{CopyError}
use Rattle.dc_crew.specs.declared.copy.CopyError.TheVariants.{Fault, Halted}

-- what the refusal of a desk means for the copy
abbrev pub error_of : DeskError → CopyError
error_of desk_error.Fault = Fault
error_of desk_error.Memory = Halted halts.Memory

-- a desk could not be opened, where the first is known; or the waves ended, with a piece that is given up where the second is known
abbrev pub EndsAs : Job → List State → Type 0 → Type 0 → CopyError → Type 0
EndsAs job states refused known Fault = refused
EndsAs job states refused known (Halted h) = EndsWaves job states known h

-- the same, where nothing is told of what became of each piece
abbrev pub EndsCopy : Job → Type 0 → Type 0 → CopyError → Type 0
EndsCopy job refused known Fault = refused
EndsCopy job refused known (Halted halts.Memory) = ⊤
EndsCopy job refused known (Halted (halts.Differs p expected found)) = IsEnd job p (ends.Differs expected found)
EndsCopy job refused known (Halted (halts.Changed p)) = IsEnd job p ends.Changed
EndsCopy job refused known (Halted (halts.Failed p)) = (p < length job.pieces) × known

-- a store or a desk has failed
abbrev pub is_failure : CopyError → Bool
is_failure Fault = true
is_failure (Halted halts.Memory) = false
is_failure (Halted (halts.Differs p expected found)) = false
is_failure (Halted (halts.Changed p)) = false
is_failure (Halted (halts.Failed p)) = true
