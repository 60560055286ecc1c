-- Why nothing is decided, by kinds.
use Rattle.std.specs.Prelude.{◌≡◌, Bool, true, false, ⊤, Result, Ok, Err}
use Rattle.dc_path.specs.Paths.{Names}
use Rattle.dc_decide.specs.declared.errors.DecideError.{DecideError}
use Rattle.dc_decide.specs.declared.errors.DecideError.TheVariants as decide_error
use Rattle.dc_fs.specs.declared.errors.ReadError.{ReadError}
use Rattle.dc_fs.specs.declared.errors.ReadError.TheVariants as read_error

-- the source failed
abbrev pub is_source_fault : DecideError → Bool
is_source_fault decide_error.Clash = false
is_source_fault decide_error.SourceFault = true
is_source_fault decide_error.TargetFault = false
is_source_fault (decide_error.Changed path) = false
is_source_fault decide_error.Memory = false

-- the target failed
abbrev pub is_target_fault : DecideError → Bool
is_target_fault decide_error.Clash = false
is_target_fault decide_error.SourceFault = false
is_target_fault decide_error.TargetFault = true
is_target_fault (decide_error.Changed path) = false
is_target_fault decide_error.Memory = false

-- the target has the other kind at the place, or a file on the way there
abbrev pub is_clash : DecideError → Bool
is_clash decide_error.Clash = true
is_clash decide_error.SourceFault = false
is_clash decide_error.TargetFault = false
is_clash (decide_error.Changed path) = false
is_clash decide_error.Memory = false

-- a fact of the path at which a store denied what it showed
abbrev pub IfChanged : DecideError → (Names → Type 0) → Type 0
IfChanged decide_error.Clash P = ⊤
IfChanged decide_error.SourceFault P = ⊤
IfChanged decide_error.TargetFault P = ⊤
IfChanged (decide_error.Changed path) P = P path
IfChanged decide_error.Memory P = ⊤

-- a clash exactly where there is one, but that a fault of the target may come first
abbrev pub ClashesIf : {X : Type 0} → Bool → Result X DecideError → Type 0
ClashesIf clash (Ok x) = clash ≡ false
ClashesIf clash (Err decide_error.Clash) = clash ≡ true
ClashesIf clash (Err decide_error.SourceFault) = clash ≡ false
ClashesIf clash (Err decide_error.TargetFault) = ⊤
ClashesIf clash (Err (decide_error.Changed path)) = clash ≡ false
ClashesIf clash (Err decide_error.Memory) = clash ≡ false

-- a store refuses to read what it showed
abbrev pub is_denial : ReadError → Bool
is_denial read_error.Missing = true
is_denial read_error.NotDir = true
is_denial read_error.IsDir = true
is_denial read_error.Short = true
is_denial read_error.Fault = false
is_denial read_error.Memory = false
