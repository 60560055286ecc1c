-- Words for private functions that read a line.
use Rattle.std.specs.Prelude.{◌≡◌, ◌≢◌, Result, Ok, Err}
use Rattle.dc_attrs.specs.declared.lines.LineError.{LineError}
use Rattle.dc_attrs.specs.declared.lines.LineError.TheVariants.{Memory}

-- What was read is the value that has this spelling, and where there is such a value it was read, unless memory ran out.
abbrev pub ReadsBack : {X : Type 0} → (X → Type 0) → Result X LineError → Type 0
ReadsBack {X} Spells (Ok x) = (y : X) → Spells y → x ≡ y
ReadsBack {X} Spells (Err e) = e ≢ Memory → (y : X) → Spells y → ⊥
