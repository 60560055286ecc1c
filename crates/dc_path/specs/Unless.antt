-- Answers that are exact but for want of memory.
use Rattle.std.specs.Prelude.{◌≡◌, ◌≢◌, Result, Ok, Err}

-- What was answered is what was expected, unless it is this error, which is free.
abbrev pub GivesUnless : {X E : Type 0} → E → Result X E → Result X E → Type 0
GivesUnless free (Ok x) expected = expected ≡ Ok x
GivesUnless free (Err e) expected = e ≢ free → expected ≡ Err e
