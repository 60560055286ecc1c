-- Answers in a row, of which the first refusal decides.
use Rattle.std.specs.Prelude.{◌≡◌, Bool, true, Result, Ok, Err}

-- the same answer, where a refusal has another name
abbrev pub refused_as : {A E F : Type 0} → (E → F) → Result A E → Result A F
refused_as name (Ok x) = Ok x
refused_as name (Err e) = Err (name e)

-- What was answered is what was expected, but for the refusals that nothing decides.
abbrev pub Answers : {A E : Type 0} → (E → Bool) → Result A E → Result A E → Type 0
Answers is_decided (Ok x) expected = expected ≡ Ok x
Answers is_decided (Err e) expected = is_decided e ≡ true → expected ≡ Err e
