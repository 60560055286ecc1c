-- Why it is not known what goes, by kinds.
use Rattle.std.specs.Prelude.{◌≡◌, ℕ, ⊤, Bool, true, false, cond, List, [], ◌∷◌, ◌++◌, Result, Ok, Err}
use Rattle.dc_path.specs.Paths.{Names, fits}
use Rattle.dc_attrs.specs.declared.shown.Seen.{Seen}
use Rattle.dc_attrs.specs.declared.shown.Seen.TheVariants as seen_as
use Rattle.dc_missing.specs.declared.error.DeleteError.{DeleteError}
use Rattle.dc_missing.specs.declared.error.DeleteError.TheVariants as delete_error

-- the target failed
abbrev pub is_fault : DeleteError → Bool
is_fault delete_error.TooMany = false
is_fault (delete_error.TooLong parent name) = false
is_fault (delete_error.Changed path) = false
is_fault delete_error.Fault = true
is_fault delete_error.Memory = false

-- a fact of the path that passes the limits, told by its parent and its last name
abbrev pub IfTooLong : DeleteError → (Names → List ℕ → Type 0) → Type 0
IfTooLong delete_error.TooMany P = ⊤
IfTooLong (delete_error.TooLong parent name) P = P parent name
IfTooLong (delete_error.Changed path) P = ⊤
IfTooLong delete_error.Fault P = ⊤
IfTooLong delete_error.Memory P = ⊤

-- a fact of a target that denied what it showed
abbrev pub IfChanged : DeleteError → Type 0 → Type 0
IfChanged delete_error.TooMany P = ⊤
IfChanged (delete_error.TooLong parent name) P = ⊤
IfChanged (delete_error.Changed path) P = P
IfChanged delete_error.Fault P = ⊤
IfChanged delete_error.Memory P = ⊤

-- the refusals of a look
abbrev pub is_of_look : DeleteError → Bool
is_of_look delete_error.TooMany = false
is_of_look (delete_error.TooLong parent name) = false
is_of_look (delete_error.Changed path) = true
is_of_look delete_error.Fault = true
is_of_look delete_error.Memory = true

-- a path with a name more, or that path and the name where it passes the limits
abbrev pub stepped : Names → List ℕ → Result Names DeleteError
stepped path name = cond (fits (path ++ name ∷ [])) (Ok (path ++ name ∷ [])) (Err (delete_error.TooLong path name))

-- the refusals of a look at a path with a name more
abbrev pub IsOfChild : DeleteError → Names → List ℕ → Type 0
IsOfChild delete_error.TooMany path x = ⊥
IsOfChild (delete_error.TooLong parent name) path x = (path ≡ parent) × (x ≡ name) × (fits (parent ++ name ∷ []) ≡ false)
IsOfChild (delete_error.Changed other) path x = ⊤
IsOfChild delete_error.Fault path x = ⊤
IsOfChild delete_error.Memory path x = ⊤

-- a look shows a directory
abbrev pub shows_dir : Seen → Bool
shows_dir seen_as.Missing = false
shows_dir seen_as.NotDir = false
shows_dir seen_as.Dir = true
shows_dir (seen_as.File n) = false
