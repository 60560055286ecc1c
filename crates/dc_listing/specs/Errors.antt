-- Why there is no listing, by kinds.
use Rattle.std.specs.Prelude.{◌≡◌, ℕ, Bool, true, false, List, ⊤, [], ◌∷◌, ◌++◌, Result, Ok, Err, cond}
use Rattle.dc_path.specs.Paths.{Names, fits}
use Rattle.dc_listing.specs.declared.item.ListError.{ListError}
use Rattle.dc_listing.specs.declared.item.ListError.TheVariants as list_error

-- the store failed
abbrev pub is_fault : ListError → Bool
is_fault (list_error.NoSource path) = false
is_fault (list_error.Duplicate rel first second) = false
is_fault list_error.TooMany = false
is_fault (list_error.TooLong parent name) = false
is_fault (list_error.Changed path) = false
is_fault list_error.Fault = true
is_fault list_error.Memory = false

-- a fact of the path that passes the limits, told by its parent and its last name
abbrev pub IfTooLong : ListError → (Names → List ℕ → Type 0) → Type 0
IfTooLong (list_error.NoSource path) P = ⊤
IfTooLong (list_error.Duplicate rel first second) P = ⊤
IfTooLong list_error.TooMany P = ⊤
IfTooLong (list_error.TooLong parent name) P = P parent name
IfTooLong (list_error.Changed path) P = ⊤
IfTooLong list_error.Fault P = ⊤
IfTooLong list_error.Memory P = ⊤

-- the refusals of sources
abbrev pub is_of_roots : ListError → Bool
is_of_roots (list_error.NoSource path) = true
is_of_roots (list_error.Duplicate rel first second) = false
is_of_roots list_error.TooMany = false
is_of_roots (list_error.TooLong parent name) = true
is_of_roots (list_error.Changed path) = false
is_of_roots list_error.Fault = true
is_of_roots list_error.Memory = true

-- a path with a name more, or that path and the name where it passes the limits
abbrev pub stepped : Names → List ℕ → Result Names ListError
stepped path name = cond (fits (path ++ name ∷ [])) (Ok (path ++ name ∷ [])) (Err (list_error.TooLong path name))

-- the first path that passes the limits, told by its parent and its last name
pub record Passes (parent : Names) (name : List ℕ) : Type 0 where
  pub within : fits parent ≡ true
  pub past : fits (parent ++ name ∷ []) ≡ false

-- the store denied what it showed
abbrev pub IsChanged : ListError → Type 0
IsChanged (list_error.NoSource path) = ⊥
IsChanged (list_error.Duplicate rel first second) = ⊥
IsChanged list_error.TooMany = ⊥
IsChanged (list_error.TooLong parent name) = ⊥
IsChanged (list_error.Changed path) = ⊤
IsChanged list_error.Fault = ⊥
IsChanged list_error.Memory = ⊥

-- a walk's refusals
abbrev pub is_of_walk : ListError → Bool
is_of_walk (list_error.NoSource path) = false
is_of_walk (list_error.Duplicate rel first second) = false
is_of_walk list_error.TooMany = true
is_of_walk (list_error.TooLong parent name) = true
is_of_walk (list_error.Changed path) = true
is_of_walk list_error.Fault = true
is_of_walk list_error.Memory = true

-- the refusals of a listing
abbrev pub is_of_list : ListError → Bool
is_of_list (list_error.NoSource path) = false
is_of_list (list_error.Duplicate rel first second) = true
is_of_list list_error.TooMany = true
is_of_list (list_error.TooLong parent name) = true
is_of_list (list_error.Changed path) = true
is_of_list list_error.Fault = true
is_of_list list_error.Memory = true

-- a look's refusals: they name no limit of a path
abbrev pub is_of_look : ListError → Bool
is_of_look (list_error.NoSource path) = false
is_of_look (list_error.Duplicate rel first second) = false
is_of_look list_error.TooMany = true
is_of_look (list_error.TooLong parent name) = false
is_of_look (list_error.Changed path) = true
is_of_look list_error.Fault = true
is_of_look list_error.Memory = true

-- the refusals of a directory's names
abbrev pub is_of_names : ListError → Bool
is_of_names (list_error.NoSource path) = false
is_of_names (list_error.Duplicate rel first second) = false
is_of_names list_error.TooMany = false
is_of_names (list_error.TooLong parent name) = false
is_of_names (list_error.Changed path) = true
is_of_names list_error.Fault = true
is_of_names list_error.Memory = true

-- the refusals of an item more
abbrev pub is_of_add : ListError → Bool
is_of_add (list_error.NoSource path) = false
is_of_add (list_error.Duplicate rel first second) = false
is_of_add list_error.TooMany = true
is_of_add (list_error.TooLong parent name) = false
is_of_add (list_error.Changed path) = false
is_of_add list_error.Fault = false
is_of_add list_error.Memory = true
