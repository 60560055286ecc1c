-- Paths with names more, and which of them passes the limits (POSIX.1, PATH_MAX).
use Rattle.std.specs.Prelude.{ℕ, cond, List, [], ◌∷◌, ◌++◌, Result, Ok, Err}
use Rattle.dc_path.specs.Paths.{Names, fits}
use Rattle.dc_listing.specs.Roots.{and_then}
use Rattle.dc_sync.specs.declared.errors.SyncError.{SyncError}
use Rattle.dc_sync.specs.declared.errors.SyncError.TheVariants as sync_error

-- a path with a name more, or its refusal where it passes the limits
abbrev pub stepped : Names → List ℕ → Result Names SyncError
stepped path name = cond (fits (path ++ name ∷ [])) (Ok (path ++ name ∷ [])) (Err (sync_error.TooLong path name))

-- a path with names more, or the refusal of the first of them that passes the limits
abbrev pub stepped_on : Names → Names → Result Names SyncError
stepped_on path [] = Ok path
stepped_on path (name ∷ names) = and_then (stepped path name) (λ longer. stepped_on longer names)
