-- What a store keeps besides its tree and its counts of looks and faults.
use Rattle.std.specs.Prelude.{◌≡◌, ℕ, ◌+◌, ◌-◌, ◌≤◌, List, [], ◌∷◌, ◌++◌, length, Option, IfSome, Result, Ok, Err}
use Rattle.dc_path.specs.Paths.{Names}
use Rattle.dc_fs.specs.Causes.{counted, raised}
use Rattle.dc_fs.specs.Temporaries.{all_told}
use Rattle.dc_fs.specs.declared.target.Landed.{Landed}
use Rattle.dc_fs.specs.declared.target.Mode.{Mode}
use Rattle.dc_fs.specs.declared.errors.WriteError.{WriteError}
use Rattle.dc_fs.specs.declared.errors.WriteError.TheVariants as write_error

-- of a target: what has landed, how many temporaries there are and were created, how many desks are out, and how often desks
-- and renames have failed; of a source: how often its forks have failed
pub record Rest : Type 0 where
  pub landed : List Landed
  pub scratch : ℕ
  pub created : ℕ
  pub desks_out : ℕ
  pub desk_faults : ℕ
  pub rename_faults : ℕ
  pub fork_faults : ℕ

-- before anything was done: nothing has landed, no temporary was created, no desk is out, and nothing has failed
abbrev pub nothing_kept : Rest
nothing_kept = record { landed = []; scratch = 0; created = 0; desks_out = 0; desk_faults = 0; rename_faults = 0; fork_faults = 0 }

abbrev pub with_scratch : ℕ → Rest → Rest
with_scratch scratch rest = record rest { scratch = scratch }

-- after one more desk was opened
abbrev pub with_desk_out : Rest → Rest
with_desk_out rest = record rest { desks_out = rest.desks_out + 1 }

-- after a desk came back with so many temporaries and faults
abbrev pub rejoined : ℕ → ℕ → Rest → Rest
rejoined made faults rest = record rest {
  scratch = counted rest.scratch made;
  created = counted rest.created made;
  desks_out = rest.desks_out - 1;
  desk_faults = counted rest.desk_faults faults;
}

-- after a fork came back with so many faults of its own and of its forks
abbrev pub rejoined_fork : ℕ → ℕ → Rest → Rest
rejoined_fork faults fork_faults rest = record rest { fork_faults = counted rest.fork_faults (faults + fork_faults) }

-- after a rename: one that is a fault is counted
abbrev pub after_rename : {X : Type 0} → Result X WriteError → Rest → Rest
after_rename (Ok x) rest = rest
after_rename (Err write_error.Fault) rest = record rest { rename_faults = raised rest.rename_faults }
after_rename (Err e) rest = rest

-- after so many temporaries have landed as this
abbrev pub with_landed : Landed → ℕ → Rest → Rest
with_landed landed parts rest = record rest { landed = rest.landed ++ landed ∷ []; scratch = rest.scratch - parts }

-- the parts have landed: once, with as many bytes as they have
pub record Lands (parts : List (Option (List ℕ))) (bytes : ℕ) (path : Names) (mode : Mode) (old new : Rest) : Type 0 where
  pub landed : new ≡ with_landed (record { path = path; mode = mode; bytes = bytes }) (length parts) old
  pub told : IfSome (all_told parts) (λ told. bytes ≡ length told)

-- a sweep that stops has removed some temporaries or none
abbrev pub SweepStops : Rest → Rest → Type 0
SweepStops old new = (n : ℕ) × (n ≤ old.scratch) × (new ≡ with_scratch n old)
