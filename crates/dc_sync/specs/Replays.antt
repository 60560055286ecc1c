-- What the moves of a report leave of a target, where they are all made and where they stop (HDFS-7535).
use Rattle.std.specs.Prelude.{◌≡◌, ◌⊎◌, ℕ, ◌+◌, ◌<◌, ◌≤◌, true, List, length, take, Option, Some, IfSome, Result, Ok, Err, slice_get}
use Rattle.std.specs.Option.{option_map}
use Rattle.dc_path.specs.Paths.{Names}
use Rattle.dc_attrs.specs.Trees.{Tree}
use Rattle.dc_fs.specs.Answers.{is_refusal}
use Rattle.dc_fs.specs.Causes.{HasCause, Rose, steady_at}
use Rattle.dc_fs.specs.Rest.{Rest}
use Rattle.dc_fs.specs.Views.{View}
use Rattle.dc_fs.specs.declared.errors.WriteError.{WriteError}
use Rattle.dc_fs.specs.declared.errors.WriteError.TheVariants as write_error
use Rattle.dc_report.specs.declared.entries.Move.{Move}
use Rattle.dc_report.specs.declared.entries.Move.TheVariants.{Clear, Make, Shift}
use Rattle.dc_replay.specs.Replaying.{NoneRefused}
use Rattle.dc_replay.specs.Steps.{after}
use Rattle.dc_sync.specs.declared.replaying.Replayed.{Replayed}
use Rattle.dc_sync.specs.declared.replaying.Replayed.TheVariants as replayed

-- the first path of a move
abbrev pub moved_path : Move → Names
moved_path (Make p) = p
moved_path (Shift a b) = a
moved_path (Clear p) = p

-- ---- the tree
-- so many moves are made, and not all
pub record IsAfter (moves : List Move) (done : ℕ) (old new : Option Tree) : Type 0 where
  pub fewer : done < length moves
  pub tree : new ≡ option_map (after (take done moves)) old

-- so many moves are made, or one more
pub record IsAfterOrNext (moves : List Move) (done : ℕ) (old new : Option Tree) : Type 0 where
  pub fewer : done < length moves
  pub tree : (new ≡ option_map (after (take done moves)) old) ⊎ (new ≡ option_map (after (take (done + 1) moves)) old)

-- the move after so many is refused, which the tree of the target decides
pub record IsDenied (moves : List Move) (path : Names) (done : ℕ) (old : Option Tree) : Type 0 where
  pub move : Move
  pub next : slice_get moves done ≡ Some move
  pub first : path ≡ moved_path move
  pub refused : IfSome old (λ t. NoneRefused t moves → ⊥)

-- what the moves leave of the tree
abbrev pub Leaves : List Move → Option Tree → Option Tree → Replayed → Type 0
Leaves moves old new replayed.Done = new ≡ option_map (after moves) old
Leaves moves old new (replayed.Stopped done) = IsAfterOrNext moves done old new
Leaves moves old new (replayed.Changed path done) = IsAfter moves done old new × IsDenied moves path done old
Leaves moves old new (replayed.Memory done) = IsAfter moves done old new

-- ---- what is kept besides
-- the same, but that a rename more has failed, or more
pub record FailsMore (old new : Rest) : Type 0 where
  pub rest : new ≡ record old { rename_faults = new.rename_faults }
  pub later : old.rename_faults ≤ new.rename_faults

abbrev pub KeepsRest : Replayed → Rest → Rest → Type 0
KeepsRest replayed.Done old new = new ≡ old
KeepsRest (replayed.Stopped done) old new = FailsMore old new
KeepsRest (replayed.Changed path done) old new = new ≡ old
KeepsRest (replayed.Memory done) old new = new ≡ old

-- all are made only where no fault was counted, and the target has failed only where the count rose
abbrev pub HasReason : Replayed → ℕ → ℕ → Type 0
HasReason replayed.Done before now = now ≡ before
HasReason (replayed.Stopped done) before now = Rose before now
HasReason (replayed.Changed path done) before now = before ≤ now
HasReason (replayed.Memory done) before now = before ≤ now

-- all that a target keeps besides its tree stays, but for failed renames
pub record Keeps (old new : View) (result : Replayed) : Type 0 where
  pub rest : KeepsRest result old.rest new.rest
  pub later : old.faults ≤ new.faults
  pub reason : HasReason result old.faults new.faults
  pub calm : steady_at new.steady new.faults ≡ steady_at old.steady old.faults

-- ---- one move
abbrev pub KeepsAt : {X : Type 0} → Result X WriteError → Rest → Rest → Type 0
KeepsAt (Ok x) old new = new ≡ old
KeepsAt (Err write_error.Fault) old new = FailsMore old new
KeepsAt (Err e) old new = new ≡ old

pub record KeepsIn {X : Type 0} (old new : View) (result : Result X WriteError) : Type 0 where
  pub rest : KeepsAt result old.rest new.rest
  pub cause : HasCause old.faults new.faults result write_error.Fault
  pub calm : steady_at new.steady new.faults ≡ steady_at old.steady old.faults

-- what is answered where the target refused a move, after so many others
abbrev pub Stops : WriteError → Move → ℕ → Replayed → Type 0
Stops error one count replayed.Done = ⊥
Stops error one count (replayed.Stopped done) = (done ≡ count) × (error ≡ write_error.Fault)
Stops error one count (replayed.Changed path done) = (done ≡ count) × (path ≡ moved_path one) × (is_refusal error ≡ true)
Stops error one count (replayed.Memory done) = (done ≡ count) × (error ≡ write_error.Fault → ⊥)
