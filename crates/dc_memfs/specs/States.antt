-- Stores and desks in memory, and what a call makes of them.
use Rattle.std.specs.Prelude.{◌≡◌, ◌≢◌, ◌&&◌, ◌+◌, ℕ, Bool, true, cond, List, [], length, Option, Some, None, Result, Ok, Err, OnOk, IfErr, IsErrOf}
use Rattle.std.specs.Option.{is_none}
use Rattle.dc_attrs.specs.Trees.{Tree}
use Rattle.dc_attrs.specs.declared.refusals.TreeError.{TreeError}
use Rattle.dc_attrs.specs.declared.refusals.TreeError.TheVariants as tree_error
use Rattle.dc_tree.specs.Arena.{tree_of}
use Rattle.dc_tree.specs.declared.tree.MemTree.{MemTree}
use Rattle.dc_fs.specs.Answers.{IfFault, WriteAnswers, is_refusal, write_error_of}
use Rattle.dc_fs.specs.Causes.{counted, raised, HasCause, RisesByOne, steady_at}
use Rattle.dc_fs.specs.Rest.{Rest}
use Rattle.dc_fs.specs.declared.errors.WriteError.{WriteError}
use Rattle.dc_fs.specs.declared.errors.WriteError.TheVariants as write_error
use Rattle.dc_memfs.specs.declared.fails.Which.{Which}
use Rattle.dc_memfs.specs.declared.fails.Fail.{Fail}
use Rattle.dc_memfs.specs.declared.calls.Calls.{Calls}
use Rattle.dc_memfs.specs.declared.calls.Fate.{Fate}
use Rattle.dc_memfs.specs.declared.calls.Fate.TheVariants.{Goes, Fails, FailsDone}
use Rattle.dc_memfs.specs.Failing.{no_calls, after_call, next_fate, fails, is_steady, FailsByList}

-- a source: its tree, the calls that are to fail on it and on its forks, the calls so far, and its other counts
pub record SourceState : Type 0 where
  pub tree : MemTree
  pub own : List Fail
  pub forks : List Fail
  pub calls : Calls
  pub looks : ℕ
  pub fork_faults : ℕ

-- a target: its tree, the calls that are to fail on it and on its desks, the calls so far, its looks, and what it keeps besides
pub record TargetState : Type 0 where
  pub tree : MemTree
  pub own : List Fail
  pub desks : List Fail
  pub calls : Calls
  pub looks : ℕ
  pub rest : Rest

-- a desk: the bytes at work, how many temporaries were created, the calls that are to fail, and the calls so far
pub record DeskState : Type 0 where
  pub at_work : Option (List ℕ)
  pub made : ℕ
  pub fails : List Fail
  pub calls : Calls

-- how many bytes are at work
abbrev pub work_size : Option (List ℕ) → ℕ
work_size None = 0
work_size (Some bytes) = length bytes

-- a source after a call of this kind
abbrev pub source_called : Which → SourceState → SourceState
source_called which s = record s { calls = after_call s.own which s.calls; looks = raised s.looks }

-- a source on which nothing was done yet, and on which and on whose forks these calls fail
abbrev pub new_source : MemTree → List Fail → List Fail → SourceState
new_source tree own forks = record { tree = tree; own = own; forks = forks; calls = no_calls; looks = 0; fork_faults = 0 }

-- a source to which this fork has come back: the faults of the fork and of its own forks are counted
abbrev pub with_fork : SourceState → SourceState → SourceState
with_fork fork s = record s { fork_faults = counted s.fork_faults (fork.calls.faults + fork.fork_faults) }

-- a target after a call of this kind, but for what the call changes
abbrev pub target_called : Which → TargetState → TargetState
target_called which s = record s { calls = after_call s.own which s.calls; looks = raised s.looks }

-- a desk after a call of this kind, but for what the call changes
abbrev pub desk_called : Which → DeskState → DeskState
desk_called which s = record s { calls = after_call s.fails which s.calls }

-- a target with this tree
abbrev pub with_tree : MemTree → TargetState → TargetState
with_tree tree s = record s { tree = tree }

-- a target that keeps this besides its tree
abbrev pub with_rest : Rest → TargetState → TargetState
with_rest rest s = record s { rest = rest }

-- a desk with this at work
abbrev pub with_work : Option (List ℕ) → DeskState → DeskState
with_work at_work s = record s { at_work = at_work }

-- a desk with one temporary more, which is at work and empty
abbrev pub with_begun : DeskState → DeskState
with_begun s = record s { at_work = Some []; made = raised s.made }

-- a desk on which nothing was done yet, and on which these calls fail
abbrev pub new_desk : List Fail → DeskState
new_desk fails = record { at_work = None; made = 0; fails = fails; calls = no_calls }

-- no call on the source, or on a fork of it, fails
abbrev pub is_steady_source : SourceState → Bool
is_steady_source s = is_steady s.own && is_steady s.forks

-- no call on the target, or on a desk of it, fails
abbrev pub is_steady_target : TargetState → Bool
is_steady_target s = is_steady s.own && is_steady s.desks

-- ---- calls by the lists of their objects
-- a call of this kind on a source
abbrev pub SourceFails : {T E : Type 0} → Which → SourceState → SourceState → Result T E → E → Type 0
SourceFails which old new result fault = FailsByList old.own which (is_steady_source old) old.calls new.calls result fault

-- a call of this kind on a target
abbrev pub TargetFails : {T E : Type 0} → Which → TargetState → TargetState → Result T E → E → Type 0
TargetFails which old new result fault = FailsByList old.own which (is_steady_target old) old.calls new.calls result fault

-- a call of this kind on a desk
abbrev pub DeskFails : {T E : Type 0} → Which → DeskState → DeskState → Result T E → E → Type 0
DeskFails which old new result fault = FailsByList old.fails which (is_steady old.fails) old.calls new.calls result fault

-- ---- changes of a tree by calls that may fail
-- the tree after a call that fails: changed where the call makes its change and nothing refuses it
abbrev pub after_fault : Fate → Option TreeError → (Tree → Tree) → Tree → Tree
after_fault Goes why change t = t
after_fault Fails why change t = t
after_fault FailsDone why change t = cond (is_none why) (change t) t

-- what a call answers that has tried its change
abbrev pub answer_by : {X : Type 0} → Fate → Result X TreeError → Result X WriteError
answer_by Goes (Ok x) = Ok x
answer_by Goes (Err e) = Err (write_error_of e)
answer_by fate (Ok x) = Err write_error.Fault
answer_by fate (Err tree_error.Memory) = Err write_error.Memory
answer_by fate (Err e) = Err write_error.Fault

-- a change by the fate of its call: a fault exactly where it fails, but that want of memory may come in the place of a change
abbrev pub FailsBy : {X : Type 0} → Fate → Result X WriteError → Type 0
FailsBy fate (Ok x) = fate ≡ Goes
FailsBy fate (Err write_error.Fault) = fails fate ≡ true
FailsBy fate (Err write_error.Memory) = fate ≢ Fails
FailsBy fate (Err e) = fate ≡ Goes

-- the tree before and after a change, by the fate of its call and the refusal that is due
pub record ChangesBy {X : Type 0} (fate : Fate) (why : Option TreeError) (change : Tree → Tree) (old new : Tree) (result : Result X WriteError) : Type 0 where
  pub named : FailsBy fate result
  pub done : OnOk result (new ≡ change old)
  pub stopped : IfErr result (λ e. IfFault e (new ≡ after_fault fate why change old) (new ≡ old))
  pub answers : WriteAnswers why result

-- a change by a call of this kind on a target
abbrev pub TargetChanges : {X : Type 0} → Which → Option TreeError → (Tree → Tree) → TargetState → TargetState → Result X WriteError → Type 0
TargetChanges which why change old new result = ChangesBy (next_fate old.own which old.calls) why change (tree_of old.tree) (tree_of new.tree) result

-- the counts of a target before and after a change, by its answer
pub record CountsChange {X : Type 0} (old new : TargetState) (result : Result X WriteError) : Type 0 where
  pub looks : RisesByOne old.looks new.looks
  pub cause : HasCause old.calls.faults new.calls.faults result write_error.Fault
  pub calm : steady_at (is_steady_target old) new.calls.faults ≡ steady_at (is_steady_target old) old.calls.faults
  pub never : is_steady_target old ≡ true → IsErrOf result write_error.Fault → ⊥
  pub refused : IfErr result (λ e. is_refusal e ≡ true → new.calls.faults ≡ old.calls.faults)
