-- What a look below a base shows, and how the tests of a report are told (HDFS-7535). d is the base.
use Rattle.std.specs.Prelude.{◌≡◌, ⊤, ℕ, Bool, true, false, not, List, [], ◌∷◌, ◌++◌, Option, Some, None, is_some, IfSome, IfOk, IfErr, OnOk, Result, Ok, Err}
use Rattle.dc_attrs.specs.Trees.{IsTree, Node, Tree, at, is_dir_node}
use Rattle.dc_attrs.specs.declared.shown.Seen.{Seen}
use Rattle.dc_attrs.specs.declared.shown.Seen.TheVariants as seen_as
use Rattle.dc_fs.specs.Views.{OnlyLooks, View}
use Rattle.dc_listing.specs.Roots.{is_absent, last_of}
use Rattle.dc_path.specs.Paths.{Names, front_of}
use Rattle.dc_report.specs.Carrying.{Carry, Place, moved, then_rest}
use Rattle.dc_report.specs.Moves.{stage_name}
use Rattle.dc_replay.specs.TestAnswers.{Answer, FalseAt, Holds, LongAt, Taken, is_long}
use Rattle.dc_replay.specs.Tests.{node_at}
use Rattle.dc_sync.specs.Errors.{is_fault}
use Rattle.dc_sync.specs.Steps.{stepped_on}
use Rattle.dc_sync.specs.declared.errors.SyncError.{SyncError}
use Rattle.dc_sync.specs.declared.errors.SyncError.TheVariants as sync_error

-- ---- a look
-- a directory is shown exactly where there is one
abbrev pub TellsDir : Seen → Bool → Type 0
TellsDir seen_as.Dir dir = dir ≡ true
TellsDir (seen_as.File n) dir = dir ≡ false
TellsDir seen_as.Missing dir = dir ≡ false
TellsDir seen_as.NotDir dir = dir ≡ false

-- it is seen whether something stands, and whether a directory does
pub record Shows (node : Option Node) (shown : Seen) : Type 0 where
  pub there : not (is_absent shown) ≡ is_some node
  pub dir : TellsDir shown (is_dir_node node)

-- below the base the path passes the limits first at this parent with this name
pub record IsLongBy (d p : Names) (parent : Names) (name : List ℕ) : Type 0 where
  pub long : is_long d p ≡ true
  pub first : stepped_on d p ≡ Err (sync_error.TooLong parent name)

-- the path that is looked for, where there is one, passes the limits below the base
abbrev pub is_long_at : Names → Option Names → Bool
is_long_at d None = false
is_long_at d (Some p) = is_long d p

abbrev pub IsLongAt : Names → Option Names → Names → List ℕ → Type 0
IsLongAt d None parent name = ⊥
IsLongAt d (Some p) parent name = IsLongBy d p parent name

-- why a look shows nothing: the path is too long, the store failed, or memory ran out
abbrev pub IsOfLook : Names → Option Names → SyncError → Type 0
IsOfLook d o (sync_error.TooLong parent name) = IsLongAt d o parent name
IsOfLook d o sync_error.Fault = ⊤
IsOfLook d o sync_error.Memory = ⊤
IsOfLook d o (sync_error.NoReport path) = ⊥
IsOfLook d o (sync_error.TooBig path) = ⊥
IsOfLook d o (sync_error.BadReport line) = ⊥
IsOfLook d o (sync_error.NotAtBegin path) = ⊥
IsOfLook d o (sync_error.StageExists path) = ⊥
IsOfLook d o (sync_error.ReportFalse path) = ⊥
IsOfLook d o sync_error.TooMany = ⊥
IsOfLook d o (sync_error.Changed path) = ⊥

-- what a look for a path below the base shows; that nothing stands, where there is no path to look for
pub record Looked (old new : View) (d : Names) (o : Option Names) (result : Result Seen SyncError) : Type 0 where
  pub store : OnlyLooks old new result is_fault
  pub refused : IfErr result (IsOfLook d o)
  pub short : OnOk result (is_long_at d o ≡ false)
  pub shows : IfOk result (λ shown. IfSome old.tree (λ t. IsTree t → Shows (node_at (at t d) o) shown))

-- ---- a test
-- the refusals of a test
abbrev pub is_of_check : SyncError → Bool
is_of_check (sync_error.StageExists path) = true
is_of_check (sync_error.ReportFalse path) = true
is_of_check (sync_error.TooLong parent name) = true
is_of_check sync_error.Fault = true
is_of_check sync_error.Memory = true
is_of_check (sync_error.NoReport path) = false
is_of_check (sync_error.TooBig path) = false
is_of_check (sync_error.BadReport line) = false
is_of_check (sync_error.NotAtBegin path) = false
is_of_check sync_error.TooMany = false
is_of_check (sync_error.Changed path) = false

-- the answer is that a path is too long, which passes the limits first at this parent with this name
pub record TellsLong (d : Names) (answer : Answer) (parent : Names) (name : List ℕ) : Type 0 where
  pub path : Names
  pub answer_is : answer ≡ LongAt path
  pub first : stepped_on d path ≡ Err (sync_error.TooLong parent name)

-- how an answer over the base is told; a fault and want of memory may come in the place of any
abbrev pub Tells : Names → Answer → Result (Unit {0}) SyncError → Type 0
Tells d answer (Ok x) = answer ≡ Holds
Tells d answer (Err (sync_error.StageExists path)) = (answer ≡ Taken) × (path ≡ d ++ stage_name ∷ [])
Tells d answer (Err (sync_error.ReportFalse path)) = answer ≡ FalseAt path
Tells d answer (Err (sync_error.TooLong parent name)) = TellsLong d answer parent name
Tells d answer (Err sync_error.Fault) = ⊤
Tells d answer (Err sync_error.Memory) = ⊤
Tells d answer (Err (sync_error.NoReport path)) = ⊥
Tells d answer (Err (sync_error.TooBig path)) = ⊥
Tells d answer (Err (sync_error.BadReport line)) = ⊥
Tells d answer (Err (sync_error.NotAtBegin path)) = ⊥
Tells d answer (Err sync_error.TooMany) = ⊥
Tells d answer (Err (sync_error.Changed path)) = ⊥

-- a test only looks, its refusals are those of tests, and it tells its answer on the tree below the base
pub record Tests (old new : View) (d : Names) (answer : Tree → Answer) (result : Result (Unit {0}) SyncError) : Type 0 where
  pub store : OnlyLooks old new result is_fault
  pub kind : IfErr result (λ e. is_of_check e ≡ true)
  pub told : IfSome old.tree (λ t. IsTree t → Tells d (answer (at t d)) result)

-- the same of a test that looks at no store
pub record TestsPaths (d : Names) (answer : Answer) (result : Result (Unit {0}) SyncError) : Type 0 where
  pub kind : IfErr result (λ e. is_of_check e ≡ true)
  pub no_fault : IfErr result (λ e. is_fault e ≡ false)
  pub tells : Tells d answer result

-- ---- the path that may have gone to a new path, the rename to it left out
-- by the map from new paths to old ones
abbrev pub source_beside : List Carry → Names → Option Names
source_beside cs [] = Some []
source_beside cs (x ∷ p) = then_rest (moved cs (front_of (x ∷ p))) (last_of (x ∷ p))

-- ---- a rename
-- an item with its old and its new path; its number in the stage is of no account to the tests
abbrev pub renamed : Names → Names → Place
renamed old new = record { new = new; old = old; label = 0 }

-- ---- tests of what need not be there
-- the answer for a path, where there is one
abbrev pub if_there : (Names → Answer) → Option Names → Answer
if_there test None = Holds
if_there test (Some p) = test p
