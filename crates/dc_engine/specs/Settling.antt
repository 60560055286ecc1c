-- What is decided of what is listed before anything is copied: the plan, what of the target goes, and the pieces. The first
-- refusal decides (the order is this project's).
use Rattle.std.specs.Prelude.{◌≡◌, ◌⊎◌, ◌↔◌, ◌<◌, ◌≤◌, ◌+◌, ◌*◌, ℕ, Bool, true, false, cond, not, ◌&&◌, nat_eq, List, [], ◌++◌, map, length, All, Option, None, Result, Ok, Err, IfSome}
use Rattle.std.specs.List.{list_all, list_any}
use Rattle.dc_path.specs.Found.{has_path}
use Rattle.dc_path.specs.Order.{is_ascending}
use Rattle.dc_path.specs.Paths.{Names}
use Rattle.dc_attrs.specs.Trees.{Tree, IsThere}
use Rattle.dc_fs.specs.Views.{BothTell, BothTrees}
use Rattle.dc_options.specs.Settings.{Settings}
use Rattle.dc_listing.specs.Entries.{Entry}
use Rattle.dc_listing.specs.Errors.{Passes}
use Rattle.dc_listing.specs.Walking.{is_below}
use Rattle.dc_listing.specs.Walks.{IsShown}
use Rattle.dc_decide.specs.Plans.{Decisions}
use Rattle.dc_pieces.specs.Cutting.{plan_pieces}
use Rattle.dc_pieces.specs.Pieces.{most_pieces}
use Rattle.dc_pieces.specs.declared.cutting.PieceError.{PieceError}
use Rattle.dc_pieces.specs.declared.cutting.PieceError.TheVariants as piece_error
use Rattle.dc_plan.specs.Planning.{item_of, clashes_in, IsAsked, IsOutByClash, IsDecidedOn, IsFirstClash}
use Rattle.dc_plan.specs.declared.planning.PlanError.{PlanError}
use Rattle.dc_plan.specs.declared.planning.PlanError.TheVariants as plan_error
use Rattle.dc_missing.specs.Finding.{IfTree}
use Rattle.dc_missing.specs.Limits.{max_paths}
use Rattle.dc_missing.specs.Missing.{is_place, Goes, covers, are_apart, leads_below}
use Rattle.dc_missing.specs.Walks.{Meets, Stops}
use Rattle.dc_missing.specs.declared.error.DeleteError.{DeleteError}
use Rattle.dc_missing.specs.declared.error.DeleteError.TheVariants as delete_error
use Rattle.dc_engine.specs.Outcomes.{is_decided, is_changed, is_source_fault, is_target_fault, is_items, IfTooLong}
use Rattle.dc_engine.specs.declared.outcome.Outcome.{Outcome}
use Rattle.dc_engine.specs.declared.outcome.Outcome.TheVariants as outcome
use Rattle.dc_engine.specs.declared.outcome.Phase.{Phase}
use Rattle.dc_engine.specs.declared.outcome.Phase.TheVariants as phase_of
use Rattle.dc_engine.specs.declared.outcome.TooManyOf.TheVariants as too_many
use Rattle.dc_engine.specs.declared.settling.Settled.{Settled}

-- ---- how refusals end a run
abbrev pub outcome_of_plan : PlanError → Outcome
outcome_of_plan (plan_error.Clash rel) = outcome.Clash rel
outcome_of_plan plan_error.SourceFault = outcome.SourceFault
outcome_of_plan plan_error.TargetFault = outcome.TargetFault phase_of.Decide 0
outcome_of_plan (plan_error.Changed path) = outcome.Changed path
outcome_of_plan plan_error.Memory = outcome.Memory

abbrev pub outcome_of_delete : DeleteError → Outcome
outcome_of_delete delete_error.TooMany = outcome.TooMany too_many.Missing
outcome_of_delete (delete_error.TooLong parent name) = outcome.TooLong parent name
outcome_of_delete (delete_error.Changed path) = outcome.Changed path
outcome_of_delete delete_error.Fault = outcome.TargetFault phase_of.Decide 0
outcome_of_delete delete_error.Memory = outcome.Memory

abbrev pub outcome_of_piece : PieceError → Outcome
outcome_of_piece piece_error.TooMany = outcome.TooMany too_many.Pieces
outcome_of_piece piece_error.Memory = outcome.Memory

-- what the target has at the places of items is looked at
abbrev pub is_decide : Phase → Bool
is_decide phase_of.Check = false
is_decide phase_of.Replay = false
is_decide phase_of.Decide = true
is_decide phase_of.Copy = false
is_decide phase_of.Dirs = false
is_decide phase_of.Land = false
is_decide phase_of.Sweep = false
is_decide phase_of.FileAttrs = false
is_decide phase_of.Delete = false
is_decide phase_of.DirAttrs = false
is_decide phase_of.Move = false

-- how a settling may end that settles nothing: the target fails where it is looked at alone, after nothing
abbrev pub is_of_settle : Outcome → Bool
is_of_settle outcome.Committed = false
is_of_settle (outcome.CommittedWithout paths) = false
is_of_settle (outcome.BadOption error) = false
is_of_settle (outcome.NoFile path) = false
is_of_settle (outcome.TooBig path) = false
is_of_settle (outcome.BadList line) = false
is_of_settle (outcome.BadPattern line) = false
is_of_settle (outcome.BigPattern line) = false
is_of_settle (outcome.BadPlan line) = false
is_of_settle (outcome.BadReport line) = false
is_of_settle (outcome.NoReport path) = false
is_of_settle (outcome.NoSource path) = false
is_of_settle (outcome.BadTarget kind) = false
is_of_settle (outcome.Duplicate rel first second) = false
is_of_settle (outcome.TooMany what) = not (is_items what)
is_of_settle (outcome.TooLong parent name) = true
is_of_settle (outcome.Clash path) = true
is_of_settle (outcome.NotAtBegin path) = false
is_of_settle (outcome.StageExists path) = false
is_of_settle (outcome.ReportFalse path) = false
is_of_settle (outcome.WorkExists path) = false
is_of_settle outcome.SourceFault = true
is_of_settle (outcome.TargetFault phase done) = is_decide phase && nat_eq done 0
is_of_settle (outcome.CopyFailed path) = false
is_of_settle (outcome.Differs path expected found) = false
is_of_settle (outcome.Changed path) = true
is_of_settle (outcome.Uncertain path) = false
is_of_settle outcome.Memory = true
is_of_settle outcome.Unbuilt = false

-- ---- the plan
-- under the base each of these items is decided on
pub record IsPlanned (o : Settings) (base : Names) (items : List Entry) (source target : Option Tree) (plan : Decisions) : Type 0 where
  pub under : plan.base ≡ base
  pub entries : map item_of plan.items ≡ items
  pub asked : All (IsAsked o) plan.items
  pub out : IfSome target (λ t. All (IsOutByClash t base) plan.items)
  pub decides : BothTell source target (λ s t. All (IsDecidedOn o base s t) plan.items)

-- no item clashes, unless the copy may go on without it
abbrev pub IsFree : Settings → Names → List Entry → Tree → Type 0
IsFree o base items t = o.ignore ≡ false → list_any (clashes_in t base) items ≡ false

-- ---- what goes
-- the paths cover what stands below the base of a plan and the source lacks
pub record AreMissing (told : Option Tree) (plan : Decisions) (paths : List Names) : Type 0 where
  pub ascending : is_ascending paths ≡ true
  pub apart : are_apart paths ≡ true
  pub below : list_all (leads_below plan.base) paths ≡ true
  pub unlisted : (p : Names) → covers paths p ≡ true → is_place plan p ≡ false
  pub stand : IfTree told (λ t. (p : Names) → has_path paths p ≡ true → IsThere t p)
  pub goes : IfTree told (λ t. (q : Names) → is_below q ≡ true → IsThere t (plan.base ++ q) → (covers paths (plan.base ++ q) ≡ true) ↔ Goes t (is_place plan) plan.base q)

-- with `-delete` what the source lacks goes, and else nothing
pub record AreDeletes (o : Settings) (told : Option Tree) (plan : Decisions) (paths : List Names) : Type 0 where
  pub asked : o.delete ≡ true → AreMissing told plan paths
  pub unasked : o.delete ≡ false → paths ≡ []

-- a walk meets all that stands below the base: not too many paths, and each within the limits
pub record CanWalk (t : Tree) (base : Names) : Type 0 where
  pub met : List Names
  pub meets : Meets t base is_below None met
  pub few : length met ≤ max_paths

-- the walk for `-delete`, where it is asked for, can come to its end
abbrev pub HasWalked : Settings → Option Tree → Names → Type 0
HasWalked o told base = o.delete ≡ true → IfTree told (λ t. CanWalk t base)

-- the walk for `-delete` is asked for, and stops
pub record HasStopped (o : Settings) (told : Option Tree) (base : Names) (why : DeleteError) : Type 0 where
  pub asked : o.delete ≡ true
  pub stops : IfTree told (λ t. Stops why t base is_below 0)

-- the walk for `-delete` has come to its end, or stopped; without `-delete` there is none
abbrev pub WalkEnds : {A : Type 0} → Settings → Option Tree → Names → Result A DeleteError → Type 0
WalkEnds o told base (Ok x) = HasWalked o told base
WalkEnds o told base (Err e) = HasStopped o told base e

-- how often the target is looked at for what goes
abbrev pub walk_looks : Settings → ℕ
walk_looks o = cond o.delete (2 + 3 * max_paths) 0

-- ---- refusals, in their order
-- an item clashes that the copy may not go on without: it names the first
pub record EndsByClash (o : Settings) (base : Names) (items : List Entry) (target : Option Tree) (e : Outcome) : Type 0 where
  pub rel : Names
  pub named : e ≡ outcome.Clash rel
  pub kept : o.ignore ≡ false
  pub first : IfSome target (λ t. IsFirstClash t base items rel)

-- the walk for `-delete` stops, for this reason
pub record EndsByWalk (o : Settings) (target : Option Tree) (plan : Decisions) (e : Outcome) : Type 0 where
  pub why : DeleteError
  pub named : e ≡ outcome_of_delete why
  pub stopped : HasStopped o target plan.base why

-- the walk comes to its end, and the plan has too many pieces
pub record EndsByPieces (o : Settings) (target : Option Tree) (plan : Decisions) (e : Outcome) : Type 0 where
  pub named : e ≡ outcome.TooMany too_many.Pieces
  pub walked : HasWalked o target plan.base
  pub many : most_pieces < length (plan_pieces o.blocks plan)

-- there is a plan, since no item clashes that the copy may not go on without; then the walk stops, or else there are too
-- many pieces
pub record EndsPlanned (o : Settings) (base : Names) (items : List Entry) (source target : Option Tree) (e : Outcome) : Type 0 where
  pub plan : Decisions
  pub planned : IsPlanned o base items source target plan
  pub free : IfSome target (IsFree o base items)
  pub ends : EndsByWalk o target plan e ⊎ EndsByPieces o target plan e

-- What options, items and trees refuse: a clash, or else what comes after the plan.
abbrev pub EndsFirst : Settings → Names → List Entry → Option Tree → Option Tree → Outcome → Type 0
EndsFirst o base items source target e = is_decided e ≡ true → EndsByClash o base items target e ⊎ EndsPlanned o base items source target e

-- not both stores tell a tree, or not each item stands in the source as it is listed
abbrev pub MayDeny : List Entry → Option Tree → Option Tree → Type 0
MayDeny items source target = BothTrees source target (λ s t. All (IsShown s) items → ⊥)

-- ---- what the parts find together
-- from a plan on: what goes, and its pieces
pub record IsCarriedOn (o : Settings) (target : Option Tree) (plan : Decisions) (settled : Settled) : Type 0 where
  pub same : settled.plan ≡ plan
  pub deletes : AreDeletes o target settled.plan settled.deletes
  pub walked : HasWalked o target settled.plan.base
  pub pieces : settled.pieces ≡ plan_pieces o.blocks settled.plan
  pub few : length settled.pieces ≤ most_pieces

-- from a plan on: why nothing is settled
pub record IsHeldUp (o : Settings) (target : Option Tree) (plan : Decisions) (e : Outcome) : Type 0 where
  pub kind : is_of_settle e ≡ true
  pub source : is_source_fault e ≡ false
  pub phase : is_target_fault e ≡ true → e ≡ outcome.TargetFault phase_of.Decide 0
  pub changed : is_changed e ≡ true → IfTree target (λ t. ⊥)
  pub too_long : IfTooLong e Passes
  pub refused : is_decided e ≡ true → EndsByWalk o target plan e ⊎ EndsByPieces o target plan e

-- the plan, what goes, and the pieces
pub record IsSettled (o : Settings) (base : Names) (items : List Entry) (source target : Option Tree) (settled : Settled) : Type 0 where
  pub plan : IsPlanned o base items source target settled.plan
  pub deletes : AreDeletes o target settled.plan settled.deletes
  pub walked : HasWalked o target settled.plan.base
  pub pieces : settled.pieces ≡ plan_pieces o.blocks settled.plan
  pub few : length settled.pieces ≤ most_pieces

-- why nothing is settled
pub record IsUnsettled (o : Settings) (base : Names) (items : List Entry) (source target : Option Tree) (e : Outcome) : Type 0 where
  pub kind : is_of_settle e ≡ true
  pub phase : is_target_fault e ≡ true → e ≡ outcome.TargetFault phase_of.Decide 0
  pub changed : is_changed e ≡ true → MayDeny items source target
  pub too_long : IfTooLong e Passes
  pub refused : EndsFirst o base items source target e
