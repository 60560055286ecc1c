-- How the files of a plan become temporaries that are ready to land, what is left out of the plan, and why nothing is ready
-- (Hadoop DistCp, `CopyMapper`, and `CopyCommitter.concatFileChunks`).
use Rattle.std.specs.Prelude.{◌≡◌, ◌⊎◌, ℕ, ◌+◌, Bool, true, false, ⊤, nat_eq, ◌&&◌, List, length, Option, Some, IsSomeAnd, All, Contains, slice_get}
use Rattle.std.specs.Option.{option_and_then}
use Rattle.dc_path.specs.Paths.{Names}
use Rattle.dc_attrs.specs.Trees.{Tree}
use Rattle.dc_listing.specs.Walks.{IsShown}
use Rattle.dc_decide.specs.Plans.{Decision, Decisions, IsDecision, left_out}
use Rattle.dc_pieces.specs.declared.parts.Part.{Part}
use Rattle.dc_pieces.specs.declared.piece.Piece.{Piece}
use Rattle.dc_split.specs.Bundles.{times, once_below}
use Rattle.dc_commit.specs.Landing.{is_landing}
use Rattle.dc_commit.specs.declared.landing.Ready.{Ready}
use Rattle.dc_join.specs.Joining.{AreJoined}
use Rattle.dc_join.specs.Leaving.{AreLeftOut}
use Rattle.dc_crew.specs.Advances.{AreRight}
use Rattle.dc_crew.specs.Jobs.{Job}
use Rattle.dc_crew.specs.States.{parts_of}
use Rattle.dc_crew.specs.declared.copy.CopyError.{CopyError}
use Rattle.dc_crew.specs.declared.copy.CopyError.TheVariants.{Fault, Halted}
use Rattle.dc_crew.specs.declared.halts.Halt.TheVariants as halts
use Rattle.dc_engine.specs.declared.outcome.Outcome.{Outcome}
use Rattle.dc_engine.specs.declared.outcome.Outcome.TheVariants as outcome
use Rattle.dc_engine.specs.declared.outcome.Phase.{Phase}
use Rattle.dc_engine.specs.declared.outcome.Phase.TheVariants as phase_of

-- ---- what is left out
-- a decision is as it was, or it was that a file is written, and the copy goes on without that
abbrev pub IsKeptOrLeft : Decision → Decision → Type 0
IsKeptOrLeft old new = (new ≡ old) ⊎ ((is_landing old ≡ true) × (new ≡ left_out old))

-- the copy goes on without some files that were to be written, and else the plan is as it was
pub record LeavesFiles (old new : Decisions) : Type 0 where
  pub base : new.base ≡ old.base
  pub len : length new.items ≡ length old.items
  pub each : (n : ℕ) (d : Decision) → slice_get old.items n ≡ Some d → IsSomeAnd (slice_get new.items n) (IsKeptOrLeft d)

-- ---- what is ready
module _ {P : Type 0} where
  -- Each piece has one part, which is right for it, or was given up. The copy goes on without exactly those items besides of
  -- which a piece was given up. What is ready has the parts of all other files that are written, in the order of their ranges.
  pub record AreCopied (job : Job) (content : P → Option (List ℕ)) (size_of : P → ℕ) (old new : Decisions) (files : List (Ready P)) : Type 0 where
    pub parts : List (Part P)
    pub given_up : List ℕ
    pub right : AreRight job content size_of parts
    pub once : (p : ℕ) → parts_of p parts + times p given_up ≡ once_below (length job.pieces) p
    pub left : AreLeftOut job.pieces given_up old.items new.items
    pub joined : AreJoined new job.pieces parts files

-- ---- why nothing is ready
-- the decision on the item of which a piece is, where both are there
abbrev pub decision_of : Decisions → List Piece → ℕ → Option Decision
decision_of plan pieces p = option_and_then (λ piece. slice_get plan.items piece.item) (slice_get pieces p)

-- the path under the target, or in the source, of the file of which a piece is
abbrev pub IsPlaceOf : Decisions → List Piece → ℕ → Names → Type 0
IsPlaceOf plan pieces p path = IsSomeAnd (decision_of plan pieces p) (λ d. path ≡ d.item.rel)

abbrev pub IsOriginOf : Decisions → List Piece → ℕ → Names → Type 0
IsOriginOf plan pieces p path = IsSomeAnd (decision_of plan pieces p) (λ d. IsDecision d × (path ≡ d.item.from))

-- the outcome of a copy that ends so: it names the file of the piece, or memory ran out for that
abbrev pub IsOutcomeOf : Decisions → List Piece → CopyError → Outcome → Type 0
IsOutcomeOf plan pieces Fault o = o ≡ outcome.TargetFault phase_of.Copy 0
IsOutcomeOf plan pieces (Halted halts.Memory) o = o ≡ outcome.Memory
IsOutcomeOf plan pieces (Halted (halts.Differs p expected found)) o = (o ≡ outcome.Memory) ⊎ ((path : Names) × (o ≡ outcome.Differs path expected found) × IsPlaceOf plan pieces p path)
IsOutcomeOf plan pieces (Halted (halts.Changed p)) o = (o ≡ outcome.Memory) ⊎ ((path : Names) × (o ≡ outcome.Changed path) × IsOriginOf plan pieces p path)
IsOutcomeOf plan pieces (Halted (halts.Failed p)) o = (o ≡ outcome.Memory) ⊎ ((path : Names) × (o ≡ outcome.CopyFailed path) × IsPlaceOf plan pieces p path)

-- each item stands in the source as it is listed
abbrev pub AreShown : Tree → List Decision → Type 0
AreShown s items = All (λ d. IsShown s d.item) items

-- a file that the plan writes has this path under the target
pub record IsToWrite (plan : Decisions) (rel : Names) : Type 0 where
  pub decision : Decision
  pub listed : Contains plan.items decision
  pub written : is_landing decision ≡ true
  pub named : rel ≡ decision.item.rel

-- a file that the plan writes has this path in the source
pub record IsToRead (plan : Decisions) (from : Names) : Type 0 where
  pub decision : Decision
  pub listed : Contains plan.items decision
  pub written : is_landing decision ≡ true
  pub named : from ≡ decision.item.from

-- ---- kinds of outcomes
-- files are copied to temporaries
abbrev pub is_copy : Phase → Bool
is_copy phase_of.Check = false
is_copy phase_of.Replay = false
is_copy phase_of.Decide = false
is_copy phase_of.Copy = true
is_copy phase_of.Dirs = false
is_copy phase_of.Land = false
is_copy phase_of.Sweep = false
is_copy phase_of.FileAttrs = false
is_copy phase_of.Delete = false
is_copy phase_of.DirAttrs = false
is_copy phase_of.Move = false

-- how a copy may end in which nothing is ready: the target fails in the copy alone, after nothing
abbrev pub is_of_copy : Outcome → Bool
is_of_copy outcome.Committed = false
is_of_copy (outcome.CommittedWithout paths) = false
is_of_copy (outcome.BadOption error) = false
is_of_copy (outcome.NoFile path) = false
is_of_copy (outcome.TooBig path) = false
is_of_copy (outcome.BadList line) = false
is_of_copy (outcome.BadPattern line) = false
is_of_copy (outcome.BigPattern line) = false
is_of_copy (outcome.BadPlan line) = false
is_of_copy (outcome.BadReport line) = false
is_of_copy (outcome.NoReport path) = false
is_of_copy (outcome.NoSource path) = false
is_of_copy (outcome.BadTarget kind) = false
is_of_copy (outcome.Duplicate rel first second) = false
is_of_copy (outcome.TooMany what) = false
is_of_copy (outcome.TooLong parent name) = false
is_of_copy (outcome.Clash path) = false
is_of_copy (outcome.NotAtBegin path) = false
is_of_copy (outcome.StageExists path) = false
is_of_copy (outcome.ReportFalse path) = false
is_of_copy (outcome.WorkExists path) = false
is_of_copy outcome.SourceFault = false
is_of_copy (outcome.TargetFault phase done) = is_copy phase && nat_eq done 0
is_of_copy (outcome.CopyFailed path) = true
is_of_copy (outcome.Differs path expected found) = true
is_of_copy (outcome.Changed path) = true
is_of_copy (outcome.Uncertain path) = false
is_of_copy outcome.Memory = true
is_of_copy outcome.Unbuilt = false

-- a fact of the path of the file of which four attempts at a piece failed
abbrev pub IfCopyFailed : Outcome → (Names → Type 0) → Type 0
IfCopyFailed outcome.Committed P = ⊤
IfCopyFailed (outcome.CommittedWithout paths) P = ⊤
IfCopyFailed (outcome.BadOption error) P = ⊤
IfCopyFailed (outcome.NoFile path) P = ⊤
IfCopyFailed (outcome.TooBig path) P = ⊤
IfCopyFailed (outcome.BadList line) P = ⊤
IfCopyFailed (outcome.BadPattern line) P = ⊤
IfCopyFailed (outcome.BigPattern line) P = ⊤
IfCopyFailed (outcome.BadPlan line) P = ⊤
IfCopyFailed (outcome.BadReport line) P = ⊤
IfCopyFailed (outcome.NoReport path) P = ⊤
IfCopyFailed (outcome.NoSource path) P = ⊤
IfCopyFailed (outcome.BadTarget kind) P = ⊤
IfCopyFailed (outcome.Duplicate rel first second) P = ⊤
IfCopyFailed (outcome.TooMany what) P = ⊤
IfCopyFailed (outcome.TooLong parent name) P = ⊤
IfCopyFailed (outcome.Clash path) P = ⊤
IfCopyFailed (outcome.NotAtBegin path) P = ⊤
IfCopyFailed (outcome.StageExists path) P = ⊤
IfCopyFailed (outcome.ReportFalse path) P = ⊤
IfCopyFailed (outcome.WorkExists path) P = ⊤
IfCopyFailed outcome.SourceFault P = ⊤
IfCopyFailed (outcome.TargetFault phase done) P = ⊤
IfCopyFailed (outcome.CopyFailed path) P = P path
IfCopyFailed (outcome.Differs path expected found) P = ⊤
IfCopyFailed (outcome.Changed path) P = ⊤
IfCopyFailed (outcome.Uncertain path) P = ⊤
IfCopyFailed outcome.Memory P = ⊤
IfCopyFailed outcome.Unbuilt P = ⊤

-- a fact of the path of the file of which the digests of a piece differ, and of these
abbrev pub IfDiffers : Outcome → (Names → List ℕ → List ℕ → Type 0) → Type 0
IfDiffers outcome.Committed P = ⊤
IfDiffers (outcome.CommittedWithout paths) P = ⊤
IfDiffers (outcome.BadOption error) P = ⊤
IfDiffers (outcome.NoFile path) P = ⊤
IfDiffers (outcome.TooBig path) P = ⊤
IfDiffers (outcome.BadList line) P = ⊤
IfDiffers (outcome.BadPattern line) P = ⊤
IfDiffers (outcome.BigPattern line) P = ⊤
IfDiffers (outcome.BadPlan line) P = ⊤
IfDiffers (outcome.BadReport line) P = ⊤
IfDiffers (outcome.NoReport path) P = ⊤
IfDiffers (outcome.NoSource path) P = ⊤
IfDiffers (outcome.BadTarget kind) P = ⊤
IfDiffers (outcome.Duplicate rel first second) P = ⊤
IfDiffers (outcome.TooMany what) P = ⊤
IfDiffers (outcome.TooLong parent name) P = ⊤
IfDiffers (outcome.Clash path) P = ⊤
IfDiffers (outcome.NotAtBegin path) P = ⊤
IfDiffers (outcome.StageExists path) P = ⊤
IfDiffers (outcome.ReportFalse path) P = ⊤
IfDiffers (outcome.WorkExists path) P = ⊤
IfDiffers outcome.SourceFault P = ⊤
IfDiffers (outcome.TargetFault phase done) P = ⊤
IfDiffers (outcome.CopyFailed path) P = ⊤
IfDiffers (outcome.Differs path expected found) P = P path expected found
IfDiffers (outcome.Changed path) P = ⊤
IfDiffers (outcome.Uncertain path) P = ⊤
IfDiffers outcome.Memory P = ⊤
IfDiffers outcome.Unbuilt P = ⊤

-- a fact of the path at which a store denied what it showed
abbrev pub IfChanged : Outcome → (Names → Type 0) → Type 0
IfChanged outcome.Committed P = ⊤
IfChanged (outcome.CommittedWithout paths) P = ⊤
IfChanged (outcome.BadOption error) P = ⊤
IfChanged (outcome.NoFile path) P = ⊤
IfChanged (outcome.TooBig path) P = ⊤
IfChanged (outcome.BadList line) P = ⊤
IfChanged (outcome.BadPattern line) P = ⊤
IfChanged (outcome.BigPattern line) P = ⊤
IfChanged (outcome.BadPlan line) P = ⊤
IfChanged (outcome.BadReport line) P = ⊤
IfChanged (outcome.NoReport path) P = ⊤
IfChanged (outcome.NoSource path) P = ⊤
IfChanged (outcome.BadTarget kind) P = ⊤
IfChanged (outcome.Duplicate rel first second) P = ⊤
IfChanged (outcome.TooMany what) P = ⊤
IfChanged (outcome.TooLong parent name) P = ⊤
IfChanged (outcome.Clash path) P = ⊤
IfChanged (outcome.NotAtBegin path) P = ⊤
IfChanged (outcome.StageExists path) P = ⊤
IfChanged (outcome.ReportFalse path) P = ⊤
IfChanged (outcome.WorkExists path) P = ⊤
IfChanged outcome.SourceFault P = ⊤
IfChanged (outcome.TargetFault phase done) P = ⊤
IfChanged (outcome.CopyFailed path) P = ⊤
IfChanged (outcome.Differs path expected found) P = ⊤
IfChanged (outcome.Changed path) P = P path
IfChanged (outcome.Uncertain path) P = ⊤
IfChanged outcome.Memory P = ⊤
IfChanged outcome.Unbuilt P = ⊤
