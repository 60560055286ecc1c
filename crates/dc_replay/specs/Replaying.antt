-- What the moves of a report do to a tree: the laws of replaying (HDFS-7535).
-- R is the report, st the name of the stage, T the tree, d the path of the directory in it.
use Rattle.std.specs.Prelude.{◌↔◌, ◌≡◌, ◌⊎◌, ℕ, ◌+◌, ◌*◌, ◌<◌, ◌≤◌, List, [], ◌∷◌, Bool, true, false, Option, Some, None, Ok, length, take}
use Rattle.std.specs.List.{filter_map}
use Rattle.dc_attrs.specs.Attributes.{Attributes, default_dir}
use Rattle.dc_attrs.specs.Trees.{IsDirAt, Dir, File, IsTree, Node, Tree, at}
use Rattle.dc_path.specs.Paths.{Names}
use Rattle.dc_report.specs.Carrying.{Plan, plan}
use Rattle.dc_replay.specs.Arrivals.{shifted}
use Rattle.dc_replay.specs.Truth.{AreAlike, HasNoHidden, HasSameKinds, IsCopied, IsLikeness, IsListable, IsTrueOf, KeepsNodes, is_listed, plain, with_listed}
use Rattle.dc_replay.specs.Checking.{IsStageFree, IsStageUnused, Passes, is_stage_free, is_to_be_made, where_to}
use Rattle.dc_report.specs.Apart.{IsReport}
use Rattle.dc_report.specs.Told.{AreTold, HasNoName}
use Rattle.dc_replay.specs.Steps.{AreAllowed, after, graft, step, tracked}
use Rattle.dc_report.specs.Moves.{limited_moves, moves, moves_of}
use Rattle.dc_replay.specs.Refused.{refused}
use Rattle.dc_replay.specs.Tests.{first_false, made_list}
use Rattle.dc_replay.specs.TestAnswers.{Answer, FalseAt, Holds, LongAt, Taken}
use Rattle.dc_replay.specs.Limits.{all_looks, check_answer}
use Rattle.dc_replay.specs.ListingTests.{listing_answer}
use Rattle.dc_report.specs.declared.entries.Entry.{Entry}
use Rattle.dc_report.specs.declared.entries.Move.{Move}
use Rattle.dc_report.specs.declared.entries.Move.TheVariants.{Clear, Make, Shift}

-- X is what the report makes of A
pub record IsShifted (R : List Entry) (A X : Tree) : Type 0 where
  -- what is moved stands where it is moved to
  pub moved : (p q : Names) (x : Node) → A p ≡ Some x → where_to R p ≡ Some q → X q ≡ Some x
  -- at each parent to be made stands a default directory
  pub made : (q : Names) → is_to_be_made R q ≡ true → X q ≡ Some (Dir default_dir)
  -- and nothing else stands
  pub only : (q : Names) (x : Node) → X q ≡ Some x → ((p : Names) × (A p ≡ Some x) × (where_to R p ≡ Some q)) ⊎ (is_to_be_made R q ≡ true)

-- no move is refused, each by the tree that those before it made
abbrev pub NoneRefused : Tree → List Move → Type 0
NoneRefused t [] = Unit {0}
NoneRefused t (m ∷ ms) = (refused t m ≡ None) × NoneRefused (step m t) ms

-- the moves make of the directory what the report says, and none is refused
pub record IsReplayed (st : List ℕ) (d : Names) (R : List Entry) (T : Tree) : Type 0 where
  -- each move finds what it needs
  pub allowed : AreAllowed T (moves_of st d R)
  -- none is refused
  pub not_refused : NoneRefused T (moves_of st d R)
  -- the directory is what the report makes of it, and the rest is as it was
  pub gives : after (moves_of st d R) T ≡ graft d T (shifted (plan R) (at T d))
  -- which is a tree
  pub valid : IsTree (graft d T (shifted (plan R) (at T d)))

-- the move removes what stands
abbrev pub is_clear : Move → Bool
is_clear (Make p) = false
is_clear (Shift a b) = false
is_clear (Clear p) = true

-- no move removes what stands
abbrev pub HasNoClear : List Move → Type 0
HasNoClear [] = Unit {0}
HasNoClear (m ∷ ms) = (is_clear m ≡ false) × HasNoClear ms

-- each node goes along with the moves, and there are no other files
pub record Carries (ms : List Move) (t : Tree) : Type 0 where
  -- the tree stays a tree
  pub valid : IsTree (after ms t)
  -- each node stands where the moves take it
  pub along : (q : Names) (x : Node) → t q ≡ Some x → after ms t (tracked ms q) ≡ Some x
  -- no two are taken to one path
  pub apart : (p q : Names) (x y : Node) → t p ≡ Some x → t q ≡ Some y → tracked ms p ≡ tracked ms q → p ≡ q
  -- each file stood before
  pub only : (q : Names) (b : List ℕ) (a : Attributes) → after ms t q ≡ Some (File b a) → (p : Names) × (t p ≡ Some (File b a)) × (tracked ms p ≡ q)

-- all moves together are one renaming, and fewer of them move each node and lose none
pub record Replays (st : List ℕ) (d : Names) (R : List Entry) (T : Tree) : Type 0 where
  pub replayed : IsReplayed st d R T
  pub shifted_is : IsShifted R (at T d) (shifted (plan R) (at T d))
  pub files : (k : ℕ) → k < length (moves_of st d R) → Carries (take k (moves_of st d R)) T
  -- no move but the last removes anything
  pub last : (k : ℕ) → k < length (moves_of st d R) → HasNoClear (take k (moves_of st d R))

-- where the tests pass, the moves of a report that tells of no path twice are one renaming, and none is refused
abbrev pub ReplayingHolds : Type 0
ReplayingHolds = (st : List ℕ) (d : Names) (R : List Entry) (T : Tree) → IsReport R → IsTree T → IsStageFree st R (at T d)
    → first_false R (at T d) ≡ None → Replays st d R T

-- the tests, each by one look, decide the same as the tests in the words of the paths that the report leads from and to
abbrev pub TestsDecide : Type 0
TestsDecide = (st : List ℕ) (R : List Entry) (A : Tree) → IsReport R → IsTree A → IsStageFree st R A → (first_false R A ≡ None) ↔ Passes st R A

-- a true report passes the tests on a tree that, without hidden paths, has the paths and kinds of the earlier snapshot
abbrev pub TrueReportsPass : Type 0
TrueReportsPass = (snapshot st : List ℕ) (R : List Entry) (A O N : Tree) → IsReport R → HasNoHidden snapshot R → IsStageFree st R A
    → IsTree A → IsTree N → HasSameKinds snapshot A O → IsTrueOf R O N → Passes st R A

-- With a true report, and a directory that is as the earlier snapshot, the moves and any copy of what is listed leave it as
-- the later snapshot. Y is the directory after both.
abbrev pub EndIsReached : Type 0
EndIsReached = (snapshot st : List ℕ) (d : Names) (R : List Entry) (T O N Y : Tree) (like : Node → Node → Bool) → IsReport R → HasNoHidden snapshot R
    → IsStageFree st R (at T d) → IsTree T → IsDirAt T d → IsTree O → IsTree N → IsLikeness like
    → IsTrueOf R (plain snapshot O) (plain snapshot N) → KeepsNodes R (plain snapshot O) (plain snapshot N) → AreAlike like snapshot (at T d) O
    → IsCopied like snapshot R N (at (after (moves_of st d R) T) d) Y → AreAlike like snapshot Y N

-- the copy that takes each node as it stands in the later snapshot is one
abbrev pub CopyIsOne : Type 0
CopyIsOne = (snapshot : List ℕ) (R : List Entry) (N X : Tree) (like : Node → Node → Bool) → IsLikeness like → IsCopied like snapshot R N X (with_listed R N X)

-- with a true report, what the listing looks for stands in the later snapshot
abbrev pub TrueReportsList : Type 0
TrueReportsList = (snapshot : List ℕ) (R : List Entry) (O N : Tree) → IsTrueOf R O (plain snapshot N) → IsListable R N

-- where the stage is free, the root is not listed
abbrev pub RootIsUnlisted : Type 0
RootIsUnlisted = (st : List ℕ) (R : List Entry) (A : Tree) → IsStageFree st R A → is_listed R [] ≡ false

-- The test of the stage says that nothing stands there, and that no path of the report begins with its name. So it gives that
-- the stage is free, for entries that a report may have.
abbrev pub StageIsTested : Type 0
StageIsTested = (st : List ℕ) (R : List Entry) (A : Tree)
    → ((is_stage_free st R A ≡ true) ↔ IsStageUnused st R A) × (AreTold [] R → is_stage_free st R A ≡ true → IsStageFree st R A)

-- few moves, few parents to be made, and few paths that the tests look for
pub record HasFew (st : List ℕ) (d : Names) (R : List Entry) : Type 0 where
  -- two for the stage, one for each entry that carries, and for each new path one and its parents
  pub moves : length (moves_of st d R) ≤ 2 + 258 * length R
  -- a new path has at most 256 parents
  pub made : length (made_list (plan R) (plan R).news) ≤ 256 * length R
  -- one for each entry, two for each new path, two for each place and one for each parent to be made
  pub looks : length (all_looks R (plan R)) ≤ 261 * length R

-- entries that a report may have, have few
abbrev pub MovesAreFew : Type 0
MovesAreFew = (st : List ℕ) (d : Names) (R : List Entry) → AreTold [] R → HasFew st d R

-- where the answer over a base is that all holds, the report is replayed, and no path of the moves is too long
abbrev pub CheckedIsReplayed : Type 0
CheckedIsReplayed = (st : List ℕ) (d : Names) (R : List Entry) (T : Tree) → AreTold [] R → IsTree T → check_answer st d R (at T d) ≡ Holds
    → Replays st d R T × (limited_moves (moves_of st d R) ≡ Ok (moves_of st d R))

-- the answer is that all holds, or that a path is too long
abbrev pub IsHeldUnlessLong : Answer → Type 0
IsHeldUnlessLong Holds = Unit {0}
IsHeldUnlessLong Taken = ⊥
IsHeldUnlessLong (FalseAt p) = ⊥
IsHeldUnlessLong (LongAt p) = Unit {0}

-- Where the stage is free, a true report is refused neither by the tests of the tree nor by those that come before the listing,
-- but where a path is too long. The directory is at d in T, and the later snapshot at e.
abbrev pub TrueReportsAreAccepted : Type 0
TrueReportsAreAccepted = (snapshot st : List ℕ) (d e : Names) (R : List Entry) (T O N : Tree) → AreTold [] R → HasNoHidden snapshot R
    → is_stage_free st R (at T d) ≡ true → IsTree T → IsDirAt T d → IsTree N → HasSameKinds snapshot (at T d) O → IsTrueOf R O (plain snapshot N)
    → IsHeldUnlessLong (check_answer st d R (at T d)) × IsHeldUnlessLong (listing_answer e R N)

-- where no path has the name of snapshots, no path that is deleted, renamed or created is hidden
abbrev pub NamelessIsNotHidden : Type 0
NamelessIsNotHidden = (snapshot : List ℕ) (R : List Entry) → HasNoName snapshot R → HasNoHidden snapshot R

-- the directory that a move makes
abbrev pub made_by : Move → Option Names
made_by (Make p) = Some p
made_by (Shift a b) = None
made_by (Clear p) = None

-- the moves make the stage, and then the parents to be made, in the order of their tests
abbrev pub MakesAreParents : Type 0
MakesAreParents = (st : List ℕ) (P : Plan) → filter_map made_by (moves st P) ≡ (st ∷ []) ∷ made_list P P.news
