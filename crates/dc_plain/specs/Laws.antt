-- What plain copies are, and what they leave.
use Rattle.std.specs.Prelude.{◌≡◌, ℕ, true, List, [], ◌∷◌, Ok}
use Rattle.dc_path.specs.Paths.{Names}
use Rattle.dc_path.specs.Reading.{path_from}
use Rattle.dc_attrs.specs.Trees.{Tree, bare}
use Rattle.dc_fs.specs.Views.{View}
use Rattle.dc_fs.specs.declared.target.Landed.{Landed}
use Rattle.dc_options.specs.Reading.{options}
use Rattle.dc_engine.specs.Outcomes.{is_decided}
use Rattle.dc_engine.specs.Running.{HasCopied, IsRefused}
use Rattle.dc_engine.specs.Surveys.{before_listing}
use Rattle.dc_engine.specs.declared.outcome.Counts.{Counts}
use Rattle.dc_engine.specs.declared.outcome.Outcome.{Outcome}
use Rattle.dc_plain.specs.Plain.{IsLimit, IsListable, IsPlain, asked_for, plain}
use Rattle.dc_plain.specs.Left.{AreCountsOf, AreFolders, AreLandings, IsDone}

-- two words that are paths ask for a plain copy from the one to the other
abbrev pub WordsArePlain : Type 0
WordsArePlain = (one other : List ℕ) (source target : Names) → path_from one ≡ Ok source → path_from other ≡ Ok target → options (one ∷ other ∷ []) ≡ Ok (plain source target)

-- ---- what refuses it
-- nothing does before the listing
abbrev pub PlainIsAllowed : Type 0
PlainIsAllowed = (s : Tree) (source target : Names) → IsPlain s source target → before_listing (plain source target) s bare ≡ Ok (asked_for source target)

-- after that only a limit does: of what is listed, of a path or of pieces
abbrev pub OnlyLimitsRefuse : Type 0
OnlyLimitsRefuse = (s : Tree) (source target : Names) (e : Outcome) → IsPlain s source target → IsRefused (plain source target) s bare e → is_decided e ≡ true → IsLimit e

-- and none does where what is copied is within the limits
abbrev pub NothingRefuses : Type 0
NothingRefuses = (s : Tree) (source target : Names) (e : Outcome) → IsPlain s source target → IsListable s source target → IsRefused (plain source target) s bare e → is_decided e ≡ true → ⊥

-- ---- what is left
-- where the copy is made, it is made whole and exactly
abbrev pub CopiesAreWhole : Type 0
CopiesAreWhole = (s : Tree) (source target : Names) (paths : List Names) (counts : Counts) (from from_now old new : View) → IsPlain s source target
    → HasCopied (plain source target) s bare paths counts from from_now old new → (paths ≡ []) × IsDone s source target counts old new

-- what lands is one list
abbrev pub LandingsAreOne : Type 0
LandingsAreOne = (s : Tree) (source target : Names) (landings others : List Landed) → AreLandings s source target landings → AreLandings s source target others → landings ≡ others

-- and so are the directories
abbrev pub FoldersAreOne : Type 0
FoldersAreOne = (s : Tree) (source : Names) (folders others : List Names) → AreFolders s source folders → AreFolders s source others → folders ≡ others

-- so the counters are too
abbrev pub CountsAreOne : Type 0
CountsAreOne = (s : Tree) (source target : Names) (counts others : Counts) → AreCountsOf s source target counts → AreCountsOf s source target others → counts ≡ others
