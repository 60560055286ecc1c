-- How a run of words ends, by what the words and both trees say (Hadoop DistCp, `DistCp.run`; the order of refusals is this project's).
use Rattle.std.specs.Prelude.{◌≡◌, ◌⊎◌, ℕ, Bool, true, false, not, ◌&&◌, ◌||◌, List, Result, Ok, Err}
use Rattle.dc_path.specs.Found.{has_path}
use Rattle.dc_path.specs.Paths.{Names}
use Rattle.dc_attrs.specs.Trees.{Tree}
use Rattle.dc_options.specs.Reading.{options}
use Rattle.dc_options.specs.Settings.{Settings}
use Rattle.dc_options.specs.declared.errors.OptionError.{OptionError}
use Rattle.dc_options.specs.declared.errors.OptionError.TheVariants as option
use Rattle.dc_listing.specs.Entries.{Entry}
use Rattle.dc_result.specs.Jobs.{Job}
use Rattle.dc_engine.specs.Outcomes.{is_big_pattern, is_decided}
use Rattle.dc_engine.specs.Running.{IsCopy, IsRefused, commits, without}
use Rattle.dc_engine.specs.declared.outcome.Outcome.{Outcome}
use Rattle.dc_engine.specs.declared.outcome.Outcome.TheVariants as outcome

-- ---- words
-- how a run ends whose words are no options
abbrev pub outcome_of_words : OptionError → Outcome
outcome_of_words (option.UnknownOption word) = outcome.BadOption (option.UnknownOption word)
outcome_of_words (option.Repeated word) = outcome.BadOption (option.Repeated word)
outcome_of_words (option.NeedsValue word) = outcome.BadOption (option.NeedsValue word)
outcome_of_words (option.BadNumber word) = outcome.BadOption (option.BadNumber word)
outcome_of_words (option.BadLetter place) = outcome.BadOption (option.BadLetter place)
outcome_of_words option.BadStrategy = outcome.BadOption option.BadStrategy
outcome_of_words (option.BadSnapshot word) = outcome.BadOption (option.BadSnapshot word)
outcome_of_words (option.BadPath text) = outcome.BadOption (option.BadPath text)
outcome_of_words option.UpdateOverwrite = outcome.BadOption option.UpdateOverwrite
outcome_of_words option.UpdateAtomic = outcome.BadOption option.UpdateAtomic
outcome_of_words option.OverwriteAtomic = outcome.BadOption option.OverwriteAtomic
outcome_of_words option.DeleteAlone = outcome.BadOption option.DeleteAlone
outcome_of_words option.AppendAlone = outcome.BadOption option.AppendAlone
outcome_of_words option.AppendSkipCrc = outcome.BadOption option.AppendSkipCrc
outcome_of_words option.DiffAlone = outcome.BadOption option.DiffAlone
outcome_of_words option.RdiffAlone = outcome.BadOption option.RdiffAlone
outcome_of_words option.DiffRdiff = outcome.BadOption option.DiffRdiff
outcome_of_words option.DiffDelete = outcome.BadOption option.DiffDelete
outcome_of_words option.TmpAlone = outcome.BadOption option.TmpAlone
outcome_of_words option.DiffFilters = outcome.BadOption option.DiffFilters
outcome_of_words option.DiffFiles = outcome.BadOption option.DiffFiles
outcome_of_words option.FilesWithSources = outcome.BadOption option.FilesWithSources
outcome_of_words option.NoPaths = outcome.BadOption option.NoPaths
outcome_of_words option.OneSource = outcome.BadOption option.OneSource
outcome_of_words option.Memory = outcome.Memory

-- ---- the verdict
-- words and trees decide the outcome, but for what a run with `-i` goes on without
abbrev pub is_verdict : Outcome → Bool
is_verdict e = commits e || is_decided e

-- nothing refuses the copy that options and trees define, without these paths
pub record AllowsWithout (o : Settings) (s t : Tree) (paths : List Names) : Type 0 where
  pub entries : List Entry
  pub job : Job
  pub copy : IsCopy o s t entries job
  pub out : (rel : Names) → job.out rel ≡ has_path paths rel

-- options and trees allow the copy, without what the outcome says, or this is the first refusal
pub record DecidesRun (o : Settings) (s t : Tree) (e : Outcome) : Type 0 where
  pub allowed : commits e ≡ true → AllowsWithout o s t (without e)
  pub refused : commits e ≡ false → IsRefused o s t e

-- words that are no options decide the outcome, and else what they ask for and the trees do
abbrev pub DecidesBy : Result Settings OptionError → Tree → Tree → Outcome → Type 0
DecidesBy (Ok o) s t e = DecidesRun o s t e
DecidesBy (Err error) s t e = e ≡ outcome_of_words error

abbrev pub IsVerdict : List (List ℕ) → Tree → Tree → Outcome → Type 0
IsVerdict words s t e = DecidesBy (options words) s t e

-- the outcome is the verdict, but for want of memory and a pattern that is too big to search
abbrev pub SettlesBy : Result Settings OptionError → Tree → Tree → Outcome → Type 0
SettlesBy r s t e = ((is_verdict e ≡ true) × DecidesBy r s t e) ⊎ ((e ≡ outcome.Memory) ⊎ (is_big_pattern e ≡ true))

abbrev pub Settles : List (List ℕ) → Tree → Tree → Outcome → Type 0
Settles words s t e = SettlesBy (options words) s t e

-- a decided outcome that does not commit
abbrev pub is_refused : Outcome → Bool
is_refused e = is_decided e && not (commits e)
