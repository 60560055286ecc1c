-- Which sets of options are refused together (Hadoop DistCp Guide, "Command Line Options"; HDFS-7535, HDFS-9820; the order is own).
use Rattle.std.specs.Prelude.{ℕ, Bool, not, ◌&&◌, ◌||◌, cond, List, [], ◌∷◌, nat_lt, Option}
use Rattle.std.specs.List.{find}
use Rattle.std.specs.Option.{option_map, option_or}
use Rattle.dc_options.specs.declared.table.Flag.{Flag}
use Rattle.dc_options.specs.declared.table.Flag.TheVariants as flag
use Rattle.dc_options.specs.declared.errors.OptionError.{OptionError}
use Rattle.dc_options.specs.declared.errors.OptionError.TheVariants as error

-- ways of copying that go together or do not, each with its refusal
unfoldable pub mode_sets : (Flag → Bool) → List (Bool × OptionError)
mode_sets has =
    (has flag.Update && has flag.Overwrite, error.UpdateOverwrite)
    ∷ (has flag.Update && has flag.Atomic, error.UpdateAtomic)
    ∷ (has flag.Overwrite && has flag.Atomic, error.OverwriteAtomic)
    ∷ (has flag.Delete && not (has flag.Update || has flag.Overwrite), error.DeleteAlone)
    ∷ (has flag.Append && not (has flag.Update), error.AppendAlone)
    ∷ (has flag.Append && has flag.SkipCrc, error.AppendSkipCrc)
    ∷ []

-- reports, and what goes with one
unfoldable pub report_sets : (Flag → Bool) → List (Bool × OptionError)
report_sets has =
    (has flag.Diff && not (has flag.Update), error.DiffAlone)
    ∷ (has flag.Rdiff && not (has flag.Update), error.RdiffAlone)
    ∷ (has flag.Diff && has flag.Rdiff, error.DiffRdiff)
    ∷ (has flag.Delete && (has flag.Diff || has flag.Rdiff), error.DiffDelete)
    ∷ []

-- folders and files that are named
unfoldable pub file_sets : (Flag → Bool) → List (Bool × OptionError)
file_sets has =
    (has flag.Tmp && not (has flag.Atomic), error.TmpAlone)
    ∷ (has flag.Filters && (has flag.Diff || has flag.Rdiff), error.DiffFilters)
    ∷ (has flag.Files && (has flag.Diff || has flag.Rdiff), error.DiffFiles)
    ∷ []

-- options and the number of paths
unfoldable pub path_sets : (Flag → Bool) → ℕ → List (Bool × OptionError)
path_sets has paths =
    (has flag.Files && nat_lt 1 paths, error.FilesWithSources)
    ∷ (nat_lt paths (cond (has flag.Files) 1 2), error.NoPaths)
    ∷ ((has flag.Diff || has flag.Rdiff) && nat_lt 2 paths, error.OneSource)
    ∷ []

-- the first set that is given
abbrev pub first_set : List (Bool × OptionError) → Option OptionError
first_set sets = option_map (λ s. s.1) (find (λ s. s.0) sets)

-- the first refused set, by the options that are given and the number of paths
unfoldable pub refused_set : (Flag → Bool) → ℕ → Option OptionError
refused_set has paths =
    option_or (first_set (mode_sets has)) (option_or (first_set (report_sets has)) (option_or (first_set (file_sets has)) (first_set (path_sets has paths))))
