-- What the values of options must be (the forms and limits are this project's own).
use Rattle.std.specs.Prelude.{ℕ, Bool, not, ◌&&◌, ◌||◌, List, [], ◌∷◌, length, drop, codes, nat_eq, nat_le, Option, Some, None, Result, Ok, Err, if◌then◌else◌}
use Rattle.std.specs.List.{starts_with}
use Rattle.std.specs.Option.{is_some}
use Rattle.dc_path.specs.Names.{is_name, same_name}
use Rattle.dc_path.specs.Numbers.{number_in}
use Rattle.dc_path.specs.Paths.{Names}
use Rattle.dc_path.specs.Reading.{path_from}
use Rattle.dc_path.specs.declared.path.PathError.{PathError}
use Rattle.dc_attrs.specs.Keeping.{Kept, read_letters}
use Rattle.dc_attrs.specs.declared.keeping.KeepError.{KeepError}
use Rattle.dc_attrs.specs.declared.keeping.KeepError.TheVariants.{UnknownLetter}
use Rattle.dc_options.specs.declared.table.Needs.{Needs}
use Rattle.dc_options.specs.declared.table.Needs.TheVariants as needs
use Rattle.dc_options.specs.declared.errors.OptionError.{OptionError}
use Rattle.dc_options.specs.declared.errors.OptionError.TheVariants as error

-- the name of a snapshot (HDFS Snapshots, "Snapshot Paths"): a short name that a folder of snapshots does not use otherwise
unfoldable pub is_snapshot : List ℕ → Bool
is_snapshot text = is_name text && nat_le (length text) 252 && not (same_name text (codes ".snapshot")) && not (same_name text (codes ".reports"))

-- the word of a strategy (Hadoop DistCp Guide, `-strategy`)
abbrev pub is_strategy : List ℕ → Bool
is_strategy text = same_name text (codes "uniformsize") || same_name text (codes "dynamic")

-- the letters of the option `-p`, in its word
unfoldable pub letters_of : List ℕ → List ℕ
letters_of word = if starts_with nat_eq word (codes "-p") then drop 2 word else []

-- the first of some values; no bytes where there is none
abbrev pub first : List (List ℕ) → List ℕ
first [] = []
first (value ∷ values) = value

-- the second of some values
abbrev pub second : List (List ℕ) → List ℕ
second [] = []
second (value ∷ values) = first values

-- letters are refused by the first unknown one
abbrev pub refused_letters : Result Kept KeepError → Option OptionError
refused_letters (Ok keep) = None
refused_letters (Err (UnknownLetter place)) = Some (error.BadLetter place)

-- a text that is no path
abbrev pub refused_path : List ℕ → Result Names PathError → Option OptionError
refused_path text (Ok path) = None
refused_path text (Err e) = Some (error.BadPath text)

-- why the values of an option's word are refused, by what they must be
abbrev pub refused_value : Needs → List ℕ → List (List ℕ) → Option OptionError
refused_value needs.Nothing word values = None
refused_value needs.Letters word values = refused_letters (read_letters (letters_of word))
refused_value (needs.Number least most) word values = if is_some (number_in least most (first values)) then None else Some (error.BadNumber word)
refused_value needs.Path word values = refused_path (first values) (path_from (first values))
refused_value needs.Strategy word values = if is_strategy (first values) then None else Some error.BadStrategy
refused_value needs.Snapshots word values = if is_snapshot (first values) && is_snapshot (second values) then None else Some (error.BadSnapshot word)
