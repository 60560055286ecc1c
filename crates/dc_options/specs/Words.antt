-- Which words are options, values and paths, and the first word that is refused (the order of refusals is this project's).
use Rattle.std.specs.Prelude.{ℕ, zero, suc, Bool, false, ◌==◌, List, [], ◌∷◌, ◌++◌, length, take, nat_lt, Option, Some, None, Result, Ok, Err, if◌then◌else◌}
use Rattle.std.specs.List.{find, filter_map, cons_option}
use Rattle.std.specs.Option.{option_or}
use Rattle.std.specs.Result.{result_ok, result_err}
use Rattle.dc_path.specs.Paths.{Names}
use Rattle.dc_path.specs.Reading.{path_from}
use Rattle.dc_path.specs.declared.path.PathError.{PathError}
use Rattle.dc_options.specs.Table.{flag_of, needs_of, count_of, wanted, same_flag, is_among}
use Rattle.dc_options.specs.Values.{refused_value}
use Rattle.dc_options.specs.declared.table.Flag.{Flag}
use Rattle.dc_options.specs.declared.errors.OptionError.{OptionError}
use Rattle.dc_options.specs.declared.errors.OptionError.TheVariants as error
use Rattle.dc_path.specs.Words.{is_dashed}

-- a word that is no value, with the values that follow it
pub record Head : Type 0 where
  pub word : List ℕ
  pub values : List (List ℕ)

-- the values are as many of the words after it as its option takes
abbrev pub head_at : List ℕ → List (List ℕ) → Head
head_at word after = record { word = word; values = take (wanted (flag_of word)) after }

-- the words that are no values, where the first so many are values of an option before
abbrev pub heads : ℕ → List (List ℕ) → List Head
heads n [] = []
heads zero (word ∷ words) = head_at word words ∷ heads (wanted (flag_of word)) words
heads (suc n) (word ∷ words) = heads n words

-- a path, or a refusal of its word
abbrev pub as_path : List ℕ → Result Names PathError → Result Names OptionError
as_path word (Ok path) = Ok path
as_path word (Err e) = Err (error.BadPath word)

-- a word of no option is unknown where it begins with `-`, and else a path
abbrev pub read_other : List ℕ → Result Names OptionError
read_other word = if is_dashed word then Err (error.UnknownOption word) else as_path word (path_from word)

-- an option, after those that came before: repeated, without all its values, then by its values
abbrev pub refused_option : List Flag → Flag → List ℕ → List (List ℕ) → Option OptionError
refused_option before f word values =
    if is_among f before then Some (error.Repeated word) else
    if nat_lt (length values) (count_of (needs_of f)) then Some (error.NeedsValue word) else refused_value (needs_of f) word values

-- a word, by the option that it is
abbrev pub refused_by : List Flag → Option Flag → Head → Option OptionError
refused_by before None h = result_err (read_other h.word)
refused_by before (Some f) h = refused_option before f h.word h.values

-- why a word is refused, after these options
abbrev pub refused_head : List Flag → Head → Option OptionError
refused_head before h = refused_by before (flag_of h.word) h

-- the first word that is refused
abbrev pub first_refused : List Flag → List Head → Option OptionError
first_refused before [] = None
first_refused before (h ∷ hs) = option_or (refused_head before h) (first_refused (before ++ cons_option (flag_of h.word) []) hs)

-- the options that are given
abbrev pub given : List Head → List Flag
given hs = filter_map (λ h. flag_of h.word) hs

-- the path that a word of no option is
abbrev pub path_by : Option Flag → List ℕ → Option Names
path_by None word = result_ok (read_other word)
path_by (Some f) word = None

-- the paths that are given
abbrev pub paths : List Head → List Names
paths hs = filter_map (λ h. path_by (flag_of h.word) h.word) hs

-- it is this option
abbrev pub is_flag : Flag → Option Flag → Bool
is_flag f None = false
is_flag f (Some g) = same_flag g f

-- where an option is given
abbrev pub head_of : Flag → List Head → Option Head
head_of f hs = find (λ h. is_flag f (flag_of h.word)) hs
