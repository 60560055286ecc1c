-- What words give, as the code keeps it.
use Rattle.std.specs.Prelude.{ℕ, zero, suc, cond, List, [], ◌∷◌, ◌++◌, Option, Some, None, Result}
use Rattle.dc_path.specs.Paths.{Names}
use Rattle.dc_options.specs.Table.{flag_of, wanted}
use Rattle.dc_options.specs.Words.{Head, is_flag, first_refused, given, paths}
use Rattle.dc_options.specs.Reading.{unless}
use Rattle.dc_options.specs.declared.table.Flag.{Flag}
use Rattle.dc_options.specs.declared.words.Given.{Given}
use Rattle.dc_options.specs.declared.errors.OptionError.{OptionError}

-- behind these options and paths
abbrev pub given_after : List Flag → List Names → List Head → Result Given OptionError
given_after flags before hs = unless (first_refused flags hs) (record { flags = flags ++ given hs; paths = before ++ paths hs })

-- the options and the paths, unless a word is refused
abbrev pub given_by : List Head → Result Given OptionError
given_by hs = given_after [] [] hs

-- the words from that of an option on, where the first so many are values
abbrev pub words_from : Flag → ℕ → List (List ℕ) → Option (List (List ℕ))
words_from f n [] = None
words_from f zero (word ∷ words) = cond (is_flag f (flag_of word)) (Some (word ∷ words)) (words_from f (wanted (flag_of word)) words)
words_from f (suc n) (word ∷ words) = words_from f n words
