-- What words are read as.
use Rattle.std.specs.Prelude.{List, [], ℕ, length, Option, Some, None, Result, Ok, Err}
use Rattle.std.specs.Option.{option_or}
use Rattle.dc_options.specs.Table.{is_among}
use Rattle.dc_options.specs.Words.{Head, heads, first_refused, given, paths}
use Rattle.dc_options.specs.Sets.{refused_set}
use Rattle.dc_options.specs.Settings.{Settings, settings}
use Rattle.dc_options.specs.declared.errors.OptionError.{OptionError}

-- an answer, unless there is a refusal
abbrev pub unless : {A : Type 0} → Option OptionError → A → Result A OptionError
unless None answer = Ok answer
unless (Some e) answer = Err e

-- why words are refused: the first word that is, or else the first set of options that is
abbrev pub refused : List Head → Option OptionError
refused hs = option_or (first_refused [] hs) (refused_set (λ f. is_among f (given hs)) (length (paths hs)))

-- what the words set the options to, or why they are refused
abbrev pub options : List (List ℕ) → Result Settings OptionError
options words = unless (refused (heads 0 words)) (settings (heads 0 words))
