-- The options: their words, and what must follow each (Hadoop DistCp Guide, "Command Line Options"; the limits are own).
use Rattle.std.specs.Prelude.{ℕ, Bool, List, [], ◌∷◌, codes, Option, Some, None, cond}
use Rattle.std.specs.List.{find, list_any, starts_with}
use denote.Enum.Bare.{sameb}
use Rattle.dc_options.specs.contracts.table.Flag.{the_type}
use Rattle.std.specs.Prelude.{nat_eq}
use Rattle.dc_path.specs.Names.{same_name}
use Rattle.dc_options.specs.declared.table.Flag.{Flag}
use Rattle.dc_options.specs.declared.table.Flag.TheVariants as flag
use Rattle.dc_options.specs.declared.table.Needs.{Needs}
use Rattle.dc_options.specs.declared.table.Needs.TheVariants as needs

-- the word of each option
unfoldable pub word_of : Flag → List ℕ
word_of flag.Ignore = codes "-i"
word_of flag.Keep = codes "-p"
word_of flag.Maps = codes "-m"
word_of flag.Update = codes "-update"
word_of flag.Overwrite = codes "-overwrite"
word_of flag.Append = codes "-append"
word_of flag.Delete = codes "-delete"
word_of flag.SkipCrc = codes "-skipcrccheck"
word_of flag.Atomic = codes "-atomic"
word_of flag.Tmp = codes "-tmp"
word_of flag.Diff = codes "-diff"
word_of flag.Rdiff = codes "-rdiff"
word_of flag.Files = codes "-f"
word_of flag.Filters = codes "-filters"
word_of flag.Strategy = codes "-strategy"
word_of flag.Blocks = codes "-blocksperchunk"
word_of flag.Buffer = codes "-copybuffersize"
word_of flag.Kills = codes "-kills"

-- what must follow the word of each option
unfoldable pub needs_of : Flag → Needs
needs_of flag.Ignore = needs.Nothing
needs_of flag.Keep = needs.Letters
needs_of flag.Maps = needs.Number 1 65535
needs_of flag.Update = needs.Nothing
needs_of flag.Overwrite = needs.Nothing
needs_of flag.Append = needs.Nothing
needs_of flag.Delete = needs.Nothing
needs_of flag.SkipCrc = needs.Nothing
needs_of flag.Atomic = needs.Nothing
needs_of flag.Tmp = needs.Path
needs_of flag.Diff = needs.Snapshots
needs_of flag.Rdiff = needs.Snapshots
needs_of flag.Files = needs.Path
needs_of flag.Filters = needs.Path
needs_of flag.Strategy = needs.Strategy
needs_of flag.Blocks = needs.Number 0 2147483647
needs_of flag.Buffer = needs.Number 1 16777216
needs_of flag.Kills = needs.Path

-- the options
unfoldable pub flags : List Flag
flags =
    flag.Ignore ∷ flag.Keep ∷ flag.Maps ∷ flag.Update ∷ flag.Overwrite ∷ flag.Append ∷ flag.Delete ∷ flag.SkipCrc ∷ flag.Atomic
    ∷ flag.Tmp ∷ flag.Diff ∷ flag.Rdiff ∷ flag.Files ∷ flag.Filters ∷ flag.Strategy ∷ flag.Blocks ∷ flag.Buffer ∷ flag.Kills ∷ []

-- the option that a word is: `-p` where it begins so, and else the one with this word
unfoldable pub flag_of : List ℕ → Option Flag
flag_of word = cond (starts_with nat_eq word (codes "-p")) (Some flag.Keep) (find (λ f. same_name (word_of f) word) flags)

-- how many words follow as values
abbrev pub count_of : Needs → ℕ
count_of needs.Nothing = 0
count_of needs.Letters = 0
count_of (needs.Number least most) = 1
count_of needs.Path = 1
count_of needs.Strategy = 1
count_of needs.Snapshots = 2

-- the two are one option
abbrev pub same_flag : Flag → Flag → Bool
same_flag = sameb the_type

-- the option is one of these
abbrev pub is_among : Flag → List Flag → Bool
is_among f fs = list_any (λ g. same_flag g f) fs

-- how many words follow a word as its values
abbrev pub wanted : Option Flag → ℕ
wanted None = 0
wanted (Some f) = count_of (needs_of f)
