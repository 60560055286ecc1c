-- What options are set to: the value of an option's word, or the default (Hadoop DistCp Guide, "Command Line Options").
use Rattle.std.specs.Prelude.{ℕ, ◌-◌, ◌≤◌, Bool, true, ◌&&◌, IsTrue, List, [], ◌∷◌, length, take, codes, nat_le, get_or, Option, Some, None, Result, Ok, Err, unwrap_or, if◌then◌else◌}
use Rattle.dc_path.specs.Numbers.{number_in}
use Rattle.dc_path.specs.Names.{same_name}
use Rattle.std.specs.Result.{result_ok}
use Rattle.dc_path.specs.Paths.{Names}
use Rattle.dc_path.specs.Reading.{path_from}
use Rattle.dc_attrs.specs.Keeping.{Kept, kept_by, read_letters}
use Rattle.dc_attrs.specs.declared.keeping.KeepError.{KeepError}
use Rattle.dc_options.specs.Table.{is_among, needs_of}
use Rattle.dc_options.specs.Values.{is_snapshot, letters_of, first}
use Rattle.dc_options.specs.Words.{Head, given, paths, head_of}
use Rattle.dc_options.specs.declared.table.Flag.{Flag}
use Rattle.dc_options.specs.declared.table.Flag.TheVariants as flag
use Rattle.dc_options.specs.declared.table.Needs.{Needs}
use Rattle.dc_options.specs.declared.table.Needs.TheVariants as needs
use Rattle.dc_options.specs.declared.settings.SyncBy.{SyncBy}
use Rattle.dc_options.specs.declared.settings.SyncBy.TheVariants as sync
use Rattle.dc_options.specs.declared.settings.Strategy.{Strategy}
use Rattle.dc_options.specs.declared.settings.Strategy.TheVariants as strategy

-- what the options are set to
pub record Settings : Type 0 where
  pub ignore : Bool
  pub keep : Kept
  pub maps : ℕ
  pub update : Bool
  pub overwrite : Bool
  pub append : Bool
  pub delete : Bool
  pub skip_crc : Bool
  pub atomic : Bool
  pub tmp : Option Names
  pub sync : SyncBy
  pub list : Option Names
  pub filters : Option Names
  pub kills : Option Names
  pub strategy : Strategy
  pub blocks : ℕ
  pub buffer : ℕ
  pub sources : List Names
  pub target : Names

-- the values where an option is given; none where it is not
abbrev pub values_in : Option Head → List (List ℕ)
values_in None = []
values_in (Some h) = h.values

-- the values of this option
unfoldable pub values_of : Flag → List Head → List (List ℕ)
values_of f hs = values_in (head_of f hs)

-- the letters after `-p`, where none means all but `a` and `x`
abbrev pub letters_or_usual : List ℕ → List ℕ
letters_or_usual [] = codes "rbugpt"
letters_or_usual (letter ∷ letters) = letter ∷ letters

-- the set that was read
abbrev pub keep_or_none : Result Kept KeepError → Kept
keep_or_none (Ok keep) = keep
keep_or_none (Err e) = kept_by []

-- what the letters of a word that begins with `-p` keep
unfoldable pub keep_by : List ℕ → Kept
keep_by word = keep_or_none (read_letters (letters_or_usual (letters_of word)))

-- what `-p` keeps, where it is given
abbrev pub keep_in : Option Head → Kept
keep_in None = kept_by []
keep_in (Some h) = keep_by h.word

-- the number that a text is, where one is needed
abbrev pub number_by : Needs → List ℕ → Option ℕ
number_by needs.Nothing text = None
number_by needs.Letters text = None
number_by (needs.Number least most) text = number_in least most text
number_by needs.Path text = None
number_by needs.Strategy text = None
number_by needs.Snapshots text = None

-- the number that is the value of an option, or its default
unfoldable pub number_or : Flag → ℕ → List Head → ℕ
number_or f other hs = unwrap_or (number_by (needs_of f) (first (values_of f hs))) other

-- the path that is the value
abbrev pub path_in : List (List ℕ) → Option Names
path_in values = result_ok (path_from (first values))

-- the strategy that the value names
abbrev pub strategy_in : List (List ℕ) → Strategy
strategy_in values = if same_name (first values) (codes "dynamic") then strategy.Dynamic else strategy.Uniform

-- the two names that are the values
abbrev pub names_in : List (List ℕ) → Option (List ℕ × List ℕ)
names_in (one ∷ other ∷ values) = if is_snapshot one && is_snapshot other then Some (one, other) else None
names_in _ = None

-- the report to replay (HDFS-7535, `-diff`; HDFS-9820, `-rdiff`)
abbrev pub sync_in : Option (List ℕ × List ℕ) → Option (List ℕ × List ℕ) → SyncBy
sync_in (Some names) other = sync.Diff names.0 names.1
sync_in None (Some names) = sync.Rdiff names.0 names.1
sync_in None None = sync.None

-- what options are set to, where these are given, with these paths
unfoldable pub settings_with : List Flag → List Head → List Names → Names → Settings
settings_with flags hs sources target =
    let has : Flag → Bool = λ f. is_among f flags in
    record {
      ignore = has flag.Ignore;
      keep = keep_in (head_of flag.Keep hs);
      maps = number_or flag.Maps 20 hs;
      update = has flag.Update;
      overwrite = has flag.Overwrite;
      append = has flag.Append;
      delete = has flag.Delete;
      skip_crc = has flag.SkipCrc;
      atomic = has flag.Atomic;
      tmp = path_in (values_of flag.Tmp hs);
      sync = sync_in (names_in (values_of flag.Diff hs)) (names_in (values_of flag.Rdiff hs));
      list = path_in (values_of flag.Files hs);
      filters = path_in (values_of flag.Filters hs);
      kills = path_in (values_of flag.Kills hs);
      strategy = strategy_in (values_of flag.Strategy hs);
      blocks = number_or flag.Blocks 0 hs;
      buffer = number_or flag.Buffer 8192 hs;
      sources = sources;
      target = target;
    }

-- all paths but the last are sources, and the last is the target
abbrev pub settings : List Head → Settings
settings hs = settings_with (given hs) hs (take (length (paths hs) - 1) (paths hs)) (get_or (paths hs) (length (paths hs) - 1) [])

-- names short enough that a folder's own name fits before them
abbrev pub are_short : SyncBy → Bool
are_short sync.None = true
are_short (sync.Diff from to) = nat_le (length from) 252 && nat_le (length to) 252
are_short (sync.Rdiff newer older) = nat_le (length newer) 252 && nat_le (length older) 252

-- the limits that options always keep
pub record IsWithin (s : Settings) : Type 0 where
  pub some_maps : 1 ≤ s.maps
  pub few_maps : s.maps ≤ 65535
  pub few_blocks : s.blocks ≤ 2147483647
  pub some_buffer : 1 ≤ s.buffer
  pub small_buffer : s.buffer ≤ 16777216
  pub short : IsTrue (are_short s.sync)
