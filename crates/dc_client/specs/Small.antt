-- A small copy: the trees before and after it, and what it lands, counts and prints.
use Rattle.std.specs.Prelude.{ℕ, List, [], ◌∷◌, codes}
use Rattle.dc_path.specs.Paths.{Names}
use Rattle.dc_attrs.specs.Attributes.{default_file, default_dir}
use Rattle.dc_attrs.specs.Trees.{Dir, File, Tree, bare, with_node}
use Rattle.dc_fs.specs.declared.target.Landed.{Landed}
use Rattle.dc_fs.specs.declared.target.Mode.TheVariants as mode_of
use Rattle.dc_engine.specs.declared.outcome.Counts.{Counts}

-- the root, and a directory of this name with the file `a` in it, whose bytes are `hi`
abbrev pub small : List ℕ → Tree
small name = with_node (with_node bare (name ∷ []) (Dir default_dir)) (name ∷ codes "a" ∷ []) (File (codes "hi") default_file)

-- the directory that is copied, the one that it is copied to, and the file of the copy
abbrev pub from_dir : Names
from_dir = codes "s" ∷ []

abbrev pub to_dir : Names
to_dir = codes "d" ∷ []

abbrev pub to_file : Names
to_file = codes "d" ∷ codes "a" ∷ []

-- the words that ask for it
abbrev pub small_words : List (List ℕ)
small_words = codes "/s" ∷ codes "/d" ∷ []

-- the one file lands once, with its two bytes
abbrev pub small_landed : List Landed
small_landed = record { path = to_file; mode = mode_of.Replace; bytes = 2 } ∷ []

abbrev pub small_counts : Counts
small_counts = record { copied = 1; dirs = 0; skipped = 0; failed = 0; bytes_copied = 2; bytes_skipped = 0 }

-- what is printed: the counters and how it ended, or that memory ran out
abbrev pub small_lines : List ℕ
small_lines = codes "COPY=1\nDIR_COPY=0\nSKIP=0\nFAIL=0\nBYTESCOPIED=2\nBYTESSKIPPED=0\ncommitted\n"

abbrev pub memory_line : List ℕ
memory_line = codes "distcp: no memory\n"
