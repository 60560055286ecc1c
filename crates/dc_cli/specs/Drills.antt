-- The tree that a drill copies, made by a seed and a number of files.
use Rattle.std.specs.Prelude.{ℕ, zero, suc, ◌+◌, ◌*◌, ◌^◌, ◌%◌, cond, min, List, [], ◌∷◌, ◌++◌, map, codes, Option, Some, None}
use Rattle.std.specs.Fmt.{decimal}
use Rattle.std.specs.List.{list_any, range_with_len}
use Rattle.dc_path.specs.Paths.{Names, same_path}
use Rattle.dc_attrs.specs.Attributes.{default_file, default_dir}
use Rattle.dc_attrs.specs.Trees.{Node, Dir, File, Tree}

-- a sum of 64 bits
abbrev pub sum_64 : ℕ → ℕ → ℕ
sum_64 x y = (x + y) % 2 ^ 64

-- the number of bytes of a file
abbrev pub file_length : ℕ → ℕ → ℕ
file_length seed number = sum_64 seed (7 * number) % 100

-- its byte at a place
abbrev pub file_byte : ℕ → ℕ → ℕ → ℕ
file_byte seed number place = sum_64 (sum_64 seed number) place % 256

-- its bytes
abbrev pub file_bytes : ℕ → ℕ → List ℕ
file_bytes seed number = map (file_byte seed number) (range_with_len 0 (file_length seed number))

-- the directory that is copied
abbrev pub drill_source : Names
drill_source = codes "src" ∷ codes ".snapshot" ∷ codes "s1" ∷ []

-- where it is copied to
abbrev pub drill_target : Names
drill_target = codes "dst" ∷ []

-- the directory with this number
abbrev pub dir_path : ℕ → Names
dir_path number = drill_source ++ (codes "d" ++ decimal number) ∷ []

-- the file with this number
abbrev pub file_path : ℕ → Names
file_path number = dir_path (number % 4) ++ (codes "f" ++ decimal number) ∷ []

-- the directories: the copied one, those above it, and those in which a file stands
abbrev pub drill_dirs : ℕ → List Names
drill_dirs count =
    [] ∷ (codes "src" ∷ []) ∷ (codes "src" ∷ codes ".snapshot" ∷ []) ∷ drill_source
    ∷ map dir_path (range_with_len 0 (min count 4))

-- at a path the file with a number below the count, where it has that path, and else what else stands there
abbrev pub file_or : ℕ → ℕ → Names → Option Node → Option Node
file_or seed zero path other = other
file_or seed (suc number) path other = cond (same_path (file_path number) path) (Some (File (file_bytes seed number) default_file)) (file_or seed number path other)

-- what stands at each path: the files with the numbers below the count, and their directories
abbrev pub drill_tree : ℕ → ℕ → Tree
drill_tree seed count path = file_or seed count path (cond (list_any (λ dir. same_path dir path) (drill_dirs count)) (Some (Dir default_dir)) None)
