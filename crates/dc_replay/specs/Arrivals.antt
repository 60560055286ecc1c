-- What a tree becomes by a report: one renaming, and the directories that are made (HDFS-7535).
-- P is the plan of the report.
use Rattle.std.specs.Prelude.{List, [], ◌∷◌, ◌++◌, cond, Option, Some, None}
use Rattle.dc_attrs.specs.Attributes.{default_dir}
use Rattle.dc_attrs.specs.Trees.{Dir, Node, Tree}
use Rattle.dc_path.specs.Paths.{Names, at_cut, cut}
use Rattle.dc_report.specs.Carrying.{Place, Plan, is_made, moved}
use Rattle.dc_report.specs.Landings.{is_at}

-- what stands at a path: what stood there, or a renamed item with a rest after its new path
pub data Arrival : Type 0 where
  Here : Arrival
  From : (n : Place) → (rest : Names) → Arrival

-- the renamed item with the longest new path that is a front of q; the list descends by new path, so it is the first that fits
abbrev pub arrival : List Place → Names → Arrival
arrival [] q = Here
arrival (n ∷ ns) q = at_cut (cut n.new q) (arrival ns q) (λ r. From n r)

-- the path where what stands there stood before
abbrev pub source_as : Names → Arrival → Names
source_as q Here = q
source_as q (From n r) = n.old ++ r

-- the one path that may be moved to q
abbrev pub source : List Place → Names → Names
source ns q = source_as q (arrival ns q)

-- what stood at the path that is moved to q
abbrev pub came : Plan → Tree → Names → Option Node
came P A q = let p = source P.news q in cond (is_at (moved P.carries p) q) (A p) None

-- what a tree becomes: a default directory at each parent to be made, and elsewhere what is moved there
abbrev pub shifted : Plan → Tree → Tree
shifted P A q = cond (is_made P P.news q) (Some (Dir default_dir)) (came P A q)
