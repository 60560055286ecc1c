-- What moves make of a tree, which of them it does not refuse, and where they take its paths (HDFS-7535).
use Rattle.std.specs.Prelude.{◌≡◌, List, [], ◌∷◌, ◌++◌, None}
use Rattle.dc_attrs.specs.Attributes.{default_dir}
use Rattle.dc_attrs.specs.Trees.{Dir, Tree, moved as tree_moved, with_node, without, IsThere, IsFree}
use Rattle.dc_path.specs.Paths.{Names, at_cut, cut}
use Rattle.dc_report.specs.declared.entries.Move.{Move}
use Rattle.dc_report.specs.declared.entries.Move.TheVariants.{Clear, Make, Shift}

-- what a move makes of a tree
abbrev pub step : Move → Tree → Tree
step (Make p) t = with_node t p (Dir default_dir)
step (Shift a b) t = tree_moved t a b
step (Clear p) t = without t p

-- what moves make of a tree, one after the other
abbrev pub after : List Move → Tree → Tree
after [] t = t
after (m ∷ ms) t = after ms (step m t)

-- the move finds what it needs: what is moved or cleared stands and is not the root, and a new path is free and not under the old one
abbrev pub IsAllowed : Tree → Move → Type 0
IsAllowed t (Make p) = IsFree t p
IsAllowed t (Shift a b) = IsThere t a × IsFree t b × (cut a b ≡ None)
IsAllowed t (Clear p) = IsThere t p × (cut p [] ≡ None)

-- each move finds what it needs in the tree that those before it made
abbrev pub AreAllowed : Tree → List Move → Type 0
AreAllowed t [] = Unit {0}
AreAllowed t (m ∷ ms) = IsAllowed t m × AreAllowed (step m t) ms

-- the tree T with the tree A at d
abbrev pub graft : Names → Tree → Tree → Tree
graft d T A q = at_cut (cut d q) (T q) A

-- where a move takes a path: a shift puts its new path in the place of its old one
abbrev pub track : Move → Names → Names
track (Make p) q = q
track (Shift a b) q = at_cut (cut a q) q (λ r. b ++ r)
track (Clear p) q = q

-- where all the moves take a path
abbrev pub tracked : List Move → Names → Names
tracked [] q = q
tracked (m ∷ ms) q = tracked ms (track m q)
