-- What the target has and the source lacks (Hadoop DistCp, `CopyCommitter.deleteMissing`; HDFS Snapshots, "Snapshot Paths").
use Rattle.std.specs.Prelude.{◌≡◌, Bool, true, false, not, ◌&&◌, List, [], ◌∷◌, ◌++◌}
use Rattle.std.specs.List.{list_all, list_any}
use Rattle.dc_path.specs.Order.{is_after}
use Rattle.dc_path.specs.Paths.{Names, same_path, is_under, cut, at_cut}
use Rattle.dc_attrs.specs.Trees.{Tree, IsThere, is_hidden}
use Rattle.dc_decide.specs.Plans.{Decisions, item_rel}

-- the path is the place of an item
abbrev pub is_place : Decisions → Names → Bool
is_place plan p = list_any (λ d. same_path (plan.base ++ item_rel d) p) plan.items

-- the place of an item is the path or under it
abbrev pub has_under : Decisions → Names → Bool
has_under plan p = list_any (λ d. is_under p (plan.base ++ item_rel d)) plan.items

-- what stands at this path from a directory goes: nothing at or under it is listed, and nothing hidden stands under it
pub record Goes (t : Tree) (listed : Names → Bool) (dir q : Names) : Type 0 where
  pub unlisted : (rest : Names) → listed (dir ++ (q ++ rest)) ≡ false
  pub unhidden : (rest : Names) → IsThere t (dir ++ (q ++ rest)) → is_hidden (q ++ rest) ≡ false

-- one of the paths is this one, or it is under one of them
abbrev pub covers : List Names → Names → Bool
covers paths p = list_any (λ path. is_under path p) paths

-- each path comes after all that is under those before it: so none is under another
abbrev pub are_apart : List Names → Bool
are_apart [] = true
are_apart (p ∷ paths) = list_all (is_after p) paths && are_apart paths

-- a path from a directory leads to what is below it and not hidden there
abbrev pub is_visible : Names → Bool
is_visible [] = false
is_visible (x ∷ rest) = not (is_hidden (x ∷ rest))

-- a path leads below the base, and is not hidden there
abbrev pub leads_below : Names → Names → Bool
leads_below base p = at_cut (cut base p) false is_visible
