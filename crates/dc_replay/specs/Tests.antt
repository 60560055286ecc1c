-- The tests that a tree must pass, in their order, each by a look at one path (HDFS-7535).
-- R is the report, P its plan, A the tree.
use Rattle.std.specs.Prelude.{List, [], ◌∷◌, ◌++◌, Bool, false, cond, not, ◌&&◌, ◌||◌, Option, Some, None, is_some, map, reverse}
use Rattle.dc_attrs.specs.Trees.{Node, Tree, is_dir_node}
use Rattle.dc_path.specs.Paths.{Names, front_of, is_root, same_path}
use Rattle.dc_report.specs.Carrying.{Place, Plan, is_made, moved, plan}
use Rattle.dc_replay.specs.Checking.{look, others}
use Rattle.dc_report.specs.Moves.{parents}
use Rattle.dc_report.specs.declared.entries.Entry.{Entry}
use Rattle.dc_report.specs.declared.entries.Entry.TheVariants.{Created, Deleted, Modified, Renamed}

-- the first path of the answers
abbrev pub first_some : List (Option Names) → Option Names
first_some [] = None
first_some (None ∷ os) = first_some os
first_some (Some p ∷ os) = Some p

-- the path, unless the test holds
abbrev pub unless : Bool → Names → Option Names
unless b p = cond b None (Some p)

-- the node at the path that is looked at
abbrev pub node_at : Tree → Option Names → Option Node
node_at A None = None
node_at A (Some p) = A p

-- something stands at the path that is looked at, and it is another than the old one
abbrev pub is_other : Tree → Names → Option Names → Bool
is_other A old None = false
is_other A old (Some p) = is_some (A p) && not (same_path p old)

-- the path of an entry that is not there; for what is created, a path whose parent is no directory or is deleted
abbrev pub test_entry : Plan → Tree → Entry → Option Names
test_entry P A (Deleted p) = unless (is_some (A p)) p
test_entry P A (Renamed a b) = unless (is_some (A a)) a
test_entry P A (Modified []) = None
test_entry P A (Modified (x ∷ p)) = unless (is_some (A (x ∷ p))) (x ∷ p)
test_entry P A (Created c) = unless (is_dir_node (A (front_of c)) && is_some (moved P.carries (front_of c))) c

-- what is renamed can land in d: it is the root, a directory is moved there, or it is to be made
abbrev pub has_landing : Plan → Tree → Names → Bool
has_landing P A d = is_root d || (is_dir_node (node_at A (look P.carries P.news d)) || is_made P P.news d)

-- the new path, where something else is moved to it or it has no parent to land in
abbrev pub test_new : Plan → Tree → Place → Option Names
test_new P A n = unless (not (is_other A n.old (look P.carries (others n P.news) n.new)) && has_landing P A (front_of n.new)) n.new

-- the path, where something is moved to it
abbrev pub test_free : Plan → Tree → Names → Option Names
test_free P A q = unless (not (is_some (node_at A (look P.carries P.news q)))) q

-- the parents to be made, in the order of the moves
abbrev pub made_list : Plan → List Place → List Names
made_list P [] = []
made_list P (n ∷ ns) = made_list P ns ++ parents P ns n.new

-- the answers of all tests: the entries, the new paths from the least on, the places, the parents to be made
abbrev pub all_tests : List Entry → Plan → Tree → List (Option Names)
all_tests R P A = map (test_entry P A) R ++ (map (test_new P A) (reverse P.news) ++ (map (test_free P A) P.places ++ map (test_free P A) (made_list P P.news)))

-- the path at which the first test fails; none where all hold
abbrev pub first_false : List Entry → Tree → Option Names
first_false R A = first_some (all_tests R (plan R) A)
