-- No tree refuses a file that lands where none of them is a directory and its parent is one.
use Rattle.std.proofs.Common.{◌≡◌, ℕ, List, [], ◌∷◌, Bool, true, false, cond, Option, Some, None, map, refl, ap}
use Rattle.std.proofs.lemmas.Bool.{and_from}
use Rattle.std.specs.Cmp.{second_so}
use Rattle.std.specs.Option.{is_none}
use Rattle.dc_path.specs.Found.{found}
use Rattle.dc_path.specs.Order.{is_ascending}
use Rattle.dc_path.specs.Paths.{Names, front_of, same_path}
use Rattle.dc_path.proofs.FoundLemmas.{found-once}
use Rattle.dc_path.proofs.PathLemmas.{same_path-refl}
use Rattle.dc_attrs.specs.Refusals.{refused_file, refused_in, refused_over}
use Rattle.dc_attrs.specs.Trees.{Node, Dir, File, Tree, IsTree, is_dir_node, seen, updated}
use Rattle.dc_attrs.specs.declared.refusals.TreeError.{TreeError}
use Rattle.dc_attrs.proofs.TreeLemmas.{seen_from-there}
use Rattle.dc_fs.specs.Answers.{refused_land}
use Rattle.dc_fs.specs.declared.target.Mode.{Mode}
use Rattle.dc_fs.specs.declared.target.Mode.TheVariants as mode_of
use Rattle.dc_decide.specs.Plans.{Decision}
use Rattle.dc_commit.specs.Landing.{landed_as, landing_mode}
use Rattle.dc_commit.specs.Settings.{place_of}
use Rattle.dc_commit.specs.Steps.{after, allows}
use Rattle.dc_result.proofs.Building.{file_step, landing}
use Rattle.dc_result.proofs.Effecting.{behind}
use Rattle.dc_result.proofs.KindLemmas.{changed_tree, dir_shown, dirs_stay, is_file_node}

-- ---- where a file may land
-- no directory stands at the path, its parent is one, and where bytes are added a file stands there
pub record CanLand (mode : Mode) (t : Tree) (p : Names) : Type 0 where
  pub free : is_dir_node (t p) ≡ false
  pub front : is_dir_node (t (front_of p)) ≡ true
  pub more : mode ≡ mode_of.Extend → is_file_node (t p) ≡ true

file_shown : (t : Tree) (p : Names) (o : Option Node) → IsTree t → t p ≡ o → is_file_node o ≡ true → refused_file (seen t p) ≡ None
file_shown t p None v e h = absurd (cc)
file_shown t p (Some (Dir a)) v e h = absurd (cc)
file_shown t p (Some (File b a)) v e h = ap refused_file (seen_from-there t [] p (File b a) v e)

over_none : (o : Option Node) (why : Option TreeError) → is_dir_node o ≡ false → why ≡ None → refused_over o why ≡ None
over_none None why h e = e
over_none (Some (Dir a)) why h e = absurd (cc)
over_none (Some (File b a)) why h e = e

pub lands_one : (mode : Mode) (t : Tree) (p : Names) → IsTree t → CanLand mode t p → refused_land mode t p ≡ None
lands_one mode_of.Replace t p v can = over_none (t p) (refused_in (seen t (front_of p))) can.free (ap refused_in (dir_shown t (front_of p) v can.front))
lands_one mode_of.Extend t p v can = file_shown t p (t p) v refl (can.more refl)

-- ---- what landing leaves
-- what lands is no directory, and a file stays one
landed_free : (mode : Mode) (bytes : Option (List ℕ)) (o : Option Node) → is_dir_node o ≡ false → is_dir_node (landed_as mode bytes o) ≡ false
landed_free mode None o h = h
landed_free mode_of.Replace (Some b) o h = refl
landed_free mode_of.Extend (Some b) None h = refl
landed_free mode_of.Extend (Some b) (Some (Dir a)) h = h
landed_free mode_of.Extend (Some b) (Some (File d a)) h = refl

pub landed_file : (mode : Mode) (bytes : Option (List ℕ)) (o : Option Node) → is_file_node o ≡ true → is_file_node (landed_as mode bytes o) ≡ true
landed_file mode None o h = h
landed_file mode_of.Replace (Some b) o h = refl
landed_file mode_of.Extend (Some b) None h = h
landed_file mode_of.Extend (Some b) (Some (Dir a)) h = h
landed_file mode_of.Extend (Some b) (Some (File d a)) h = refl

free_still : (b : Bool) (mode : Mode) (bytes : Option (List ℕ)) (o : Option Node) → is_dir_node o ≡ false → is_dir_node (cond b (landed_as mode bytes o) o) ≡ false
free_still true mode bytes o h = landed_free mode bytes o h
free_still false mode bytes o h = h

file_still : (b : Bool) (mode : Mode) (bytes : Option (List ℕ)) (o : Option Node) → is_file_node o ≡ true → is_file_node (cond b (landed_as mode bytes o) o) ≡ true
file_still true mode bytes o h = landed_file mode bytes o h
file_still false mode bytes o h = h

can_still : (t : Tree) (p q : Names) (mode other : Mode) (bytes : Option (List ℕ)) → is_dir_node (t p) ≡ false → CanLand other t q → CanLand other (updated t p (landed_as mode bytes)) q
can_still t p q mode other bytes h can = record {
  free = free_still (same_path p q) mode bytes (t q) can.free;
  front = dirs_stay t p (landed_as mode bytes) (front_of q) h can.front;
  more = λ e. file_still (same_path p q) mode bytes (t q) (can.more e);
}

-- ---- files in a row
-- each of these items can land
abbrev pub AllLand : Names → Tree → List Decision → Type 0
AllLand base t [] = Unit {0}
AllLand base t (d ∷ ds) = CanLand (landing_mode d.action) t (place_of base d) × AllLand base t ds

all_still : (s : Tree) (base : Names) (t : Tree) (d : Decision) (ds : List Decision) → is_dir_node (t (place_of base d)) ≡ false → AllLand base t ds → AllLand base (updated t (place_of base d) (landing s d)) ds
all_still s base t d [] h a = tt
all_still s base t d (e ∷ ds) h a =
    (can_still t (place_of base d) (place_of base e) (landing_mode d.action) (landing_mode e.action) _ h a.0, all_still s base t d ds h a.1)

pub record Lands (s : Tree) (base : Names) (ds : List Decision) (t : Tree) : Type 0 where
  pub allowed : allows (map (file_step s base) ds) t ≡ true
  pub tree : IsTree (after (map (file_step s base) ds) t)
  pub dirs : (q : Names) → is_dir_node (t q) ≡ true → is_dir_node (after (map (file_step s base) ds) t q) ≡ true

pub all_land : (s : Tree) (base : Names) (ds : List Decision) (t : Tree) → IsTree t → AllLand base t ds → Lands s base ds t
all_land s base [] t v a = record { allowed = refl; tree = v; dirs = λ q h. h }
all_land s base (d ∷ ds) t v a =
    let keep : (q : Names) → is_dir_node (t q) ≡ true → is_dir_node (updated t (place_of base d) (landing s d) q) ≡ true = λ q h. dirs_stay t (place_of base d) (landing s d) q a.0.free h in
    let next = changed_tree t (place_of base d) (landing s d) v a.0.front keep in
    let rest = all_land s base ds (updated t (place_of base d) (landing s d)) next (all_still s base t d ds a.0.free a.1) in
    record { allowed = and_from ((file_step s base d).may t) _ (ap is_none (lands_one (landing_mode d.action) t (place_of base d) v a.0)) rest.allowed; tree = rest.tree; dirs = λ q h. rest.dirs q (keep q h) }

-- what can land at each place that is found, all items can
pub each_lands : (base : Names) (t : Tree) (ds : List Decision) → is_ascending (map (place_of base) ds) ≡ true
    → ((q : Names) (d : Decision) → found (place_of base) ds q ≡ Some d → CanLand (landing_mode d.action) t (place_of base d)) → AllLand base t ds
each_lands base t [] a h = tt
each_lands base t (d ∷ ds) a h = (
  h (place_of base d) d (ap (λ b. cond b (Some d) (found (place_of base) ds (place_of base d))) (same_path-refl (place_of base d))),
  each_lands base t ds (second_so _ _ a) (λ q e k. h q e (behind d e (found (place_of base) ds q) (same_path (place_of base d) q) (found-once (place_of base) d ds q a) k)),
)
