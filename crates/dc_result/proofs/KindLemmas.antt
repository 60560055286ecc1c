-- Directories and files of a tree, and changes that keep it a tree.
use Rattle.std.proofs.Common.{◌≡◌, ℕ, List, [], ◌∷◌, ◌++◌, Bool, true, false, cond, Option, Some, None, refl, sym, ◌∙◌, ap, subst}
use Rattle.dc_path.specs.Paths.{Names, front_of, same_path}
use Rattle.dc_path.proofs.PathLemmas.{front_of-append, same_path-true}
use Rattle.dc_attrs.specs.Attributes.{Attributes}
use Rattle.dc_attrs.specs.Trees.{Node, Dir, File, Tree, IsDirAt, IsTree, is_dir_node, made, seen, seen_from, seen_node, seen_on, updated}
use Rattle.dc_attrs.specs.declared.shown.Seen.{Seen}
use Rattle.dc_attrs.specs.declared.shown.Seen.TheVariants as seen_as
use Rattle.dc_attrs.proofs.TreeLemmas.{seen_from-Dir, seen_from-there}
use Rattle.dc_result.specs.Begins.{is_no_file}

-- a file stands there
abbrev pub is_file_node : Option Node → Bool
is_file_node None = false
is_file_node (Some (Dir a)) = false
is_file_node (Some (File b a)) = true

-- ---- what is a directory
pub dir_stands : (t : Tree) (p : Names) → is_dir_node (t p) ≡ true → IsDirAt t p
dir_stands t p h = by (t p) h
  where
    by : (o : Option Node) → is_dir_node o ≡ true → (a : Attributes) × (o ≡ Some (Dir a))
    by None e = absurd (cc)
    by (Some (Dir a)) e = (a, refl)
    by (Some (File b a)) e = absurd (cc)

pub stands_dir : (t : Tree) (p : Names) → IsDirAt t p → is_dir_node (t p) ≡ true
stands_dir t p d = ap is_dir_node d.1

pub dir_shown : (t : Tree) (p : Names) → IsTree t → is_dir_node (t p) ≡ true → seen t p ≡ seen_as.Dir
dir_shown t p v h = let d = dir_stands t p h in seen_from-there t [] p (Dir d.0) v d.1

seen_dir_node : (o : Option Node) → seen_node o ≡ seen_as.Dir → is_dir_node o ≡ true
seen_dir_node None e = absurd (cc)
seen_dir_node (Some (Dir a)) e = refl
seen_dir_node (Some (File b a)) e = absurd (cc)

pub shown_dir : (t : Tree) (p : Names) → seen t p ≡ seen_as.Dir → is_dir_node (t p) ≡ true
shown_dir t p h = seen_dir_node (t p) (seen_from-Dir t [] p h)

-- a tree, by its directories
pub tree_of_dirs : (t : Tree) → is_dir_node (t []) ≡ true → ((q : Names) (x : List ℕ) (n : Node) → t (q ++ x ∷ []) ≡ Some n → is_dir_node (t q) ≡ true) → IsTree t
tree_of_dirs t root up = record { root = dir_stands t [] root; parents = λ q x n h. dir_stands t q (up q x n h) }

pub parent_dir : (t : Tree) (q : Names) (x : List ℕ) (n : Node) → IsTree t → t (q ++ x ∷ []) ≡ Some n → is_dir_node (t q) ≡ true
parent_dir t q x n v h = stands_dir t q (v.parents q x n h)

-- ---- changes at one path
-- a change at a path whose parent is a directory, and that leaves each directory one, leaves a tree
pub changed_tree : (t : Tree) (p : Names) (change : Option Node → Option Node) → IsTree t → is_dir_node (t (front_of p)) ≡ true
    → ((q : Names) → is_dir_node (t q) ≡ true → is_dir_node (updated t p change q) ≡ true) → IsTree (updated t p change)
changed_tree t p change v front keep = tree_of_dirs (updated t p change) (keep [] (stands_dir t [] v.root)) (λ q x n h. by q x n (same_path p (q ++ x ∷ [])) refl h)
  where
    by : (q : Names) (x : List ℕ) (n : Node) (b : Bool) → same_path p (q ++ x ∷ []) ≡ b → cond b (change (t (q ++ x ∷ []))) (t (q ++ x ∷ [])) ≡ Some n → is_dir_node (updated t p change q) ≡ true
    by q x n true e h = keep q (subst (λ (f : Names). is_dir_node (t f) ≡ true) (ap front_of (same_path-true p (q ++ x ∷ []) e) ∙ front_of-append q x) front)
    by q x n false e h = keep q (parent_dir t q x n v h)

pub made_dir : (b : Bool) (o : Option Node) → is_dir_node o ≡ true → is_dir_node (cond b (made o) o) ≡ true
made_dir true None h = refl
made_dir true (Some n) h = h
made_dir false o h = h

pub made_here : (o : Option Node) → is_no_file o ≡ true → is_dir_node (made o) ≡ true
made_here None h = refl
made_here (Some n) h = h

pub made_free : (b : Bool) (o : Option Node) → is_no_file o ≡ true → is_no_file (cond b (made o) o) ≡ true
made_free true None h = refl
made_free true (Some n) h = h
made_free false o h = h

-- a change where no directory stands leaves each directory one
pub dirs_stay : (t : Tree) (p : Names) (change : Option Node → Option Node) (q : Names) → is_dir_node (t p) ≡ false → is_dir_node (t q) ≡ true → is_dir_node (updated t p change q) ≡ true
dirs_stay t p change q other h = by (same_path p q) refl
  where
    by : (b : Bool) → same_path p q ≡ b → is_dir_node (cond b (change (t q)) (t q)) ≡ true
    by true e = let f : true ≡ false = sym h ∙ ap (λ (r : Names). is_dir_node (t r)) (sym (same_path-true p q e)) ∙ other in absurd (cc)
    by false e = h

-- ---- trees that show the same
on_same : (o u : Option Node) (s : Seen) → seen_node u ≡ seen_node o → seen_on u s ≡ seen_on o s
on_same None None s h = refl
on_same None (Some (Dir a)) s h = absurd (cc)
on_same None (Some (File b a)) s h = absurd (cc)
on_same (Some (Dir a)) None s h = absurd (cc)
on_same (Some (Dir a)) (Some (Dir c)) s h = refl
on_same (Some (Dir a)) (Some (File b c)) s h = absurd (cc)
on_same (Some (File b a)) None s h = absurd (cc)
on_same (Some (File b a)) (Some (Dir c)) s h = absurd (cc)
on_same (Some (File b a)) (Some (File d c)) s h = refl

pub same_from : (t u : Tree) (front q : Names) → ((p : Names) → seen_node (u p) ≡ seen_node (t p)) → seen_from u front q ≡ seen_from t front q
same_from t u front [] h = h front
same_from t u front (x ∷ q) h = on_same (t front) (u front) (seen_from u (front ++ x ∷ []) q) (h front) ∙ ap (seen_on (t front)) (same_from t u (front ++ x ∷ []) q h)

some_shown : (o u : Option Node) (n : Node) → seen_node u ≡ seen_node o → u ≡ Some n → (m : Node) × (o ≡ Some m)
some_shown None None n h e = absurd (cc)
some_shown None (Some (Dir a)) n h e = absurd (cc)
some_shown None (Some (File b a)) n h e = absurd (cc)
some_shown (Some m) u n h e = (m, refl)

-- what shows the same as a tree is one
pub same_tree : (t u : Tree) → ((p : Names) → seen_node (u p) ≡ seen_node (t p)) → IsTree t → IsTree u
same_tree t u h v = tree_of_dirs u (seen_dir_node (u []) (h [] ∙ ap seen_node v.root.1))
    (λ q x n e. let m = some_shown (t (q ++ x ∷ [])) (u (q ++ x ∷ [])) n (h (q ++ x ∷ [])) e in seen_dir_node (u q) (h q ∙ ap seen_node (v.parents q x m.0 m.1).1))
