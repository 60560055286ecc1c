-- What looks show, in a tree of directories: at what stands, in a directory, and where there is none.
use Rattle.std.proofs.Common.{◌≡◌, List, [], ◌∷◌, ◌++◌, true, false, not, ℕ, Some, None, Option, refl, sym, ◌∙◌, ap, append_assoc, append-nil}
use Rattle.std.specs.Option.{is_some}
use Rattle.dc_path.specs.Paths.{Names}
use Rattle.dc_attrs.specs.Attributes.{Attributes}
use Rattle.dc_attrs.specs.Trees.{Tree, Node, Dir, File, IsTree, IsThere, IsDirAt, is_dir_node, seen, seen_from, seen_on, seen_node}
use Rattle.dc_attrs.specs.declared.shown.Seen.{Seen}
use Rattle.dc_attrs.specs.declared.shown.Seen.TheVariants as seen_as
use Rattle.dc_attrs.proofs.TreeLemmas.{seen_from-Dir, seen_from-there, dir_at, there_is, front_is_dir}
use Rattle.dc_listing.specs.Roots.{is_absent}
use Rattle.dc_missing.specs.Errors.{shows_dir}

-- ---- a directory
is_dir_seen : (s : Seen) → shows_dir s ≡ true → s ≡ seen_as.Dir
is_dir_seen seen_as.Missing h = cc
is_dir_seen seen_as.NotDir h = cc
is_dir_seen seen_as.Dir h = refl
is_dir_seen (seen_as.File n) h = cc

pub dir_shown : (t : Tree) (p : Names) → shows_dir (seen t p) ≡ true → IsDirAt t p
dir_shown t p h = dir_at (t p) (seen_from-Dir t [] p (is_dir_seen (seen t p) h))

pub shows_itself : (t : Tree) (p : Names) → IsTree t → IsDirAt t p → shows_dir (seen t p) ≡ true
shows_itself t p v d = ap shows_dir (seen_from-there t [] p (Dir d.0) v d.1)

-- ---- what stands
pub never_absent : (t : Tree) (p : Names) → IsTree t → is_some (t p) ≡ true → is_absent (seen t p) ≡ false
never_absent t p v h = let k = there_is (t p) h in ap is_absent (seen_from-there t [] p k.0 v k.1) ∙ node k.0
  where
    node : (n : Node) → is_absent (seen_node (Some n)) ≡ false
    node (Dir a) = refl
    node (File b a) = refl

-- nothing is under what is shown as no directory
pub nothing_under : (t : Tree) (p : Names) (x : List ℕ) (q : Names) → IsTree t → shows_dir (seen t p) ≡ false → IsThere t (p ++ x ∷ q) → ⊥
nothing_under t p x q v h s = let d = front_is_dir t p x q s.0 (t p) v s.1 refl in let e : true ≡ false = sym (shows_itself t p v d) ∙ h in cc

pub no_dir_node : (t : Tree) (p : Names) → IsTree t → shows_dir (seen t p) ≡ false → is_dir_node (t p) ≡ false
no_dir_node t p v h = by (t p) refl
  where
    by : (o : Option Node) → t p ≡ o → is_dir_node o ≡ false
    by None e = refl
    by (Some (Dir a)) e = let k : true ≡ false = sym (shows_itself t p v (a, e)) ∙ h in cc
    by (Some (File b a)) e = refl

-- ---- in a directory, a look shows what stands
seen_in : (t : Tree) (front rest : Names) (x : List ℕ) (a : Attributes) → IsTree t → t (front ++ rest) ≡ Some (Dir a) → seen_from t front (rest ++ x ∷ []) ≡ seen_node (t ((front ++ rest) ++ x ∷ []))
seen_in t front [] x a v e =
    ap (λ o. seen_on o (seen_node (t (front ++ x ∷ [])))) (ap t (sym (append-nil front)) ∙ e)
    ∙ ap (λ (p : Names). seen_node (t (p ++ x ∷ []))) (sym (append-nil front))
seen_in t front (y ∷ rest) x a v e =
    ap (λ o. seen_on o (seen_from t (front ++ y ∷ []) (rest ++ x ∷ []))) (front_is_dir t front y rest (Dir a) (t front) v e refl).1
    ∙ seen_in t (front ++ y ∷ []) rest x a v (ap t (append_assoc front (y ∷ []) rest) ∙ e)
    ∙ ap (λ (p : Names). seen_node (t (p ++ x ∷ []))) (append_assoc front (y ∷ []) rest)

pub seen_child : (t : Tree) (p : Names) (x : List ℕ) → IsTree t → IsDirAt t p → seen t (p ++ x ∷ []) ≡ seen_node (t (p ++ x ∷ []))
seen_child t p x v d = seen_in t [] p x d.0 v d.1

pub never_in_file : (o : Option Node) → seen_node o ≡ seen_as.NotDir → ⊥
never_in_file None h = cc
never_in_file (Some (Dir a)) h = cc
never_in_file (Some (File b a)) h = cc

pub absent_is : (o : Option Node) → not (is_absent (seen_node o)) ≡ is_some o
absent_is None = refl
absent_is (Some (Dir a)) = refl
absent_is (Some (File b a)) = refl
