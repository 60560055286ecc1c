-- Trees: what a look at them shows, and what stands under what.
use Rattle.std.proofs.Common.{◌≡◌, ℕ, List, [], ◌∷◌, ◌++◌, length, true, Option, Some, None, refl, sym, ◌∙◌, ap, subst, append_assoc, Bool, cond, false}
use Rattle.std.proofs.lemmas.List.{append-nil}
use Rattle.std.specs.Option.{is_some}
use Rattle.dc_path.specs.Paths.{Names}
use Rattle.dc_attrs.specs.Attributes.{Attributes}
use Rattle.dc_attrs.specs.Trees.{Node, Dir, File, Tree, IsDirAt, IsTree, seen_from, seen_on, seen_node}
use Rattle.dc_attrs.specs.declared.shown.Seen.{Seen}
use Rattle.dc_attrs.specs.declared.shown.Seen.TheVariants as seen_as

-- ---- what stands where a look shows a directory or a file
seen_on-Dir : (o : Option Node) (s : Seen) → seen_on o s ≡ seen_as.Dir → s ≡ seen_as.Dir
seen_on-Dir None s h = cc
seen_on-Dir (Some (Dir a)) s h = h
seen_on-Dir (Some (File b a)) s h = cc

seen_on-File : (o : Option Node) (s : Seen) (n : ℕ) → seen_on o s ≡ seen_as.File n → s ≡ seen_as.File n
seen_on-File None s n h = cc
seen_on-File (Some (Dir a)) s n h = h
seen_on-File (Some (File b a)) s n h = cc

pub seen_from-Dir : (t : Tree) (front rest : Names) → seen_from t front rest ≡ seen_as.Dir → seen_node (t (front ++ rest)) ≡ seen_as.Dir
seen_from-Dir t front [] h = rw append-nil h
seen_from-Dir t front (x ∷ rest) h = subst (λ (p : Names). seen_node (t p) ≡ seen_as.Dir) (append_assoc front (x ∷ []) rest) (seen_from-Dir t (front ++ x ∷ []) rest (seen_on-Dir (t front) _ h))

pub seen_from-File : (t : Tree) (front rest : Names) (n : ℕ) → seen_from t front rest ≡ seen_as.File n → seen_node (t (front ++ rest)) ≡ seen_as.File n
seen_from-File t front [] n h = rw append-nil h
seen_from-File t front (x ∷ rest) n h = subst (λ (p : Names). seen_node (t p) ≡ seen_as.File n) (append_assoc front (x ∷ []) rest) (seen_from-File t (front ++ x ∷ []) rest n (seen_on-File (t front) _ n h))

pub dir_at : (o : Option Node) → seen_node o ≡ seen_as.Dir → (a : Attributes) × (o ≡ Some (Dir a))
dir_at None h = absurd (cc)
dir_at (Some (Dir a)) h = (a, refl)
dir_at (Some (File b a)) h = absurd (cc)

pub file_at : (o : Option Node) (n : ℕ) → seen_node o ≡ seen_as.File n → (b : List ℕ) × (a : Attributes) × (o ≡ Some (File b a)) × (length b ≡ n)
file_at None n h = absurd (cc)
file_at (Some (Dir a)) n h = absurd (cc)
file_at (Some (File b a)) n h = (b, a, refl, cc)

-- ---- nothing stands under what is no directory
not_dir_child : (t : Tree) (p : Names) (x : List ℕ) (o : Option Node) → IsTree t → t (p ++ x ∷ []) ≡ o → ((a : Attributes) → t p ≡ Some (Dir a) → ⊥) → o ≡ None
not_dir_child t p x None v e h = refl
not_dir_child t p x (Some n) v e h = let d = v.parents p x n e in absurd (h d.0 d.1)

pub nothing_below : (t : Tree) (p r : Names) → IsTree t → t p ≡ None → t (p ++ r) ≡ None
nothing_below t p [] v h = rw append-nil h
nothing_below t p (x ∷ r) v h = subst (λ (q : Names). t q ≡ None) (append_assoc p (x ∷ []) r)
    (nothing_below t (p ++ x ∷ []) r v (not_dir_child t p x (t (p ++ x ∷ [])) v refl (λ a e. let apart : Some (Dir a) ≡ None = sym e ∙ h in cc)))

seen_file_dir : (o : Option Node) (n : ℕ) (a : Attributes) → seen_node o ≡ seen_as.File n → o ≡ Some (Dir a) → ⊥
seen_file_dir None n a h e = cc
seen_file_dir (Some (Dir b)) n a h e = cc
seen_file_dir (Some (File c b)) n a h e = cc

pub nothing_in_file : (t : Tree) (p : Names) (x : List ℕ) (r : Names) (n : ℕ) → IsTree t → seen_node (t p) ≡ seen_as.File n → t (p ++ x ∷ r) ≡ None
nothing_in_file t p x r n v h = subst (λ (q : Names). t q ≡ None) (append_assoc p (x ∷ []) r)
    (nothing_below t (p ++ x ∷ []) r v (not_dir_child t p x (t (p ++ x ∷ [])) v refl (λ a e. seen_file_dir (t p) n a h e)))

-- each proper prefix of what stands is a directory
pub front_is_dir : (t : Tree) (front : Names) (x : List ℕ) (rest : Names) (n : Node) (o : Option Node) → IsTree t → t (front ++ x ∷ rest) ≡ Some n → t front ≡ o → IsDirAt t front
front_is_dir t front x rest n None v e h = let f : Some n ≡ None = sym e ∙ nothing_below t front (x ∷ rest) v h in absurd (cc)
front_is_dir t front x rest n (Some (Dir a)) v e h = (a, h)
front_is_dir t front x rest n (Some (File b a)) v e h = let f : Some n ≡ None = sym e ∙ nothing_in_file t front x rest (length b) v (ap seen_node h) in absurd (cc)

-- what stands is seen
pub seen_from-there : (t : Tree) (front rest : Names) (n : Node) → IsTree t → t (front ++ rest) ≡ Some n → seen_from t front rest ≡ seen_node (Some n)
seen_from-there t front [] n v e = ap seen_node (subst (λ (p : Names). t p ≡ Some n) (append-nil front) e)
seen_from-there t front (x ∷ rest) n v e =
    ap (λ o. seen_on o (seen_from t (front ++ x ∷ []) rest)) (front_is_dir t front x rest n (t front) v e refl).1
    ∙ seen_from-there t (front ++ x ∷ []) rest n v (subst (λ (p : Names). t p ≡ Some n) (sym (append_assoc front (x ∷ []) rest)) e)

pub there_is : (o : Option Node) → is_some o ≡ true → (n : Node) × (o ≡ Some n)
there_is None h = absurd (cc)
there_is (Some n) h = (n, refl)

-- ---- what a test hides, and what it does not
-- what is listed stands under the source
pub stands_at : (b : Bool) (o : Option Node) (n : Node) → cond b None o ≡ Some n → o ≡ Some n
stands_at true o n e = cc
stands_at false o n e = e
