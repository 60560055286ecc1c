-- A valid tree stays valid when it changes, and what stands in it after a change.
use Rattle.std.proofs.Common.{◌≡◌, ℕ, List, [], ◌∷◌, ◌++◌, Bool, true, false, cond, Option, Some, None, refl, sym, ◌∙◌, ap, subst, append_assoc, ⊎_elim}
use Rattle.std.proofs.lemmas.Bool.{false_from_ne_true}
use Rattle.std.proofs.lemmas.List.{append-nil}
use Rattle.dc_path.specs.Paths.{Names, at_cut, cut, same_path}
use Rattle.dc_path.proofs.PathLemmas.{cut-append, append-cut, same_path-true, cut_more, cut_none, nil_is_no_end, same_ends, cut_root_from, cut_front}
use Rattle.dc_attrs.specs.Attributes.{Attributes, default_dir}
use Rattle.dc_attrs.specs.Trees.{Dir, IsDirAt, IsFree, IsThere, IsTree, Node, Tree, at as tree_at, moved as tree_moved, with_node, without}
use Rattle.dc_attrs.proofs.TreeLemmas.{front_is_dir}

-- ---- a valid tree stays valid
pub dir_or : (b : Bool) (o : Option Node) → (a : Attributes) × (o ≡ Some (Dir a)) → (a : Attributes) × (cond b (Some (Dir default_dir)) o ≡ Some (Dir a))
dir_or true o d = (default_dir, refl)
dir_or false o d = d

make_parents : (t : Tree) (p q : Names) (x : List ℕ) (n : Node) (b : Bool) → IsTree t → IsFree t p → same_path p (q ++ x ∷ []) ≡ b → cond b (Some (Dir default_dir)) (t (q ++ x ∷ [])) ≡ Some n → IsDirAt t q
make_parents t p q x n false v f e h = v.parents q x n h
make_parents t p q x n true v f e h =
    let k : f.parent ≡ q = (same_ends f.parent q f.name x (sym f.path ∙ same_path-true p (q ++ x ∷ []) e)).0 in
    subst (λ (d : Names). IsDirAt t d) k f.dir

pub make_valid : (t : Tree) (p : Names) → IsTree t → IsFree t p → IsTree (with_node t p (Dir default_dir))
make_valid t p v f = record {
  root = dir_or (same_path p []) (t []) v.root;
  parents = λ q x n e. dir_or (same_path p q) (t q) (make_parents t p q x n (same_path p (q ++ x ∷ [])) v f refl e);
}

-- what stands after a rename, by where the path lies
pub renamed_to : (t : Tree) (a b q r : Names) → cut b q ≡ Some r → tree_moved t a b q ≡ t (a ++ r)
renamed_to t a b q r e = rw e refl

pub renamed_off : (t : Tree) (a b q : Names) → cut b q ≡ None → cut a q ≡ None → tree_moved t a b q ≡ t q
renamed_off t a b q e f = rw (e, f) refl

pub not_gone : (o : Option Names) (u : Option Node) (x : Node) → at_cut o u (λ r. None) ≡ Some x → (o ≡ None) × (u ≡ Some x)
not_gone None u x e = (refl, e)
not_gone (Some r) u x e = absurd (cc)

shift_parents : (t : Tree) (a b q : Names) (x : List ℕ) (n : Node) (o u : Option Names) → IsTree t → IsFree t b → cut a b ≡ None → cut b q ≡ o → cut b (q ++ x ∷ []) ≡ u → tree_moved t a b (q ++ x ∷ []) ≡ Some n → IsDirAt (tree_moved t a b) q
shift_parents t a b q x n (Some r) u v f c e g h =
    let k : t ((a ++ r) ++ x ∷ []) ≡ Some n = ap t (append_assoc a r (x ∷ [])) ∙ sym (renamed_to t a b (q ++ x ∷ []) (r ++ x ∷ []) (cut_more b q r x e)) ∙ h in
    let d = v.parents (a ++ r) x n k in
    (d.0, renamed_to t a b q r e ∙ d.1)
shift_parents t a b q x n None (Some s) v f c e g h =
    let k : b ≡ q ++ x ∷ [] = ⊎_elim (λ l. let no_cut : Some s ≡ None = sym g ∙ l in absurd (cc)) (λ l. l) (cut_none b q x e) in
    let d : f.parent ≡ q = (same_ends f.parent q f.name x (sym f.path ∙ k)).0 in
    let i : IsDirAt t q = subst (λ (p : Names). IsDirAt t p) d f.dir in
    (i.0, renamed_off t a b q e (cut_front a q (x ∷ []) (rw k at c)) ∙ i.1)
shift_parents t a b q x n None None v f c e g h =
    let k = not_gone (cut a (q ++ x ∷ [])) (t (q ++ x ∷ [])) n (rw g at h) in
    let d = v.parents q x n k.1 in
    (d.0, renamed_off t a b q e (cut_front a q (x ∷ []) k.0) ∙ d.1)

cut_root : (t : Tree) (b : Names) → IsFree t b → cut b [] ≡ None
cut_root t b f = at_root b f.parent f.path
  where
    at_root : (b d : Names) → b ≡ d ++ f.name ∷ [] → cut b [] ≡ None
    at_root [] d e = absurd (nil_is_no_end d f.name e)
    at_root (x ∷ b) d e = refl

pub shift_valid : (t : Tree) (a b : Names) → IsTree t → IsFree t b → cut a b ≡ None → IsTree (tree_moved t a b)
shift_valid t a b v f c = record {
  root = (v.root.0, renamed_off t a b [] (cut_root t b f) (cut_root_from a b c) ∙ v.root.1);
  parents = λ q x n e. shift_parents t a b q x n (cut b q) (cut b (q ++ x ∷ [])) v f c refl refl e;
}

pub clear_valid : (t : Tree) (p : Names) → IsTree t → cut p [] ≡ None → IsTree (without t p)
clear_valid t p v r = record {
  root = (v.root.0, rw r v.root.1);
  parents = λ q x n e.
      let k = not_gone (cut p (q ++ x ∷ [])) (t (q ++ x ∷ [])) n e in
      let d = v.parents q x n k.1 in
      (d.0, rw (cut_front p q (x ∷ []) k.0) d.1);
}

pub valid_at : (T : Tree) (d : Names) → IsTree T → IsDirAt T d → IsTree (tree_at T d)
valid_at T d v i = record {
  root = (i.0, rw append-nil i.1);
  parents = λ p x n e. v.parents (d ++ p) x n (ap T (append_assoc d p (x ∷ [])) ∙ e);
}

-- ---- what stands after a change

pub there_front : (t : Tree) (p s : Names) (x : Node) → IsTree t → t (p ++ s) ≡ Some x → IsThere t p
there_front t p [] x v e = (x, rw append-nil at e)
there_front t p (y ∷ s) x v e = let d = front_is_dir t p y s x (t p) v e refl in (Dir d.0, d.1)

pub nothing_at : (t : Tree) (b q r : Names) (x : Node) → IsTree t → t b ≡ None → cut b q ≡ Some r → t q ≡ Some x → ⊥
nothing_at t b q r x v e c h = let k = there_front t b r x v (sym (ap t (append-cut b q r c)) ∙ h) in let f : Some k.0 ≡ None = sym k.1 ∙ e in cc

pub not_at_free : (t : Tree) (p q : Names) (x : Node) → t p ≡ None → t q ≡ Some x → same_path p q ≡ false
not_at_free t p q x e h = false_from_ne_true (same_path p q) (λ k. let f : Some x ≡ None = sym h ∙ ap t (sym (same_path-true p q k)) ∙ e in cc)

off_free : (t : Tree) (b q : Names) (x : Node) (o : Option Names) → IsTree t → t b ≡ None → t q ≡ Some x → cut b q ≡ o → cut b q ≡ None
off_free t b q x None v e h c = c
off_free t b q x (Some r) v e h c = absurd (nothing_at t b q r x v e c h)

pub shift_moves : (t : Tree) (a b q : Names) (x : Node) (o : Option Names) → IsTree t → t b ≡ None → t q ≡ Some x → cut a q ≡ o → tree_moved t a b (at_cut o q (λ r. b ++ r)) ≡ Some x
shift_moves t a b q x None v e h c = renamed_off t a b q (off_free t b q x (cut b q) v e h refl) c ∙ h
shift_moves t a b q x (Some r) v e h c = renamed_to t a b (b ++ r) r (cut-append b r) ∙ sym (ap t (append-cut a q r c)) ∙ h

pub dir_kept : (t : Tree) (p d : Names) → IsDirAt t d → IsDirAt (with_node t p (Dir default_dir)) d
dir_kept t p d is = dir_or (same_path p d) (t d) is
