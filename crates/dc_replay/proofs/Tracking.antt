-- Where moves take what stands.
use Rattle.std.proofs.Common.{◌≡◌, ℕ, suc, zero, List, [], ◌∷◌, ◌++◌, Bool, true, false, cond, Option, Some, None, take, refl, sym, ◌∙◌, ap}
use Rattle.dc_attrs.specs.Attributes.{Attributes, default_dir}
use Rattle.dc_attrs.specs.Trees.{Dir, File, IsTree, Node, Tree, moved as tree_moved}
use Rattle.dc_path.specs.Paths.{Names, at_cut, cut, same_path}
use Rattle.dc_replay.specs.Steps.{AreAllowed, IsAllowed, after, step, track, tracked}
use Rattle.dc_replay.specs.Replaying.{Carries, HasNoClear, is_clear}
use Rattle.dc_report.specs.declared.entries.Move.{Move}
use Rattle.dc_report.specs.declared.entries.Move.TheVariants.{Clear, Make, Shift}
use Rattle.dc_path.proofs.PathLemmas.{cut-append, append-cut}
use Rattle.std.proofs.lemmas.List.{append_cancel_left}
use Rattle.dc_attrs.proofs.TreeChanges.{make_valid, not_gone, shift_valid, clear_valid, nothing_at, not_at_free, shift_moves}

-- ---- a valid tree stays valid
pub valid_step : (m : Move) (t : Tree) → IsTree t → IsAllowed t m → IsTree (step m t)
valid_step (Make p) t v a = make_valid t p v a
valid_step (Shift a b) t v i = shift_valid t a b v i.1 i.2
valid_step (Clear p) t v a = clear_valid t p v a.1

-- moves that are not refused keep a tree valid
pub valid_after : (ms : List Move) (t : Tree) → IsTree t → AreAllowed t ms → IsTree (after ms t)
valid_after [] t v a = v
valid_after (m ∷ ms) t v a = valid_after ms (step m t) (valid_step m t v a.0) a.1

-- ---- each node goes along
pub moves_along : (m : Move) (t : Tree) (q : Names) (x : Node) → is_clear m ≡ false → IsTree t → IsAllowed t m → t q ≡ Some x → step m t (track m q) ≡ Some x
moves_along (Make p) t q x k v a h = rw (not_at_free t p q x a.absent h) h
moves_along (Shift a b) t q x k v i h = shift_moves t a b q x (cut a q) v i.1.absent h refl
moves_along (Clear p) t q x k v a h = absurd (cc)

shift_apart : (t : Tree) (a b p q : Names) (x y : Node) (o u : Option Names) → IsTree t → t b ≡ None → t p ≡ Some x → t q ≡ Some y → cut a p ≡ o → cut a q ≡ u → at_cut o p (λ r. b ++ r) ≡ at_cut u q (λ r. b ++ r) → p ≡ q
shift_apart t a b p q x y None None v e h k c d s = s
shift_apart t a b p q x y (Some r) (Some w) v e h k c d s = append-cut a p r c ∙ ap (λ (z : Names). a ++ z) (append_cancel_left b r w s) ∙ sym (append-cut a q w d)
shift_apart t a b p q x y (Some r) None v e h k c d s = absurd (nothing_at t b q r y v e (rw (sym s) (cut-append b r)) k)
shift_apart t a b p q x y None (Some w) v e h k c d s = absurd (nothing_at t b p w x v e (rw s (cut-append b w)) h)

pub moves_apart : (m : Move) (t : Tree) (p q : Names) (x y : Node) → is_clear m ≡ false → IsTree t → IsAllowed t m → t p ≡ Some x → t q ≡ Some y → track m p ≡ track m q → p ≡ q
moves_apart (Make d) t p q x y k v a h i s = s
moves_apart (Shift a b) t p q x y k v al h i s = shift_apart t a b p q x y (cut a p) (cut a q) v al.1.absent h i refl refl s
moves_apart (Clear d) t p q x y k v a h i s = absurd (cc)

-- where a file came from
pub record Came (m : Move) (t : Tree) (q : Names) (x : Node) : Type 0 where
  pub path : Names
  pub was : t path ≡ Some x
  pub goes : track m path ≡ q

make_only : (t : Tree) (p q : Names) (b : List ℕ) (a : Attributes) (c : Bool) → cond c (Some (Dir default_dir)) (t q) ≡ Some (File b a) → t q ≡ Some (File b a)
make_only t p q b a true e = absurd (cc)
make_only t p q b a false e = e

shift_only : (t : Tree) (a b q : Names) (x : Node) (o : Option Names) → cut b q ≡ o → tree_moved t a b q ≡ Some x → Came (Shift a b) t q x
shift_only t a b q x None c e =
    let k = not_gone (cut a q) (t q) x (rw c at e) in
    record { path = q; was = k.1; goes = rw k.0 refl }
shift_only t a b q x (Some r) c e =
    record { path = a ++ r; was = rw c at e; goes = rw (cut-append a r) (sym (append-cut b q r c)) }

pub moves_only : (m : Move) (t : Tree) (q : Names) (b : List ℕ) (a : Attributes) → is_clear m ≡ false → step m t q ≡ Some (File b a) → Came m t q (File b a)
moves_only (Make p) t q b a k e = record { path = q; was = make_only t p q b a (same_path p q) e; goes = refl }
moves_only (Shift f g) t q b a k e = shift_only t f g q (File b a) (cut g q) refl e
moves_only (Clear p) t q b a k e = absurd (cc)

-- ---- and so through a list of moves
-- each file stands at exactly one path, and there are no other files
pub carries : (ms : List Move) (t : Tree) → IsTree t → AreAllowed t ms → HasNoClear ms → Carries ms t
carries [] t v a n = record { valid = v; along = λ q x e. e; apart = λ p q x y h k e. e; only = λ q b c e. (q, e, refl) }
carries (m ∷ ms) t v a n =
    let k = carries ms (step m t) (valid_step m t v a.0) a.1 n.1 in
    record {
      valid = k.valid;
      along = λ q x e. k.along (track m q) x (moves_along m t q x n.0 v a.0 e);
      apart = λ p q x y h i e. moves_apart m t p q x y n.0 v a.0 h i (k.apart (track m p) (track m q) x y (moves_along m t p x n.0 v a.0 h) (moves_along m t q y n.0 v a.0 i) e);
      only = λ q b c e. let f = k.only q b c e in let g = moves_only m t f.0 b c n.0 f.1 in (g.path, g.was, ap (tracked ms) g.goes ∙ f.2);
    }

pub allowed_take : (k : ℕ) (ms : List Move) (t : Tree) → AreAllowed t ms → AreAllowed t (take k ms)
allowed_take zero ms t a = tt
allowed_take (suc k) [] t a = tt
allowed_take (suc k) (m ∷ ms) t a = (a.0, allowed_take k ms (step m t) a.1)
