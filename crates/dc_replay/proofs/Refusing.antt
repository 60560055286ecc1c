-- A tree does not refuse a move that finds what it needs.
use Rattle.std.proofs.Common.{ℕ, ◌≡◌, List, [], ◌∷◌, ◌++◌, Some, None, refl, ◌∙◌, ap}
use Rattle.dc_attrs.specs.Refusals.{refused_at, refused_in, refused_root}
use Rattle.dc_attrs.specs.Trees.{Dir, File, IsTree, Node, Tree, seen, seen_node, IsFree}
use Rattle.dc_attrs.proofs.TreeLemmas.{seen_from-there}
use Rattle.dc_path.specs.Paths.{Names, cut, front_of}
use Rattle.dc_replay.specs.Steps.{AreAllowed, IsAllowed, step}
use Rattle.dc_replay.specs.Refused.{refused}
use Rattle.dc_replay.specs.Replaying.{NoneRefused}
use Rattle.dc_report.specs.declared.entries.Move.{Move}
use Rattle.dc_report.specs.declared.entries.Move.TheVariants.{Clear, Make, Shift}
use Rattle.dc_replay.proofs.Tracking.{valid_step}
use Rattle.dc_path.proofs.PathLemmas.{front_of-append}

pub seen-there : (t : Tree) (p : Names) (n : Node) → IsTree t → t p ≡ Some n → seen t p ≡ seen_node (Some n)
seen-there t p n v e = seen_from-there t [] p n v e

there_node : (n : Node) → refused_at (seen_node (Some n)) ≡ None
there_node (Dir a) = refl
there_node (File b a) = refl

free_dir : (t : Tree) (p : Names) → IsTree t → IsFree t p → refused_in (seen t (front_of p)) ≡ None
free_dir t p v f =
    ap (λ (q : Names). refused_in (seen t (front_of q))) f.path
    ∙ ap (λ (q : Names). refused_in (seen t q)) (front_of-append f.parent f.name)
    ∙ ap refused_in (seen-there t f.parent (Dir f.dir.0) v f.dir.1)

not_root : (p : Names) → cut p [] ≡ None → refused_root p ≡ None
not_root [] e = absurd (cc)
not_root (x ∷ p) e = refl

snoc_root : (d : Names) (x : List ℕ) → refused_root (d ++ x ∷ []) ≡ None
snoc_root [] x = refl
snoc_root (y ∷ d) x = refl

free_root : (t : Tree) (p : Names) → IsFree t p → refused_root p ≡ None
free_root t p f = ap refused_root f.path ∙ snoc_root f.parent f.name

from_root : (a b : Names) → cut a b ≡ None → refused_root a ≡ None
from_root [] b e = absurd (cc)
from_root (x ∷ a) b e = refl

pub not_refused : (t : Tree) (m : Move) → IsTree t → IsAllowed t m → refused t m ≡ None
not_refused t (Make p) v a = rw (a.absent, free_dir t p v a) refl
not_refused t (Shift f g) v a = rw (from_root f g a.2, free_root t g a.1, seen-there t f a.0.0 v a.0.1, there_node a.0.0, a.1.absent, a.2, free_dir t g v a.1) refl
not_refused t (Clear p) v a = rw (not_root p a.1, seen-there t p a.0.0 v a.0.1, there_node a.0.0) refl

pub none_refused : (t : Tree) (ms : List Move) → IsTree t → AreAllowed t ms → NoneRefused t ms
none_refused t [] v a = tt
none_refused t (m ∷ ms) v a = (not_refused t m v a.0, none_refused (step m t) ms (valid_step m t v a.0) a.1)
