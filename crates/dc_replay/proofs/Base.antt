-- Moves below a path of a tree.
use Rattle.std.proofs.Common.{◌≡◌, List, [], ◌∷◌, ◌++◌, Option, Some, None, refl, sym, ◌∙◌, ap, subst, append_assoc, map}
use Rattle.std.proofs.Math.Path.{fun_ext}
use Rattle.dc_attrs.specs.Trees.{Tree, at, IsThere, IsFree}
use Rattle.dc_path.specs.Paths.{Names, at_cut, cut}
use Rattle.dc_replay.specs.Steps.{AreAllowed, IsAllowed, after, graft, step}
use Rattle.dc_report.specs.Moves.{below}
use Rattle.dc_report.specs.declared.entries.Move.{Move}
use Rattle.dc_report.specs.declared.entries.Move.TheVariants.{Clear, Make, Shift}
use Rattle.dc_path.proofs.PathLemmas.{cut-append, append-cut, same_path-cut, same_path-not_below, cut_under, below_root}

pub graft_at : (d : Names) (T A : Tree) (r : Names) → graft d T A (d ++ r) ≡ A r
graft_at d T A r = rw (cut-append d r) refl

pub graft_same : (d : Names) (T : Tree) → graft d T (at T d) ≡ T
graft_same d T = fun_ext (λ q. same_at q (cut d q) refl)
  where
    same_at : (q : Names) (o : Option Names) → cut d q ≡ o → at_cut o (T q) (at T d) ≡ T q
    same_at q None e = refl
    same_at q (Some r) e = ap T (sym (append-cut d q r e))

step_at : (d : Names) (T A : Tree) (m : Move) (q : Names) (o : Option Names) → cut d q ≡ o → step (below d m) (graft d T A) q ≡ graft d T (step m A) q
step_at d T A (Make p) q None e = rw (same_path-not_below d p q e, e) refl
step_at d T A (Make p) q (Some r) e = rw (same_path-cut d p q r e, e) refl
step_at d T A (Shift a b) q None e = rw (cut_under d b q, cut_under d a q, e) refl
step_at d T A (Shift a b) q (Some r) e = rw (cut_under d b q, cut_under d a q, e) (ap (at_cut (cut b r) (at_cut (cut a r) (A r) (λ s. None))) (fun_ext (λ s. ap (graft d T A) (append_assoc d a s) ∙ graft_at d T A (a ++ s))))
step_at d T A (Clear p) q None e = rw (cut_under d p q, e) refl
step_at d T A (Clear p) q (Some r) e = rw (cut_under d p q, e) refl

pub step_below : (d : Names) (T A : Tree) (m : Move) → step (below d m) (graft d T A) ≡ graft d T (step m A)
step_below d T A m = fun_ext (λ q. step_at d T A m q (cut d q) refl)

pub after_below : (d : Names) (T A : Tree) (ms : List Move) → after (map (below d) ms) (graft d T A) ≡ graft d T (after ms A)
after_below d T A [] = refl
after_below d T A (m ∷ ms) = ap (after (map (below d) ms)) (step_below d T A m) ∙ after_below d T (step m A) ms

there_below : (d : Names) (T A : Tree) (p : Names) → IsThere A p → IsThere (graft d T A) (d ++ p)
there_below d T A p t = (t.0, graft_at d T A p ∙ t.1)

free_below : (d : Names) (T A : Tree) (p : Names) → IsFree A p → IsFree (graft d T A) (d ++ p)
free_below d T A p f = record {
  absent = graft_at d T A p ∙ f.absent;
  parent = d ++ f.parent;
  name = f.name;
  path = ap (λ (q : Names). d ++ q) f.path ∙ sym (append_assoc d f.parent (f.name ∷ []));
  dir = (f.dir.0, graft_at d T A f.parent ∙ f.dir.1);
}

pub allowed_below_one : (d : Names) (T A : Tree) (m : Move) → IsAllowed A m → IsAllowed (graft d T A) (below d m)
allowed_below_one d T A (Make p) a = free_below d T A p a
allowed_below_one d T A (Shift f g) a = (there_below d T A f a.0, free_below d T A g a.1, cut_under d f (d ++ g) ∙ rw (cut-append d g) a.2)
allowed_below_one d T A (Clear p) a = (there_below d T A p a.0, below_root d p a.1)

pub allowed_below : (d : Names) (T A : Tree) (ms : List Move) → AreAllowed A ms → AreAllowed (graft d T A) (map (below d) ms)
allowed_below d T A [] a = tt
allowed_below d T A (m ∷ ms) a = (
  allowed_below_one d T A m a.0,
  subst (λ (t : Tree). AreAllowed t (map (below d) ms)) (sym (step_below d T A m)) (allowed_below d T (step m A) ms a.1),
)
