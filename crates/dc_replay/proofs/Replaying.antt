-- Replaying below a path.
use Rattle.std.proofs.Common.{◌≡◌, ◌⊎◌, inl, inr, ℕ, zero, suc, ◌+◌, ◌<◌, ◌≤◌, List, [], ◌∷◌, ◌++◌, Bool, true, false, cond, Some, length, take, map, refl, sym, ◌∙◌, ap, subst, arith, append_assoc, length-append}
use Rattle.std.proofs.Math.Path.{fun_ext}
use Rattle.dc_attrs.specs.Attributes.{default_dir}
use Rattle.dc_attrs.specs.Trees.{Dir, IsDirAt, IsTree, Node, Tree, at}
use Rattle.dc_path.specs.Paths.{Names}
use Rattle.dc_report.specs.Carrying.{Carry, Place, Plan, carries_of, is_made, items_of, moved, new_gt, plan, sort_by, is_fresh}
use Rattle.dc_replay.specs.Arrivals.{came, shifted, source}
use Rattle.dc_report.specs.Apart.{IsReport}
use Rattle.dc_replay.specs.Checking.{Passes, is_to_be_made}
use Rattle.dc_replay.specs.Steps.{AreAllowed, after, graft}
use Rattle.dc_report.specs.Moves.{below, moves, moves_for, moves_of, parents, placing, staging, label_of}
use Rattle.dc_replay.specs.Replaying.{Carries, HasNoClear, IsReplayed, IsShifted, is_clear}
use Rattle.dc_report.specs.declared.entries.Entry.{Entry}
use Rattle.dc_report.specs.declared.entries.Move.{Move}
use Rattle.dc_report.specs.declared.entries.Move.TheVariants.{Clear, Make, Shift}
use Rattle.dc_replay.proofs.Where.{moved_arrives}
use Rattle.dc_replay.proofs.Allowed.{Checked}
use Rattle.dc_replay.proofs.Final.{came_arrives, moves_give, moves_allowed, leads_true, cond_some}
use Rattle.dc_replay.proofs.Tracking.{valid_after, carries, allowed_take}
use Rattle.dc_replay.proofs.Refusing.{none_refused}
use Rattle.dc_replay.proofs.Base.{graft_same, after_below, allowed_below}
use Rattle.dc_replay.proofs.PlanLemmas.{checked}
use Rattle.dc_path.proofs.PathLemmas.{same_path-refl}
use Rattle.std.proofs.lemmas.Bool.{and_right}
use Rattle.std.proofs.lemmas.List.{length-map}
use Rattle.dc_report.specs.Landings.{is_at}
use Rattle.dc_attrs.proofs.TreeChanges.{valid_at}

-- ---- what a report makes of a tree, said of each path
made_no : (P : Plan) (A : Tree) (q : Names) (x : Node) (b : Bool) → (b ≡ true → ⊥) → came P A q ≡ Some x → cond b (Some (Dir default_dir)) (came P A q) ≡ Some x
made_no P A q x true un e = absurd (un refl)
made_no P A q x false un e = e

shifted_only : (P : Plan) (A : Tree) (q : Names) (x : Node) (b : Bool) → is_made P P.news q ≡ b → cond b (Some (Dir default_dir)) (came P A q) ≡ Some x → ((p : Names) × (A p ≡ Some x) × (moved P.carries p ≡ Some q)) ⊎ (is_made P P.news q ≡ true)
shifted_only P A q x true m e = inr m
shifted_only P A q x false m e = let k = cond_some (is_at (moved P.carries (source P.news q)) q) (A (source P.news q)) x e in inl (source P.news q, k.1, leads_true (moved P.carries (source P.news q)) q k.0)

pub shifted_is : (st : List ℕ) (R : List Entry) (A : Tree) → IsReport R → IsTree A → Passes st R A → IsShifted R A (shifted (plan R) A)
shifted_is st R A is v ok =
    let c = checked st R A is v ok in
    record {
      moved = λ p q x e m. made_no (plan R) A q x (is_to_be_made R q) (λ k. c.unmade q p x k e m)
          (sym (came_arrives (plan R) A q c.settled) ∙ moved_arrives (carries_of R) (plan R).news A p q x c.settled e m);
      made = λ q m. rw m refl;
      only = λ q x e. shifted_only (plan R) A q x (is_to_be_made R q) refl e;
    }

-- ---- where nothing is deleted or renamed, nothing moves
nothing_at : (P : Plan) (A : Tree) (q : Names) → P.carries ≡ [] → P.news ≡ [] → A q ≡ shifted P A q
nothing_at P A q c n = rw (c, n) (rw (and_right (is_fresh (record { carries = []; news = []; places = P.places }) q) false refl, same_path-refl q) refl)

pub nothing_shifted : (R : List Entry) (A : Tree) → carries_of R ≡ [] → A ≡ shifted (plan R) A
nothing_shifted R A e = fun_ext (λ q. nothing_at (plan R) A q e (ap (λ (cs : List Carry). sort_by new_gt (items_of cs)) e))

inner_gives : (st : List ℕ) (R : List Entry) (A : Tree) (cs : List Carry) → carries_of R ≡ cs → Checked st (plan R) A → after (moves_for st (plan R) cs) A ≡ shifted (plan R) A
inner_gives st R A [] e c = nothing_shifted R A e
inner_gives st R A (d ∷ cs) e c = moves_give st (plan R) A c

inner_allowed : (st : List ℕ) (R : List Entry) (A : Tree) (cs : List Carry) → Checked st (plan R) A → AreAllowed A (moves_for st (plan R) cs)
inner_allowed st R A [] c = tt
inner_allowed st R A (d ∷ cs) c = moves_allowed st (plan R) A c

-- ---- the theorem
pub replaying : (st : List ℕ) (d : Names) (R : List Entry) (T : Tree) → IsReport R → IsTree T → IsDirAt T d → Passes st R (at T d) → IsReplayed st d R T
replaying st d R T is v dir ok = record { allowed = allowed; not_refused = none_refused T (moves_of st d R) v allowed; gives = gives; valid = subst (λ (t : Tree). IsTree t) gives (valid_after (moves_of st d R) T v allowed) }
  where
    c : Checked st (plan R) (at T d)
    c = checked st R (at T d) is (valid_at T d v dir) ok

    allowed : AreAllowed T (moves_of st d R)
    allowed = subst (λ (t : Tree). AreAllowed t (moves_of st d R)) (graft_same d T) (allowed_below d T (at T d) (moves_for st (plan R) (carries_of R)) (inner_allowed st R (at T d) (carries_of R) c))

    gives : after (moves_of st d R) T ≡ graft d T (shifted (plan R) (at T d))
    gives =
        ap (after (moves_of st d R)) (sym (graft_same d T))
        ∙ after_below d T (at T d) (moves_for st (plan R) (carries_of R))
        ∙ ap (graft d T) (inner_gives st R (at T d) (carries_of R) refl c)

-- ---- the last move alone removes anything
clear_append : (ms ns : List Move) → HasNoClear ms → HasNoClear ns → HasNoClear (ms ++ ns)
clear_append [] ns a b = b
clear_append (m ∷ ms) ns a b = (a.0, clear_append ms ns a.1 b)

clear_take : (k : ℕ) (ms : List Move) (m : Move) → HasNoClear ms → k ≤ length ms → HasNoClear (take k (ms ++ m ∷ []))
clear_take zero ms m h l = tt
clear_take (suc k) [] m h l = absurd (omega arith)
clear_take (suc k) (n ∷ ms) m h l = (h.0, clear_take k ms m h.1 (omega arith))

clear_below_one : (d : Names) (m : Move) → is_clear (below d m) ≡ is_clear m
clear_below_one d (Make p) = refl
clear_below_one d (Shift a b) = refl
clear_below_one d (Clear p) = refl

clear_below : (d : Names) (k : ℕ) (ms : List Move) → HasNoClear (take k ms) → HasNoClear (take k (map (below d) ms))
clear_below d zero ms h = tt
clear_below d (suc k) [] h = tt
clear_below d (suc k) (m ∷ ms) h = (clear_below_one d m ∙ h.0, clear_below d k ms h.1)

staging_clear : (st : List ℕ) (cs : List Carry) → HasNoClear (staging st cs)
staging_clear st [] = tt
staging_clear st (c ∷ cs) = clear_append (staging st cs) (Shift c.old (st ∷ label_of (length cs) ∷ []) ∷ []) (staging_clear st cs) (refl, tt)

makes_clear : (ps : List Names) → HasNoClear (map Make ps)
makes_clear [] = tt
makes_clear (p ∷ ps) = (refl, makes_clear ps)

placing_clear : (st : List ℕ) (P : Plan) (ns : List Place) → HasNoClear (placing st P ns)
placing_clear st P [] = tt
placing_clear st P (n ∷ ns) = clear_append (placing st P ns) (map Make (parents P ns n.new) ++ Shift (st ∷ label_of n.label ∷ []) n.new ∷ []) (placing_clear st P ns)
    (clear_append (map Make (parents P ns n.new)) (Shift (st ∷ label_of n.label ∷ []) n.new ∷ []) (makes_clear (parents P ns n.new)) (refl, tt))

fronts_clear : (st : List ℕ) (P : Plan) (k : ℕ) → k < length (moves st P) → HasNoClear (take k (moves st P))
fronts_clear st P k l =
    let ms = Make (st ∷ []) ∷ (staging st P.carries ++ placing st P P.news) in
    let e : moves st P ≡ ms ++ Clear (st ∷ []) ∷ [] = ap (λ (ns : List Move). Make (st ∷ []) ∷ ns) (sym (append_assoc (staging st P.carries) (placing st P P.news) (Clear (st ∷ []) ∷ []))) in
    let n : length (moves st P) ≡ length ms + 1 = ap length e ∙ length-append ms (Clear (st ∷ []) ∷ []) in
    rw e (clear_take k ms (Clear (st ∷ [])) (refl, clear_append (staging st P.carries) (placing st P P.news) (staging_clear st P.carries) (placing_clear st P P.news)) (omega arith))

fronts_clear_for : (st : List ℕ) (P : Plan) (cs : List Carry) (k : ℕ) → k < length (moves_for st P cs) → HasNoClear (take k (moves_for st P cs))
fronts_clear_for st P [] k l = absurd (omega arith)
fronts_clear_for st P (c ∷ cs) k l = fronts_clear st P k l

-- no move but the last removes anything
pub lasts_clear : (st : List ℕ) (d : Names) (R : List Entry) (k : ℕ) → k < length (moves_of st d R) → HasNoClear (take k (moves_of st d R))
lasts_clear st d R k l =
    clear_below d k (moves_for st (plan R) (carries_of R))
    (fronts_clear_for st (plan R) (carries_of R) k (rw (sym (length-map (moves_for st (plan R) (carries_of R)) (below d))) l))

-- before the last move each file stands at exactly one path, and there are no others
pub files_stay : (st : List ℕ) (d : Names) (R : List Entry) (T : Tree) (k : ℕ) → IsReport R → IsTree T → IsDirAt T d → Passes st R (at T d) → k < length (moves_of st d R) → Carries (take k (moves_of st d R)) T
files_stay st d R T k is v dir ok l =
    carries (take k (moves_of st d R)) T v
    (allowed_take k (moves_of st d R) T (replaying st d R T is v dir ok).allowed)
    (lasts_clear st d R k l)
