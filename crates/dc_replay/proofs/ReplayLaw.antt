-- The laws of replaying.
use Rattle.std.proofs.Common.{ℕ, ◌≡◌, inl, ⊎_elim, List, [], ◌∷◌, true, false, None, length, map, refl, sym, ◌∙◌, ap, subst, arith}
use Rattle.std.specs.Prelude.{is_some}
use Rattle.dc_attrs.specs.Trees.{IsDirAt, IsTree, Tree, at, IsThere}
use Rattle.dc_path.specs.Paths.{Names}
use Rattle.dc_report.specs.Carrying.{Carry, Has, Place, carries_of, is_fresh, is_made, items_of, moved, new_gt, plan, sort_by}
use Rattle.dc_replay.specs.Arrivals.{shifted}
use Rattle.dc_replay.specs.Checking.{IsOff, IsStageFree, is_to_be_made}
use Rattle.dc_report.specs.Apart.{IsReport}
use Rattle.dc_replay.specs.Steps.{AreAllowed, after, graft}
use Rattle.dc_report.specs.Moves.{below, moves_for, moves_of}
use Rattle.dc_replay.specs.Replaying.{IsReplayed, IsShifted, NoneRefused, ReplayingHolds, Replays, TestsDecide, TrueReportsPass}
use Rattle.dc_replay.proofs.TrueEntries.{true_makes_check_pass}
use Rattle.dc_replay.specs.Tests.{first_false}
use Rattle.dc_report.specs.declared.entries.Entry.{Entry}
use Rattle.dc_report.specs.declared.entries.Entry.TheVariants.{Deleted, Renamed}
use Rattle.dc_report.specs.declared.entries.Move.{Move}
use Rattle.dc_replay.proofs.PlanLemmas.{carry_from}
use Rattle.dc_replay.proofs.Testing.{entry_none, unless_none}
use Rattle.dc_replay.proofs.Base.{graft_same}
use Rattle.dc_replay.proofs.Checking.{passes_from, passes_to}
use Rattle.dc_replay.proofs.Replaying.{nothing_shifted, replaying, shifted_is, files_stay, lasts_clear}
use Rattle.std.proofs.lemmas.Bool.{and_right}
use Rattle.std.proofs.lemmas.Option.{same_Some}
use Rattle.dc_attrs.proofs.TreeLemmas.{front_is_dir, there_is}
use Rattle.dc_attrs.proofs.TreeChanges.{valid_at}

-- ---- where nothing is deleted or renamed
no_moves : (st : List ℕ) (d : Names) (R : List Entry) → carries_of R ≡ [] → moves_of st d R ≡ []
no_moves st d R e = ap (λ (cs : List Carry). map (below d) (moves_for st (plan R) cs)) e

none_made : (R : List Entry) (q : Names) → carries_of R ≡ [] → is_to_be_made R q ≡ false
none_made R q e = ap (λ (ns : List Place). is_made (plan R) ns q) (ap (λ (cs : List Carry). sort_by new_gt (items_of cs)) e) ∙ and_right (is_fresh (plan R) q) false refl

as_it_is : (R : List Entry) (A : Tree) → carries_of R ≡ [] → IsShifted R A A
as_it_is R A e = record {
  moved = λ p q x a m. ap A (sym (same_Some p q (sym (ap (λ (cs : List Carry). moved cs p) e) ∙ m))) ∙ a;
  made = λ q m. let f : true ≡ false = sym m ∙ none_made R q e in absurd (cc);
  only = λ q x a. inl (q, a, ap (λ (cs : List Carry). moved cs q) e);
}

nothing_replayed : (st : List ℕ) (d : Names) (R : List Entry) (T : Tree) → IsTree T → carries_of R ≡ [] → IsReplayed st d R T
nothing_replayed st d R T v e = record {
  allowed = subst (λ (ms : List Move). AreAllowed T ms) (sym (no_moves st d R e)) tt;
  not_refused = subst (λ (ms : List Move). NoneRefused T ms) (sym (no_moves st d R e)) tt;
  gives = ap (λ (ms : List Move). after ms T) (no_moves st d R e) ∙ same;
  valid = subst (λ (t : Tree). IsTree t) same v;
}
  where
    same : T ≡ graft d T (shifted (plan R) (at T d))
    same = sym (graft_same d T) ∙ ap (graft d T) (nothing_shifted R (at T d) e)

nothing_holds : (st : List ℕ) (d : Names) (R : List Entry) (T : Tree) → IsTree T → carries_of R ≡ [] → Replays st d R T
nothing_holds st d R T v e = record {
  replayed = nothing_replayed st d R T v e;
  shifted_is = subst (λ (X : Tree). IsShifted R (at T d) X) (nothing_shifted R (at T d) e) (as_it_is R (at T d) e);
  files = λ k l. let n : length (moves_of st d R) ≡ 0 = ap length (no_moves st d R e) in absurd (omega arith);
  last = lasts_clear st d R;
}

-- ---- where something is carried, the base is a directory
base_dir : (T : Tree) (d : Names) (p : Names) (st : List ℕ) → IsTree T → IsOff st p → IsThere (at T d) p → IsDirAt T d
base_dir T d p st v off t = front_is_dir T d off.first off.rest t.0 (T d) v (ap (at T d) (sym off.path) ∙ t.1) refl

carried_there : (st : List ℕ) (d : Names) (R : List Entry) (T : Tree) (c : Carry) → IsTree T → IsStageFree st R (at T d) → first_false R (at T d) ≡ None → Has (carries_of R) c → IsDirAt T d
carried_there st d R T c v free pass h = ⊎_elim
    (λ g. base_dir T d c.old st v (free.deleted c.old g.0) (there_is (at T d c.old) (unless_none (is_some (at T d c.old)) c.old (entry_none (plan R) (at T d) R pass (Deleted c.old) g.0))))
    (λ g. base_dir T d c.old st v (free.renamed c.old g.0 g.1).0 (there_is (at T d c.old) (unless_none (is_some (at T d c.old)) c.old (entry_none (plan R) (at T d) R pass (Renamed c.old g.0) g.1))))
    (carry_from R c h)

by_carries : (st : List ℕ) (d : Names) (R : List Entry) (T : Tree) (cs : List Carry) → carries_of R ≡ cs → IsReport R → IsTree T → IsStageFree st R (at T d) → first_false R (at T d) ≡ None → Replays st d R T
by_carries st d R T [] e is v free pass = nothing_holds st d R T v e
by_carries st d R T (c ∷ cs) e is v free pass =
    let dir = carried_there st d R T c v free pass (subst (λ (l : List Carry). Has l c) (sym e) (inl refl)) in
    let a = valid_at T d v dir in
    let ok = passes_from st R (at T d) is a free pass in
    record { replayed = replaying st d R T is v dir ok; shifted_is = shifted_is st R (at T d) is a ok; files = λ k l. files_stay st d R T k is v dir ok l; last = lasts_clear st d R }

pub replaying_holds : ReplayingHolds
replaying_holds st d R T is v free pass = by_carries st d R T (carries_of R) refl is v free pass

pub tests_decide : TestsDecide
tests_decide st R A is v free = (passes_from st R A is v free, passes_to st R A is v)

pub true_reports_pass : TrueReportsPass
true_reports_pass = true_makes_check_pass
