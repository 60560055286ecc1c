-- Tests over a base: what is told by a look or its refusal, and tests one after the other.
use Rattle.std.proofs.Common.{◌≡◌, ◌≢◌, ⊎_elim, ℕ, Bool, true, false, cond, not, ◌||◌, List, [], ◌∷◌, ◌++◌, codes, Option, Some, None, is_some, IfErr, IfSome, Result, Ok, Err, refl, sym, ◌∙◌, ap, subst, arith, length-append}
use Rattle.std.specs.List.{list_any}
use Rattle.std.specs.Str.{chars, is_utf8}
use lib.Utf8.{encode}
use Rattle.dc_attrs.specs.Trees.{IsTree, Tree, at}
use Rattle.dc_attrs.specs.declared.shown.Seen.{Seen}
use Rattle.dc_fs.specs.Views.{OnlyLooks, View}
use Rattle.dc_path.specs.Names.{is_name}
use Rattle.dc_path.specs.Paths.{IsPath, IsWithin, Names, fits, front_of, is_root, parent_of}
use Rattle.dc_path.proofs.Joins.{length-joined-append}
use Rattle.dc_path.proofs.LimitLemmas.{path_within}
use Rattle.dc_listing.specs.Roots.{is_absent}
use Rattle.dc_listing.proofs.RootWalks.{within_fits}
use Rattle.dc_report.specs.Carrying.{Place, Plan}
use Rattle.dc_report.specs.Moves.{stage_name}
use Rattle.dc_report.specs.Writing.{paths_of}
use Rattle.dc_report.specs.declared.entries.Entry.{Entry}
use Rattle.dc_replay.specs.Checking.{begins_with, is_stage_free, look}
use Rattle.dc_replay.specs.Limits.{landing_answer, stage_answer}
use Rattle.dc_replay.specs.TestAnswers.{Answer, FalseAt, Holds, LongAt, Taken, holds_if, within, within_look}
use Rattle.dc_replay.specs.Tests.{has_landing, node_at}
use Rattle.dc_sync.specs.Checks.{IsOfLook, Looked, Shows, Tells, TellsLong, Tests, TestsPaths, is_of_check}
use Rattle.dc_sync.specs.Errors.{is_fault}
use Rattle.dc_sync.specs.Steps.{stepped_on}
use Rattle.dc_sync.specs.declared.errors.SyncError.{SyncError}
use Rattle.dc_sync.specs.declared.errors.SyncError.TheVariants as sync_error
use Rattle.dc_sync.proofs.LookLemmas.{memory_or, no_look, step_refused, step_short, stepped_err, stepped_ok}

-- ---- a path that is too long
-- why no look was made is told as that the path is too long
of_look : (d : Names) (o : Option Names) (e : SyncError) (a : Answer) → IsOfLook d o e → (is_of_check e ≡ true) × Tells d (within_look d o a) (Err e)
of_look d o (sync_error.TooLong parent name) a h = (refl, long d o parent name a h)
  where
    long : (d : Names) (o : Option Names) (parent : Names) (name : List ℕ) (a : Answer) → IsOfLook d o (sync_error.TooLong parent name) → TellsLong d (within_look d o a) parent name
    long d None parent name a h = absurd h
    long d (Some p) parent name a h = record { path = p; answer_is = ap (λ (b : Bool). cond b (LongAt p) a) h.long; first = h.first }
of_look d o sync_error.Fault a h = (refl, tt)
of_look d o sync_error.Memory a h = (refl, tt)
of_look d o (sync_error.NoReport path) a h = absurd h
of_look d o (sync_error.TooBig path) a h = absurd h
of_look d o (sync_error.BadReport line) a h = absurd h
of_look d o (sync_error.NotAtBegin path) a h = absurd h
of_look d o (sync_error.StageExists path) a h = absurd h
of_look d o (sync_error.ReportFalse path) a h = absurd h
of_look d o sync_error.TooMany a h = absurd h
of_look d o (sync_error.Changed path) a h = absurd h

-- a path below a base that is refused
pub step_tests : (d p : Names) (e : SyncError) (a : Answer) → (e ≢ sync_error.Memory → stepped_on d p ≡ Err e) → TestsPaths d (within d p a) (Err e)
step_tests d p e a h = let k = step_refused d p e h in let l = of_look d (Some p) e a k.0 in record { kind = l.0; no_fault = k.1; tells = l.1 }

pub lack_tests : (d : Names) (a : Answer) → TestsPaths d a (Err sync_error.Memory)
lack_tests d a = record { kind = refl; no_fault = refl; tells = tt }

-- a path that fits below a base fits
end_within : (d p : Names) → IsWithin (d ++ p) → IsWithin p
end_within d p h = record {
  few = let l = length-append d p in let k = h.few in omega arith;
  short = let l = length-joined-append d p in let k = h.short in omega arith;
}

end_fits : (d p q : Names) → stepped_on d p ≡ Ok q → IsPath q → fits p ≡ true
end_fits d p q e is = within_fits p (end_within d p (subst IsWithin (stepped_ok d p q e) (path_within q is)))

pub lacks_only : (d p q : Names) (e : SyncError) (a : Answer) → stepped_on d p ≡ Ok q → IsPath q → (e ≢ sync_error.Memory → stepped_on [] p ≡ Err e) → TestsPaths d a (Err e)
lacks_only d p q e a s is h = ⊎_elim (λ k. subst (λ (f : SyncError). TestsPaths d a (Err f)) (sym k) (lack_tests d a))
    (λ k. let r = (stepped_err [] p e (h k)).long in let f : false ≡ true = sym (ap not (end_fits d p q s is)) ∙ r in absurd (cc)) (memory_or e)

pub taken_tests : (d p q r : Names) → stepped_on d p ≡ Ok q → IsPath q → stepped_on [] p ≡ Ok r → TestsPaths d (within d p (FalseAt p)) (Err (sync_error.ReportFalse r))
taken_tests d p q r s is h =
    record { kind = refl; no_fault = refl; tells = ap (λ (b : Bool). cond b (LongAt p) (FalseAt p)) (step_short d p q s is).1 ∙ ap FalseAt (sym (stepped_ok [] p r h)) }

-- ---- a look that shows nothing
told_of : (told : Option Tree) (d : Names) (o : Option Names) (e : SyncError) (a : Tree → Answer) → IsOfLook d o e → IfSome told (λ t. IsTree t → Tells d (within_look d o (a (at t d))) (Err e))
told_of None d o e a h = tt
told_of (Some t) d o e a h = λ v. (of_look d o e (a (at t d)) h).1

pub unseen : (old new : View) (d : Names) (o : Option Names) (e : SyncError) (a : Tree → Answer) → Looked old new d o (Err e) → Tests old new d (λ A. within_look d o (a A)) (Err e)
unseen old new d o e a l = record {
  store = record { tree = l.store.tree; rest = l.store.rest; cause = record { later = l.store.cause.later; rose = l.store.cause.rose; still = tt }; calm = l.store.calm };
  kind = (of_look d o e Holds l.refused).0;
  told = told_of old.tree d o e a l.refused;
}

-- the same test in other words
told_as : (told : Option Tree) (d : Names) (a b : Tree → Answer) (r : Result (Unit {0}) SyncError) → ((A : Tree) → a A ≡ b A) → IfSome told (λ t. IsTree t → Tells d (a (at t d)) r) → IfSome told (λ t. IsTree t → Tells d (b (at t d)) r)
told_as None d a b r e h = tt
told_as (Some t) d a b r e h = λ v. subst (λ (x : Answer). Tells d x r) (e (at t d)) (h v)

pub tests_as : (old new : View) (d : Names) (a b : Tree → Answer) (r : Result (Unit {0}) SyncError) → ((A : Tree) → a A ≡ b A) → Tests old new d a r → Tests old new d b r
tests_as old new d a b r e t = record { store = t.store; kind = t.kind; told = told_as old.tree d a b r e t.told }

pub parent_front : (p q : Names) → Some q ≡ parent_of p → q ≡ front_of p
parent_front [] q h = cc
parent_front (x ∷ p) q h = cc

pub landing_unseen : (old new : View) (d : Names) (P : Plan) (n : Place) (e : SyncError) → is_root (front_of n.new) ≡ false → Looked old new d (look P.carries P.news (front_of n.new)) (Err e)
    → Tests old new d (λ A. landing_answer d P A n) (Err e)
landing_unseen old new d P n e r l =
    tests_as old new d (λ A. within_look d (look P.carries P.news (front_of n.new)) (answer A)) (λ A. landing_answer d P A n) (Err e)
    (λ A. ap (λ (b : Bool). cond b Holds (within_look d (look P.carries P.news (front_of n.new)) (answer A))) (sym r))
    (unseen old new d (look P.carries P.news (front_of n.new)) e answer l)
  where
    answer : Tree → Answer
    answer A = holds_if (has_landing P A (front_of n.new)) n.new

-- ---- the stage
pub stage_is_name : is_name (codes ".distcp.stage") ≡ true
unfolding is_name is_utf8 chars encode
stage_is_name = refl

pub stage_is : codes ".distcp.stage" ≡ stage_name
unfolding stage_name
stage_is = refl

paths_told : (told : Option Tree) (d : Names) (a : Tree → Answer) (r : Result (Unit {0}) SyncError) → ((A : Tree) → Tells d (a A) r) → IfSome told (λ t. IsTree t → Tells d (a (at t d)) r)
paths_told None d a r h = tt
paths_told (Some t) d a r h = λ v. h (at t d)

-- a test that is decided before any look
pub paths_tests : (v : View) (d : Names) (a : Tree → Answer) (r : Result (Unit {0}) SyncError) → ((A : Tree) → TestsPaths d (a A) r) → Tests v v d a r
paths_tests v d a r h = let k = h (λ p. None) in record { store = no_look v r k.no_fault; kind = k.kind; told = paths_told v.tree d a r (λ A. (h A).tells) }

-- what a look kept, where another answer follows that is no fault
pub store_as : (old new : View) (s : Seen) (r : Result (Unit {0}) SyncError) → OnlyLooks {T = Seen} {E = SyncError} old new (Ok s) is_fault → IfErr r (λ e. is_fault e ≡ false) → OnlyLooks old new r is_fault
store_as old new s (Ok x) l h = record { tree = l.tree; rest = l.rest; cause = record { later = l.cause.later; rose = tt; still = l.cause.still }; calm = l.calm }
store_as old new s (Err e) l h = record { tree = l.tree; rest = l.rest; cause = record { later = l.cause.later; rose = λ k. absurd (cc); still = tt }; calm = l.calm }

free_tells : (d path : Names) (b : Bool) (r : Result (Unit {0}) SyncError) → path ≡ d ++ stage_name ∷ [] → r ≡ cond b (Ok tt) (Err (sync_error.StageExists path))
    → IfErr r (λ e. is_of_check e ≡ true) × IfErr r (λ e. is_fault e ≡ false) × Tells d (cond b Holds Taken) r
free_tells d path true r p e = rw e (tt, tt, refl)
free_tells d path false r p e = rw e (refl, refl, (refl, p))

pub free_tests : (old new : View) (d : Names) (s : Seen) (named : Bool) (R : List Entry) (path : Names) (r : Result (Unit {0}) SyncError) → Looked old new d (Some (stage_name ∷ [])) (Ok s)
    → named ≡ list_any (λ entry. list_any (begins_with stage_name) (paths_of entry)) R → path ≡ d ++ stage_name ∷ [] → r ≡ cond (not (not (is_absent s) || named)) (Ok tt) (Err (sync_error.StageExists path))
    → Tests old new d (stage_answer stage_name d R) r
free_tests old new d s named R path r l n p e =
    let k = free_tells d path (not (not (is_absent s) || named)) r p e in
    record { store = store_as old new s r l.store k.1; kind = k.0; told = told old.tree l.shows k.2 }
  where
    told : (tree : Option Tree) → IfSome tree (λ t. IsTree t → Shows (node_at (at t d) (Some (stage_name ∷ []))) s) → Tells d (cond (not (not (is_absent s) || named)) Holds Taken) r
        → IfSome tree (λ t. IsTree t → Tells d (stage_answer stage_name d R (at t d)) r)
    told None h k = tt
    told (Some t) h k = λ v.
        let there : not (is_absent s) ≡ is_some (t (d ++ stage_name ∷ [])) = (h v).there in
        let answer : cond (not (not (is_absent s) || named)) Holds Taken ≡ stage_answer stage_name d R (at t d) =
        ap (λ (b : Bool). cond (not (b || named)) Holds Taken) there
        ∙ ap (λ (b : Bool). cond (not (is_some (t (d ++ stage_name ∷ [])) || b)) Holds Taken) n
        ∙ ap (λ (b : Bool). cond b (LongAt (stage_name ∷ [])) (cond (is_stage_free stage_name R (at t d)) Holds Taken)) (sym l.short) in
        subst (λ (a : Answer). Tells d a r) answer k

pub fit_tests : (d p q : Names) (x : Unit {0}) → stepped_on d p ≡ Ok q → IsPath q → TestsPaths d (within d p Holds) (Ok x)
fit_tests d p q x s is = record { kind = tt; no_fault = tt; tells = ap (λ (b : Bool). cond b (LongAt p) Holds) (step_short d p q s is).1 }
