-- Looks below a base: which paths are too long, what is seen, and the path that leads to another.
use Rattle.std.proofs.Common.{◌≡◌, ◌≢◌, ◌⊎◌, inl, inr, ⊎_elim, ℕ, Bool, true, false, cond, not, nat_le, List, [], ◌∷◌, ◌++◌, length, Option, Some, None, IfErr, IfSome, OnOk, Result, Ok, Err, refl, sym, ◌∙◌, ap, subst, append_assoc, arith}
use Rattle.std.proofs.lemmas.Bool.Decides.{nat_tests}
use Rattle.std.proofs.lemmas.Bool.{and_parts}
use Rattle.std.proofs.lemmas.List.{append-nil}
use Rattle.dc_attrs.specs.Trees.{Dir, File, IsTree, Node, Tree, at, seen, seen_node}
use Rattle.dc_attrs.specs.declared.shown.Seen.{Seen}
use Rattle.dc_attrs.specs.declared.shown.Seen.TheVariants as seen_as
use Rattle.dc_attrs.proofs.TreeLemmas.{seen_from-there, seen_from-Dir, seen_from-File}
use Rattle.dc_fs.specs.Causes.{Rose}
use Rattle.dc_fs.specs.Views.{OnlyLooks, View}
use Rattle.dc_listing.specs.Roots.{and_then}
use Rattle.dc_path.specs.Paths.{IsPath, IsWithin, Names, fits, joined, max_bytes, max_names}
use Rattle.dc_path.proofs.LimitLemmas.{front_within, path_within}
use Rattle.dc_listing.proofs.RootWalks.{within_fits}
use Rattle.dc_replay.specs.TestAnswers.{is_long}
use Rattle.dc_replay.specs.Tests.{node_at}
use Rattle.dc_sync.specs.Checks.{IsOfLook, Looked, Shows}
use Rattle.dc_sync.specs.Errors.{is_fault}
use Rattle.dc_sync.specs.Steps.{stepped_on}
use Rattle.dc_sync.specs.declared.errors.SyncError.{SyncError}
use Rattle.dc_sync.specs.declared.errors.SyncError.TheVariants as sync_error

-- ---- which paths are too long
-- what goes on below a path that is past the limits is too long
long_below : (d : Names) (x : List ℕ) (p : Names) → fits (d ++ x ∷ []) ≡ false → is_long d (x ∷ p) ≡ true
long_below d x p h = ap (λ (q : Names). not (fits q)) (sym (append_assoc d (x ∷ []) p)) ∙ ap not (by (fits ((d ++ x ∷ []) ++ p)) refl)
  where
    within : (q : Names) → fits q ≡ true → IsWithin q
    within q e =
        let k = and_parts (nat_le (length q) max_names) (nat_le (length (joined q)) max_bytes) e in
        let a = k.0 in
        let b = k.1 in
        record { few = grind (arith, nat_tests, a); short = grind (arith, nat_tests, b) }

    by : (b : Bool) → fits ((d ++ x ∷ []) ++ p) ≡ b → b ≡ false
    by false e = refl
    by true e = sym (within_fits (d ++ x ∷ []) (front_within (d ++ x ∷ []) p (within ((d ++ x ∷ []) ++ p) e))) ∙ h

pub stepped_ok : (d p q : Names) → stepped_on d p ≡ Ok q → q ≡ d ++ p
stepped_ok d [] q e = let k : q ≡ d = cc in k ∙ sym (append-nil d)
stepped_ok d (x ∷ p) q e = by (fits (d ++ x ∷ [])) e (stepped_ok (d ++ x ∷ []) p q)
  where
    by : (b : Bool) → and_then (cond b (Ok (d ++ x ∷ [])) (Err (sync_error.TooLong d x))) (λ longer. stepped_on longer p) ≡ Ok q
        → (stepped_on (d ++ x ∷ []) p ≡ Ok q → q ≡ (d ++ x ∷ []) ++ p) → q ≡ d ++ x ∷ p
    by true k ih = ih k ∙ append_assoc d (x ∷ []) p
    by false k ih = absurd (cc)

-- the refusal of a path below a base
pub record IsRefused (d p : Names) (e : SyncError) : Type 0 where
  pub parent : Names
  pub name : List ℕ
  pub is : e ≡ sync_error.TooLong parent name
  pub long : is_long d p ≡ true

pub stepped_err : (d p : Names) (e : SyncError) → stepped_on d p ≡ Err e → IsRefused d p e
stepped_err d [] e h = absurd (cc)
stepped_err d (x ∷ p) e h = by (fits (d ++ x ∷ [])) refl h (stepped_err (d ++ x ∷ []) p e)
  where
    by : (b : Bool) → fits (d ++ x ∷ []) ≡ b → and_then (cond b (Ok (d ++ x ∷ [])) (Err (sync_error.TooLong d x))) (λ longer. stepped_on longer p) ≡ Err e
        → (stepped_on (d ++ x ∷ []) p ≡ Err e → IsRefused (d ++ x ∷ []) p e) → IsRefused d (x ∷ p) e
    by true f k ih =
        let r = ih k in
        record { parent = r.parent; name = r.name; is = r.is; long = ap (λ (q : Names). not (fits q)) (sym (append_assoc d (x ∷ []) p)) ∙ r.long }
    by false f k ih =
        record {
          parent = d;
          name = x;
          is = cc;
          long = long_below d x p f;
        }

pub memory_or : (e : SyncError) → (e ≡ sync_error.Memory) ⊎ (e ≢ sync_error.Memory)
memory_or (sync_error.NoReport path) = inr (λ k. cc)
memory_or (sync_error.TooBig path) = inr (λ k. cc)
memory_or (sync_error.BadReport line) = inr (λ k. cc)
memory_or (sync_error.NotAtBegin path) = inr (λ k. cc)
memory_or (sync_error.StageExists path) = inr (λ k. cc)
memory_or (sync_error.ReportFalse path) = inr (λ k. cc)
memory_or sync_error.TooMany = inr (λ k. cc)
memory_or (sync_error.TooLong parent name) = inr (λ k. cc)
memory_or (sync_error.Changed path) = inr (λ k. cc)
memory_or sync_error.Fault = inr (λ k. cc)
memory_or sync_error.Memory = inl refl

-- why a path below a base is refused
pub step_refused : (d p : Names) (e : SyncError) → (e ≢ sync_error.Memory → stepped_on d p ≡ Err e) → IsOfLook d (Some p) e × (is_fault e ≡ false)
step_refused d p e h = ⊎_elim lack (λ k. named (stepped_err d p e (h k)) (h k)) (memory_or e)
  where
    lack : e ≡ sync_error.Memory → IsOfLook d (Some p) e × (is_fault e ≡ false)
    lack k = (subst (IsOfLook d (Some p)) (sym k) tt, ap is_fault k)

    named : IsRefused d p e → stepped_on d p ≡ Err e → IsOfLook d (Some p) e × (is_fault e ≡ false)
    named r k = (subst (IsOfLook d (Some p)) (sym r.is) (record { long = r.long; first = k ∙ ap Err r.is }), ap is_fault r.is)

-- and where it is not, the path fits
pub step_short : (d p q : Names) → stepped_on d p ≡ Ok q → IsPath q → (q ≡ d ++ p) × (is_long d p ≡ false)
step_short d p q e is = let k = stepped_ok d p q e in (k, ap (λ (r : Names). not (fits r)) (sym k) ∙ ap not (within_fits q (path_within q is)))

-- ---- what is seen
pub shows_node : (t : Tree) (q : Names) → IsTree t → Shows (t q) (seen t q)
shows_node t q v = by (t q) refl
  where
    none : t q ≡ None → (s : Seen) → seen t q ≡ s → Shows None s
    none e seen_as.Dir k = let f : seen_node None ≡ seen_as.Dir = ap seen_node (sym e) ∙ seen_from-Dir t [] q k in absurd (cc)
    none e (seen_as.File n) k = let f : seen_node None ≡ seen_as.File n = ap seen_node (sym e) ∙ seen_from-File t [] q n k in absurd (cc)
    none e seen_as.Missing k = record { there = refl; dir = refl }
    none e seen_as.NotDir k = record { there = refl; dir = refl }

    node : (n : Node) → Shows (Some n) (seen_node (Some n))
    node (Dir a) = record { there = refl; dir = refl }
    node (File b a) = record { there = refl; dir = refl }

    by : (o : Option Node) → t q ≡ o → Shows o (seen t q)
    by None e = none e (seen t q) refl
    by (Some n) e = subst (Shows (Some n)) (sym (seen_from-there t [] q n v e)) (node n)

-- ---- what a call that does not look keeps
no_rise : {X : Type 0} (n : ℕ) (r : Result X SyncError) → IfErr r (λ e. is_fault e ≡ false) → IfErr r (λ e. is_fault e ≡ true → Rose n n)
no_rise n (Ok x) h = tt
no_rise n (Err e) h = λ k. absurd (cc)

still : {X : Type 0} (n : ℕ) (r : Result X SyncError) → OnOk r (n ≡ n)
still n (Ok x) = refl
still n (Err e) = tt

pub no_look : {X : Type 0} (v : View) (r : Result X SyncError) → IfErr r (λ e. is_fault e ≡ false) → OnlyLooks v v r is_fault
no_look v r h = record { tree = refl; rest = refl; cause = record { later = omega arith; rose = no_rise v.faults r h; still = still v.faults r }; calm = refl }

-- what a store shows at a path below a base
pub seen_told : (told : Option Tree) (d p q : Names) (s : Seen) → q ≡ d ++ p → IfSome told (λ t. s ≡ seen t q) → IfSome told (λ t. IsTree t → Shows (node_at (at t d) (Some p)) s)
seen_told None d p q s e h = tt
seen_told (Some t) d p q s e h = λ v. subst (Shows (t (d ++ p))) (sym (h ∙ ap (seen t) e)) (shows_node t (d ++ p) v)

pub looked_short : (v : View) (d p : Names) (e : SyncError) → (e ≢ sync_error.Memory → stepped_on d p ≡ Err e) → Looked v v d (Some p) (Err e)
looked_short v d p e h = let k = step_refused d p e h in record { store = no_look v (Err e) k.1; refused = k.0; short = tt; shows = tt }

pub looked_seen : (old new : View) (d p q : Names) (s : Seen) → stepped_on d p ≡ Ok q → IsPath q → OnlyLooks {T = Seen} {E = SyncError} old new (Ok s) is_fault → IfSome old.tree (λ t. s ≡ seen t q) → Looked old new d (Some p) (Ok s)
looked_seen old new d p q s e is l h =
    let k = step_short d p q e is in
    record { store = l; refused = tt; short = k.1; shows = seen_told old.tree d p q s k.0 h }
