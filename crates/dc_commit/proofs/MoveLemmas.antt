-- What a rename that failed has done, by what is seen at the place after it.
use Rattle.std.proofs.Common.{◌≡◌, ⊎_elim, ℕ, List, [], ◌∷◌, ◌++◌, true, false, Option, Some, None, Err, IfSome, refl, sym, ap, ◌∙◌, subst, arith, append_assoc}
use Rattle.std.proofs.lemmas.List.{append-nil}
use Rattle.std.specs.Option.{option_or}
use Rattle.dc_path.specs.Paths.{Names, cut, front_of}
use Rattle.dc_path.proofs.PathLemmas.{Ended, ended_cons, front_of-append, cut-append, cut_front, same_name-refl}
use Rattle.dc_attrs.specs.Refusals.{refused_at, refused_in, refused_into, refused_new, refused_onto, refused_rename, refused_root}
use Rattle.dc_attrs.specs.Trees.{Node, Dir, File, Tree, moved, seen, seen_from, seen_node, seen_on}
use Rattle.dc_attrs.specs.declared.refusals.TreeError.{TreeError}
use Rattle.dc_attrs.specs.declared.shown.Seen.{Seen}
use Rattle.dc_attrs.specs.declared.shown.Seen.TheVariants as seen_as
use Rattle.dc_attrs.proofs.TreeChanges.{renamed_to, renamed_off}
use Rattle.dc_fs.specs.Answers.{WasOrDone}
use Rattle.dc_fs.specs.Rest.{Rest, after_rename}
use Rattle.dc_fs.specs.Views.{View}
use Rattle.dc_fs.specs.declared.errors.WriteError.{WriteError}
use Rattle.dc_fs.specs.declared.errors.WriteError.TheVariants as write_error
use Rattle.dc_commit.specs.Moving.{stands, AfterTry, KeepsButRenames, MoveCause, TryCause, with_rename_faults}
use Rattle.dc_commit.specs.declared.moving.Moved.{Moved}
use Rattle.dc_commit.specs.declared.moving.Moved.TheVariants as move

-- ---- what nothing refuses
first_none : {E : Type 0} (a b : Option E) → option_or a b ≡ None → (a ≡ None) × (b ≡ None)
first_none None b h = (refl, h)
first_none (Some e) b h = absurd (cc)

new_none : (o : Option Node) (why : Option TreeError) → refused_new o why ≡ None → (o ≡ None) × (why ≡ None)
new_none None why h = (refl, h)
new_none (Some n) why h = absurd (cc)

root_none : (p : Names) → refused_root p ≡ None → Ended p
root_none [] h = absurd (cc)
root_none (x ∷ p) h = ended_cons x p

at_none : (s : Seen) → refused_at s ≡ None → stands s ≡ true
at_none seen_as.Missing h = absurd (cc)
at_none seen_as.NotDir h = absurd (cc)
at_none seen_as.Dir h = refl
at_none (seen_as.File n) h = refl

in_none : (s : Seen) → refused_in s ≡ None → s ≡ seen_as.Dir
in_none seen_as.Missing h = absurd (cc)
in_none seen_as.NotDir h = absurd (cc)
in_none seen_as.Dir h = refl
in_none (seen_as.File n) h = absurd (cc)

into_none : (o : Option Names) → refused_into o ≡ None → o ≡ None
into_none None h = refl
into_none (Some r) h = absurd (cc)

-- the parts of a rename that nothing refuses
record Parts (t : Tree) (work place : Names) : Type 0 where
  last : Ended place
  there : stands (seen t work) ≡ true
  free : t place ≡ None
  apart : cut work place ≡ None
  parent : seen t (front_of place) ≡ seen_as.Dir

parts : (t : Tree) (work place : Names) → refused_rename t work place ≡ None → Parts t work place
parts t work place h =
    let a = first_none (refused_root work) (option_or (refused_root place) (option_or (refused_at (seen t work)) (refused_onto t work place))) h in
    let b = first_none (refused_root place) (option_or (refused_at (seen t work)) (refused_onto t work place)) a.1 in
    let c = first_none (refused_at (seen t work)) (refused_onto t work place) b.1 in
    let d = new_none (t place) (option_or (refused_into (cut work place)) (refused_in (seen t (front_of place)))) c.1 in
    let e = first_none (refused_into (cut work place)) (refused_in (seen t (front_of place))) d.1 in
    record {
      last = root_none place b.0;
      there = at_none (seen t work) c.0;
      free = d.0;
      apart = into_none (cut work place) e.0;
      parent = in_none (seen t (front_of place)) e.1;
    }

-- ---- what a look finds
nothing_on : (o : Option Node) (s : Seen) → stands s ≡ false → stands (seen_on o s) ≡ false
nothing_on None s h = refl
nothing_on (Some (Dir a)) s h = h
nothing_on (Some (File b a)) s h = refl

-- nothing is seen where nothing stands
seen_nothing : (t : Tree) (front q : Names) → t (front ++ q) ≡ None → stands (seen_from t front q) ≡ false
seen_nothing t front [] h = ap (λ o. stands (seen_node o)) (ap t (sym (append-nil front)) ∙ h)
seen_nothing t front (x ∷ q) h = nothing_on (t front) (seen_from t (front ++ x ∷ []) q) (seen_nothing t (front ++ x ∷ []) q (ap t (append_assoc front (x ∷ []) q) ∙ h))

-- what is seen stands there
seen_stands : (t : Tree) (q : Names) → stands (seen t q) ≡ true → (n : Node) × (t q ≡ Some n)
seen_stands t q h = by (t q) refl
  where
    by : (o : Option Node) → t q ≡ o → (n : Node) × (t q ≡ Some n)
    by (Some n) e = (n, e)
    by None e = let f : true ≡ false = sym h ∙ seen_nothing t [] q e in absurd (cc)

-- ---- two trees that agree on the way
pub seen_agree : (t u : Tree) (front q : Names) → ((a b : Names) → q ≡ a ++ b → u (front ++ a) ≡ t (front ++ a)) → seen_from u front q ≡ seen_from t front q
seen_agree t u front [] h = ap seen_node (ap u (sym (append-nil front)) ∙ h [] [] refl ∙ ap t (append-nil front))
seen_agree t u front (x ∷ q) h =
    ap (λ o. seen_on o (seen_from u (front ++ x ∷ []) q)) (ap u (sym (append-nil front)) ∙ h [] (x ∷ q) refl ∙ ap t (append-nil front))
    ∙ ap (seen_on (t front)) (seen_agree t u (front ++ x ∷ []) q (λ a b e. ap u (append_assoc front (x ∷ []) a) ∙ h (x ∷ a) b (ap (λ (r : Names). x ∷ r) e) ∙ sym (ap t (append_assoc front (x ∷ []) a))))

on_dir : (o : Option Node) (s r : Seen) → seen_on o s ≡ seen_as.Dir → (s ≡ seen_as.Dir) × (seen_on o r ≡ r)
on_dir None s r h = absurd (cc)
on_dir (Some (Dir a)) s r h = (h, refl)
on_dir (Some (File b a)) s r h = absurd (cc)

node_dir : (o : Option Node) (r : Seen) → seen_node o ≡ seen_as.Dir → seen_on o r ≡ r
node_dir None r h = absurd (cc)
node_dir (Some (Dir a)) r h = refl
node_dir (Some (File b a)) r h = absurd (cc)

-- a child of what is seen as a directory is seen as what stands there
seen_child : (u : Tree) (front q : Names) (x : List ℕ) → seen_from u front q ≡ seen_as.Dir → seen_from u front (q ++ x ∷ []) ≡ seen_node (u (front ++ (q ++ x ∷ [])))
seen_child u front [] x h = node_dir (u front) (seen_node (u (front ++ x ∷ []))) h
seen_child u front (y ∷ q) x h =
    let a = on_dir (u front) (seen_from u (front ++ y ∷ []) q) (seen_from u (front ++ y ∷ []) (q ++ x ∷ [])) h in
    a.1 ∙ seen_child u (front ++ y ∷ []) q x a.0 ∙ ap (λ p. seen_node (u p)) (append_assoc front (y ∷ []) (q ++ x ∷ []))

-- ---- the way to the place is as it was
cut_short : (q : Names) (y : List ℕ) (b : Names) → cut (q ++ y ∷ b) q ≡ None
cut_short [] y b = refl
cut_short (x ∷ q) y b = rw (same_name-refl x) (cut_short q y b)

way_same : (t : Tree) (work q : Names) (y : List ℕ) (b : Names) → cut work (q ++ y ∷ b) ≡ None → moved t work (q ++ y ∷ b) q ≡ t q
way_same t work q y b h = renamed_off t work (q ++ y ∷ b) q (cut_short q y b) (cut_front work q (y ∷ b) h)

place_done : (t : Tree) (work place : Names) → moved t work place place ≡ t work
place_done t work place = renamed_to t work place place [] (ap (cut place) (sym (append-nil place)) ∙ cut-append place []) ∙ ap t (append-nil work)

split_front : (r a b : Names) (x : List ℕ) → r ≡ a ++ b → (y : List ℕ) × (c : Names) × (r ++ x ∷ [] ≡ a ++ y ∷ c)
split_front r a [] x e = (x, [], ap (λ (p : Names). p ++ x ∷ []) (e ∙ append-nil a))
split_front r a (y ∷ b) x e = (y, b ++ x ∷ [], ap (λ (p : Names). p ++ x ∷ []) e ∙ append_assoc a (y ∷ b) (x ∷ []))

seen_last : (t : Tree) (work r : Names) (x : List ℕ) → cut work (r ++ x ∷ []) ≡ None → seen t r ≡ seen_as.Dir → seen (moved t work (r ++ x ∷ [])) (r ++ x ∷ []) ≡ seen_node (t work)
seen_last t work r x h d =
    seen_child (moved t work (r ++ x ∷ [])) [] r x
    (seen_agree t (moved t work (r ++ x ∷ [])) [] r (λ a b e.
    let s = split_front r a b x e in
    subst (λ (p : Names). cut work p ≡ None → moved t work p a ≡ t a) (sym s.2) (way_same t work a s.0 s.1) h)
    ∙ d)
    ∙ ap seen_node (place_done t work (r ++ x ∷ []))

node_stands : (n : Node) → stands (seen_node (Some n)) ≡ true
node_stands (Dir a) = refl
node_stands (File b a) = refl

-- a look after the move finds what was moved
seen_done : (t : Tree) (work place : Names) → Parts t work place → stands (seen (moved t work place) place) ≡ true
seen_done t work place p =
    let n = seen_stands t work p.there in
    ap stands (subst (λ (q : Names). cut work q ≡ None → seen t (front_of q) ≡ seen_as.Dir → seen (moved t work q) q ≡ seen_node (t work)) (sym p.last.path)
    (λ h d. seen_last t work p.last.front p.last.name h (ap (seen t) (sym (front_of-append p.last.front p.last.name)) ∙ d)) p.apart p.parent
    ∙ ap seen_node n.1)
    ∙ node_stands n.0

-- ---- one try
-- a place that is found after a rename that failed was moved to
pub found_done : (told now new : Option Tree) (work place : Names) → WasOrDone told now (λ t. moved t work place) → new ≡ now → IfSome now (λ t. stands (seen t place) ≡ true) → IfSome told (λ t. refused_rename t work place ≡ None → new ≡ Some (moved t work place))
found_done None now new work place w s f = tt
found_done (Some t) now new work place w s f = λ can. s ∙ ⊎_elim
    (λ e. let f' : stands (seen t place) ≡ true = subst (λ (o : Option Tree). IfSome o (λ t. stands (seen t place) ≡ true)) e f in
    let no : true ≡ false = sym f' ∙ seen_nothing t [] place (parts t work place can).free in absurd (cc))
    (λ e. e) w

-- a place that is not found was not moved to
pub absent_still : (told now new : Option Tree) (work place : Names) → WasOrDone told now (λ t. moved t work place) → new ≡ now → IfSome now (λ t. stands (seen t place) ≡ false) → IfSome told (λ t. refused_rename t work place ≡ None → new ≡ Some t)
absent_still None now new work place w s f = tt
absent_still (Some t) now new work place w s f = λ can. s ∙ ⊎_elim
    (λ e. e)
    (λ e. let f' : stands (seen (moved t work place) place) ≡ false = subst (λ (o : Option Tree). IfSome o (λ t. stands (seen t place) ≡ false)) e f in
    let no : true ≡ false = sym (seen_done t work place (parts t work place can)) ∙ f' in absurd (cc)) w

-- ---- tries in a row
pub try_more : (told now new : Option Tree) (work place : Names) (r : Option Moved) → IfSome told (λ t. refused_rename t work place ≡ None → now ≡ Some t) → IfSome now (λ t. refused_rename t work place ≡ None → AfterTry r t (moved t work place) new) → IfSome told (λ t. refused_rename t work place ≡ None → AfterTry r t (moved t work place) new)
try_more None now new work place r h w = tt
try_more (Some t) now new work place r h w = λ can. subst (λ (o : Option Tree). IfSome o (λ t. refused_rename t work place ≡ None → AfterTry r t (moved t work place) new)) (h can) w can

pub still_start : (told : Option Tree) (work place : Names) → IfSome told (λ t. refused_rename t work place ≡ None → told ≡ Some t)
still_start None work place = tt
still_start (Some t) work place = λ can. refl

-- ---- what is kept
pub rename_kept : (e : WriteError) (old new : Rest) → new ≡ after_rename {X = Unit {0}} (Err e) old → new ≡ with_rename_faults new.rename_faults old
rename_kept write_error.Fault old new h = h ∙ ap (λ n. with_rename_faults n old) (sym (ap (λ (r : Rest). r.rename_faults) h))
rename_kept write_error.Missing old new h = h ∙ ap (λ n. with_rename_faults n old) (sym (ap (λ (r : Rest). r.rename_faults) h))
rename_kept write_error.NotDir old new h = h ∙ ap (λ n. with_rename_faults n old) (sym (ap (λ (r : Rest). r.rename_faults) h))
rename_kept write_error.Exists old new h = h ∙ ap (λ n. with_rename_faults n old) (sym (ap (λ (r : Rest). r.rename_faults) h))
rename_kept write_error.IsDir old new h = h ∙ ap (λ n. with_rename_faults n old) (sym (ap (λ (r : Rest). r.rename_faults) h))
rename_kept write_error.IntoItself old new h = h ∙ ap (λ n. with_rename_faults n old) (sym (ap (λ (r : Rest). r.rename_faults) h))
rename_kept write_error.Root old new h = h ∙ ap (λ n. with_rename_faults n old) (sym (ap (λ (r : Rest). r.rename_faults) h))
rename_kept write_error.Memory old new h = h ∙ ap (λ n. with_rename_faults n old) (sym (ap (λ (r : Rest). r.rename_faults) h))

pub same_kept : (old new : Rest) → new ≡ old → new ≡ with_rename_faults new.rename_faults old
same_kept old new h = h ∙ ap (λ n. with_rename_faults n old) (sym (ap (λ (r : Rest). r.rename_faults) h))

pub kept_then : (u v w : View) → KeepsButRenames u v → KeepsButRenames v w → KeepsButRenames u w
kept_then u v w a b = record {
  rest = b.rest ∙ ap (with_rename_faults w.rest.rename_faults) a.rest;
  renames = omega (arith, a.renames, b.renames);
  later = omega (arith, a.later, b.later);
  calm = b.calm ∙ a.calm;
}

pub kept_start : (u : View) → KeepsButRenames u u
kept_start u = record { rest = refl; renames = omega arith; later = omega arith; calm = refl }

-- what one try shows, after others
pub cause_more : (u v w : View) (m : Moved) → KeepsButRenames u v → TryCause (Some m) v w → MoveCause m u w
cause_more u v w move.Moved k c = tt
cause_more u v w move.Memory k c = tt
cause_more u v w move.Changed k c = tt
cause_more u v w move.NotMoved k c = absurd c
cause_more u v w move.Uncertain k c = (omega (arith, c.0, k.later), omega (arith, c.1, k.renames))
