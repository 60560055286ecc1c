-- Changes of trees, as stores make them, and the bytes of temporaries.
use Rattle.std.proofs.Common.{◌≡◌, inl, inr, ℕ, Bool, true, false, cond, List, [], ◌∷◌, ◌++◌, Option, Some, None, Result, Ok, Err, OnOk, refl, sym, ◌∙◌, ap, subst, append_assoc}
use Rattle.std.specs.Option.{option_map, is_none}
use Rattle.std.proofs.Math.Path.{fun_ext}
use Rattle.std.proofs.lemmas.List.{append-nil}
use Rattle.dc_path.specs.Paths.{Names, same_path}
use Rattle.dc_path.proofs.PathLemmas.{same_path-true}
use Rattle.dc_attrs.specs.Attributes.{default_dir}
use Rattle.dc_attrs.specs.Trees.{Node, Dir, Tree, with_node, updated, made}
use Rattle.dc_attrs.specs.Refusals.{Refuses, refused_dir, refused_new}
use Rattle.dc_attrs.specs.declared.refusals.TreeError.{TreeError}
use Rattle.dc_fs.specs.Answers.{WasOrDone, Changes}
use Rattle.dc_fs.specs.Temporaries.{all_told}
use Rattle.dc_fs.specs.declared.errors.WriteError.{WriteError}
use Rattle.dc_fs.specs.declared.errors.WriteError.TheVariants as write_error
use Rattle.dc_memfs.specs.declared.calls.Fate.{Fate}
use Rattle.dc_memfs.specs.declared.calls.Fate.TheVariants.{Goes, Fails, FailsDone}
use Rattle.dc_memfs.specs.States.{after_fault, ChangesBy}

-- ---- a directory is made where nothing stands
nothing_there : (o : Option Node) (why : Option TreeError) → refused_new o why ≡ None → o ≡ None
nothing_there None why h = refl
nothing_there (Some n) why h = absurd (cc)

made_at : (t : Tree) (p q : Names) (b : Bool) → t p ≡ None → same_path p q ≡ b → cond b (Some (Dir default_dir)) (t q) ≡ cond b (made (t q)) (t q)
made_at t p q true h e = let f : t q ≡ None = subst (λ (r : Names). t r ≡ None) (same_path-true p q e) h in rw f refl
made_at t p q false h e = refl

pub with_dir : (t : Tree) (p : Names) → refused_dir t p ≡ None → with_node t p (Dir default_dir) ≡ updated t p made
with_dir t p h = fun_ext (λ q. made_at t p q (same_path p q) (nothing_there (t p) _ h) refl)

pub with_dir_ok : {X : Type 0} (t new : Tree) (p : Names) (r : Result X TreeError) → OnOk r (new ≡ with_node t p (Dir default_dir)) → Refuses (refused_dir t p) r → OnOk r (new ≡ updated t p made)
with_dir_ok t new p (Ok x) h e = h ∙ with_dir t p e
with_dir_ok t new p (Err x) h e = h

-- ---- bytes one after the other
told_before : (front y b : List ℕ) (o o' : Option (List ℕ)) → option_map (λ more. front ++ more) o ≡ Some b → ((c : List ℕ) → o ≡ Some c → o' ≡ Some (c ++ y)) → option_map (λ more. front ++ more) o' ≡ Some (b ++ y)
told_before front y b None o' h k = absurd (cc)
told_before front y b (Some c) o' h k = let e : front ++ c ≡ b = cc in rw (k c refl, ← e) (ap (λ bytes. Some bytes) (sym (append_assoc front c y)))

pub all_told-push : (parts : List (Option (List ℕ))) (b y : List ℕ) → all_told parts ≡ Some b → all_told (parts ++ Some y ∷ []) ≡ Some (b ++ y)
all_told-push [] b y h = let e : [] ≡ b = cc in rw (append-nil, ← e) refl
all_told-push (None ∷ parts) b y h = absurd (cc)
all_told-push (Some x ∷ parts) b y h = told_before x y b (all_told parts) (all_told (parts ++ Some y ∷ [])) h (λ c e. all_told-push parts c y e)

-- ---- a change by the fate of its call is a change as stores tell it
done_or_not : (b : Bool) (change : Tree → Tree) (old new : Tree) → new ≡ cond b (change old) old → WasOrDone (Some old) (Some new) change
done_or_not true change old new h = inr (ap (λ (t : Tree). Some t) h)
done_or_not false change old new h = inl (ap (λ (t : Tree). Some t) h)

was_or_done : (fate : Fate) (why : Option TreeError) (change : Tree → Tree) (old new : Tree) → new ≡ after_fault fate why change old → WasOrDone (Some old) (Some new) change
was_or_done Goes why change old new h = done_or_not false change old new h
was_or_done Fails why change old new h = done_or_not false change old new h
was_or_done FailsDone why change old new h = done_or_not (is_none why) change old new h

pub tells_change : {X : Type 0} (fate : Fate) (why : Option TreeError) (change : Tree → Tree) (old new : Tree) (r : Result X WriteError) → ChangesBy fate why change old new r → Changes change (Some old) (Some new) r
tells_change fate why change old new (Ok x) h = ap (λ (t : Tree). Some t) h.done
tells_change fate why change old new (Err write_error.Fault) h = was_or_done fate why change old new h.stopped
tells_change fate why change old new (Err write_error.Missing) h = ap (λ (t : Tree). Some t) h.stopped
tells_change fate why change old new (Err write_error.NotDir) h = ap (λ (t : Tree). Some t) h.stopped
tells_change fate why change old new (Err write_error.Exists) h = ap (λ (t : Tree). Some t) h.stopped
tells_change fate why change old new (Err write_error.IsDir) h = ap (λ (t : Tree). Some t) h.stopped
tells_change fate why change old new (Err write_error.IntoItself) h = ap (λ (t : Tree). Some t) h.stopped
tells_change fate why change old new (Err write_error.Root) h = ap (λ (t : Tree). Some t) h.stopped
tells_change fate why change old new (Err write_error.Memory) h = ap (λ (t : Tree). Some t) h.stopped
