-- Moves made on a target one after the other.
use Rattle.std.proofs.Common.{◌≡◌, ◌⊎◌, inl, inr, ⊎_elim, ℕ, ◌+◌, ◌<◌, Bool, true, false, cond, List, [], ◌∷◌, ◌++◌, length, get_or, take, zero, suc, Option, Some, None, IfSome, Result, Ok, Err, slice_get, refl, sym, ◌∙◌, ap, subst, arith}
use Rattle.std.proofs.Math.Path.{fun_ext}
use Rattle.std.proofs.lemmas.List.{take_more}
use Rattle.std.proofs.lemmas.Option.{slice_get-get_or}
use Rattle.std.specs.Option.{option_map}
use Rattle.dc_path.specs.Paths.{Names, same_path}
use Rattle.dc_path.proofs.PathLemmas.{same_path-true}
use Rattle.dc_attrs.specs.Attributes.{default_dir}
use Rattle.dc_attrs.specs.Refusals.{refused_dir, refused_new}
use Rattle.dc_attrs.specs.Trees.{Dir, Node, Tree, made, updated}
use Rattle.dc_attrs.specs.declared.refusals.TreeError.{TreeError}
use Rattle.dc_fs.specs.Answers.{Changes, WasOrDone, WriteAnswers, WriteRefusal, is_refusal}
use Rattle.dc_fs.specs.declared.errors.WriteError.{WriteError}
use Rattle.dc_fs.specs.declared.errors.WriteError.TheVariants as write_error
use Rattle.dc_report.specs.declared.entries.Move.{Move}
use Rattle.dc_report.specs.declared.entries.Move.TheVariants.{Make}
use Rattle.dc_replay.specs.Refused.{refused}
use Rattle.dc_replay.specs.Replaying.{NoneRefused}
use Rattle.dc_replay.specs.Steps.{after, step}
use Rattle.dc_replay.proofs.Staging.{after-append}
use Rattle.dc_sync.specs.Replays.{IsAfter, IsAfterOrNext, IsDenied, Leaves, Stops}
use Rattle.dc_sync.specs.declared.replaying.Replayed.{Replayed}
use Rattle.dc_sync.specs.declared.replaying.Replayed.TheVariants as replayed

-- ---- making a directory
-- where nothing stands, it is as the move says
made_new : (t : Tree) (p : Names) → t p ≡ None → updated t p made ≡ step (Make p) t
made_new t p e = fun_ext (λ q. at q (same_path p q) refl)
  where
    at : (q : Names) (b : Bool) → same_path p q ≡ b → cond b (made (t q)) (t q) ≡ cond b (Some (Dir default_dir)) (t q)
    at q true k = ap made (ap t (sym (same_path-true p q k)) ∙ e)
    at q false k = refl

-- where something stands, nothing changes
made_old : (t : Tree) (p : Names) (x : Node) → t p ≡ Some x → updated t p made ≡ t
made_old t p x e = fun_ext (λ q. at q (same_path p q) refl)
  where
    at : (q : Names) (b : Bool) → same_path p q ≡ b → cond b (made (t q)) (t q) ≡ t q
    at q true k = let f : t q ≡ Some x = ap t (sym (same_path-true p q k)) ∙ e in ap made f ∙ sym f
    at q false k = refl

made_at : (t : Tree) (p : Names) (o : Option Node) (why : Option TreeError) (new : Option Tree) → t p ≡ o → new ≡ Some (updated t p made) → refused_new o why ≡ None → new ≡ Some (step (Make p) t)
made_at t p None why new e w h = w ∙ ap Some (made_new t p e)
made_at t p (Some x) why new e w h = absurd (cc)

made_fault : (t : Tree) (p : Names) (new : Option Tree) (o : Option Node) → t p ≡ o → WasOrDone (Some t) new (λ s. updated s p made) → WasOrDone (Some t) new (step (Make p))
made_fault t p new o e (inl w) = inl w
made_fault t p new None e (inr w) = inr (w ∙ ap Some (made_new t p e))
made_fault t p new (Some x) e (inr w) = inl (w ∙ ap Some (made_old t p x e))

-- what a call that makes a directory changes is what the move does
pub make_changes : (p : Names) (old new : Option Tree) (r : Result (Unit {0}) WriteError) → Changes (λ t. updated t p made) old new r → IfSome old (λ t. WriteAnswers (refused_dir t p) r) → Changes (step (Make p)) old new r
make_changes p None new (Ok x) w h = w
make_changes p (Some t) new (Ok x) w h = made_at t p (t p) _ new refl w h
make_changes p None new (Err write_error.Fault) w h = w
make_changes p (Some t) new (Err write_error.Fault) w h = made_fault t p new (t p) refl w
make_changes p old new (Err write_error.Missing) w h = w
make_changes p old new (Err write_error.NotDir) w h = w
make_changes p old new (Err write_error.Exists) w h = w
make_changes p old new (Err write_error.IsDir) w h = w
make_changes p old new (Err write_error.IntoItself) w h = w
make_changes p old new (Err write_error.Root) w h = w
make_changes p old new (Err write_error.Memory) w h = w

-- ---- a move more
next_made : (ms : List Move) (i : ℕ) (m : Move) (t : Tree) → m ≡ get_or ms i m → i < length ms → after (take (i + 1) ms) t ≡ step m (after (take i ms) t)
next_made ms i m t is l = ap (λ (xs : List Move). after xs t) (take_more ms i m l ∙ ap (λ (n : Move). take i ms ++ n ∷ []) (sym is)) ∙ after-append (take i ms) (m ∷ []) t

pub move_more : (ms : List Move) (i : ℕ) (m : Move) (old now new : Option Tree) → m ≡ get_or ms i m → i < length ms → now ≡ option_map (after (take i ms)) old → new ≡ option_map (step m) now → new ≡ option_map (after (take (i + 1) ms)) old
move_more ms i m None now new is l e w = w ∙ ap (option_map (step m)) e
move_more ms i m (Some t) now new is l e w = w ∙ ap (option_map (step m)) e ∙ ap Some (sym (next_made ms i m t is l))

-- ---- where the moves stop
-- an error leaves the tree, or it is a fault
left_or_fault : (change : Tree → Tree) (old new : Option Tree) (e : WriteError) → Changes {X = Unit {0}} change old new (Err e) → (new ≡ old) ⊎ (e ≡ write_error.Fault)
left_or_fault change old new write_error.Fault w = inr refl
left_or_fault change old new write_error.Missing w = inl w
left_or_fault change old new write_error.NotDir w = inl w
left_or_fault change old new write_error.Exists w = inl w
left_or_fault change old new write_error.IsDir w = inl w
left_or_fault change old new write_error.IntoItself w = inl w
left_or_fault change old new write_error.Root w = inl w
left_or_fault change old new write_error.Memory w = inl w

-- a refusal has a reason in the tree
has_reason : (why : Option TreeError) (e : WriteError) → is_refusal e ≡ true → WriteRefusal why e → why ≡ None → ⊥
has_reason None write_error.Fault h r n = cc
has_reason None write_error.Memory h r n = cc
has_reason None write_error.Missing h r n = cc
has_reason None write_error.NotDir h r n = cc
has_reason None write_error.Exists h r n = cc
has_reason None write_error.IsDir h r n = cc
has_reason None write_error.IntoItself h r n = cc
has_reason None write_error.Root h r n = cc
has_reason (Some x) e h r n = cc

-- where none is refused, the next is not
none_next : (ms : List Move) (i : ℕ) (m : Move) (t : Tree) → m ≡ get_or ms i m → i < length ms → NoneRefused t ms → refused (after (take i ms) t) m ≡ None
none_next [] i m t is l n = absurd (omega arith)
none_next (x ∷ ms) zero m t is l n = ap (refused t) is ∙ n.0
none_next (x ∷ ms) (suc i) m t is l n = none_next ms i m (step x t) is (omega arith) n.1

denied : (ms : List Move) (i : ℕ) (m : Move) (error : WriteError) (old now : Option Tree) → m ≡ get_or ms i m → i < length ms → now ≡ option_map (after (take i ms)) old → is_refusal error ≡ true
    → IfSome now (λ t. WriteAnswers {X = Unit {0}} (refused t m) (Err error)) → IfSome old (λ t. NoneRefused t ms → ⊥)
denied ms i m error None now is l e h r = tt
denied ms i m error (Some t) now is l e h r =
    let k = subst (λ (o : Option Tree). IfSome o (λ s. WriteAnswers {X = Unit {0}} (refused s m) (Err error))) e r in
    λ n. has_reason (refused (after (take i ms) t) m) error h k (none_next ms i m t is l n)

module _ (ms : List Move) (i : ℕ) (m : Move) (error : WriteError) (old now new : Option Tree) (is : m ≡ get_or ms i m) (l : i < length ms) (e : now ≡ option_map (after (take i ms)) old)
    (w : Changes {X = Unit {0}} (step m) now new (Err error)) (r : IfSome now (λ t. WriteAnswers {X = Unit {0}} (refused t m) (Err error))) where
  still_after : (error ≡ write_error.Fault → ⊥) → IsAfter ms i old new
  still_after h = record { fewer = l; tree = ⊎_elim (λ k. k ∙ e) (λ k. absurd (h k)) (left_or_fault (step m) now new error w) }

  fault_after : error ≡ write_error.Fault → IsAfterOrNext ms i old new
  fault_after h =
      let f : WasOrDone now new (step m) = subst (λ (x : WriteError). Changes {X = Unit {0}} (step m) now new (Err x)) h w in
      record { fewer = l; tree = ⊎_elim (λ k. inl (k ∙ e)) (λ k. inr (move_more ms i m old now new is l e k)) f }

  next_is : slice_get ms i ≡ Some m
  next_is = slice_get-get_or ms i m l ∙ ap Some (sym is)

  pub stop_leaves : (count : ℕ) (result : Replayed) → count ≡ i → Stops error m count result → Leaves ms old new result
  stop_leaves count replayed.Done c s = absurd s
  stop_leaves count (replayed.Stopped done) c s = subst (λ (n : ℕ). IsAfterOrNext ms n old new) (sym (s.0 ∙ c)) (fault_after s.1)
  stop_leaves count (replayed.Memory done) c s = subst (λ (n : ℕ). IsAfter ms n old new) (sym (s.0 ∙ c)) (still_after s.1)
  stop_leaves count (replayed.Changed path done) c s =
      subst (λ (n : ℕ). IsAfter ms n old new × IsDenied ms path n old) (sym (s.0 ∙ c))
      (still_after (λ k. let g : is_refusal write_error.Fault ≡ true = subst (λ (x : WriteError). is_refusal x ≡ true) k s.2 in cc), record { move = m; next = next_is; first = s.1; refused = denied ms i m error old now is l e s.2 r })
