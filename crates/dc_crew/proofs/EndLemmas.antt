-- How the copy of all pieces ends.
use Rattle.std.proofs.Common.{◌≡◌, ◌⊎◌, ◌==◌, ◌&&◌, ℕ, zero, suc, ◌+◌, ◌*◌, ◌<◌, ◌≤◌, ◌^◌, Bool, true, false, cond, not, nat_lt, List, [], ◌∷◌, ◌++◌, length, get_or, replicate, count_by, Option, Result, Ok, Err, OnOk, IfOk, IfErr, All, refl, sym, ap, ◌∙◌, subst, ⊎_elim, arith, length-append, true≢false}
use Rattle.std.proofs.lemmas.Bool.{cases_lt}
use Rattle.std.proofs.lemmas.Bool.Decides.{nat_tests}
use Rattle.std.proofs.lemmas.List.{get_or-replicate, get_or_past, length-replicate}
use Rattle.std.proofs.lemmas.List.Sums.{sum_by-cons, count_by-le-length}
use Rattle.dc_fs.specs.Rest.{Rest}
use Rattle.dc_pool.specs.Counts.{last}
use Rattle.dc_pool.specs.Drawing.{weight_below}
use Rattle.dc_pool.proofs.Losses.{count-append}
use Rattle.dc_split.specs.Bundles.{times, once_below, HoldEachOnce}
use Rattle.dc_kills.specs.Entries.{Entry}
use Rattle.dc_pieces.specs.declared.piece.Piece.{Piece}
use Rattle.dc_pieces.specs.declared.parts.Part.{Part}
use Rattle.dc_pieces.specs.Pieces.{ends_within}
use Rattle.std.specs.List.{list_all}
use Rattle.std.proofs.lemmas.Bool.{ltb-true}
use Rattle.std.proofs.lemmas.List.Elements.{All-head, All-tail, All-cons, All-nil}
use Rattle.dc_crew.specs.declared.copy.Copied.{Copied}
use Rattle.dc_crew.specs.declared.copy.CopyError.{CopyError}
use Rattle.dc_crew.specs.declared.copy.CopyError.TheVariants.{Fault, Halted}
use Rattle.dc_crew.specs.declared.crew.Task.{Task}
use Rattle.dc_crew.specs.declared.halts.Halt.{Halt}
use Rattle.dc_crew.specs.declared.halts.Halt.TheVariants as halts
use Rattle.dc_crew.specs.declared.states.State.{State}
use Rattle.dc_crew.specs.Jobs.{Job, IsPiece}
use Rattle.dc_crew.specs.Slots.{RoseTogether}
use Rattle.dc_crew.specs.States.{no_state, state_of, is_open, tally, tasks_of, undone_below, undone}
use Rattle.dc_crew.specs.Advances.{failures, Brings, is_reached_entry, EndsWaves, IsSettled}
use Rattle.dc_crew.specs.Ends.{EndsAs, EndsCopy, is_failure}
use Rattle.dc_crew.proofs.AdvanceLemmas.{at_last, tasks_count}

-- ---- results handed on
pub ok_then : {X E : Type 0} (r : Result X E) (A Y : Type 0) → OnOk r A → (A → Y) → OnOk r Y
ok_then (Ok x) A Y a k = k a
ok_then (Err e) A Y a k = tt

pub ok_from : {E F : Type 0} (r : Result (Unit {0}) E) (d : Result (Unit {0}) F) (Y : Type 0) → OnOk r (d ≡ Ok tt) → OnOk d Y → OnOk r Y
ok_from {E} {F} (Ok x) d Y e h = subst (λ (q : Result (Unit {0}) F). OnOk q Y) e h
ok_from (Err x) d Y e h = tt

pub err_from : (r : Result (Unit {0}) CopyError) (d : Result (Unit {0}) Halt) (P : Halt → Type 0) (Q : CopyError → Type 0) → IfErr r (λ e. (h : Halt) × (d ≡ Err h) × (e ≡ Halted h)) → IfErr d P → ((h : Halt) → P h → Q (Halted h)) → IfErr r Q
err_from (Ok x) d P Q w h k = tt
err_from (Err e) d P Q w h k = subst Q (sym w.2) (k w.0 (subst (λ (q : Result (Unit {0}) Halt). IfErr q P) w.1 h))

pub err_both : {X E : Type 0} (r : Result X E) (P Q R : E → Type 0) → IfErr r P → IfErr r Q → ((e : E) → P e → Q e → R e) → IfErr r R
err_both (Ok x) P Q R p q k = tt
err_both (Err e) P Q R p q k = k e p q

pub on_ok : {E : Type 0} (d : Result (Unit {0}) E) (A : Type 0) → OnOk d A → d ≡ Ok tt → A
on_ok {E} d A h e = subst (λ (q : Result (Unit {0}) E). OnOk q A) e h

module _ {P : Type 0} where
  -- what is handed out is what the copy of all pieces left
  pub ok_packed : (r : Result (Copied P) CopyError) (d : Result (Unit {0}) CopyError) (parts : List (Part P)) (gone : List ℕ) (Y : Copied P → Type 0) → OnOk r (d ≡ Ok tt) → IfOk r (λ x. x.parts ≡ parts) → IfOk r (λ x. x.given_up ≡ gone)
      → ((x : Copied P) → x.parts ≡ parts → x.given_up ≡ gone → d ≡ Ok tt → Y x) → IfOk r Y
  ok_packed (Ok x) d parts gone Y e p g k = k x p g e
  ok_packed (Err x) d parts gone Y e p g k = tt

  pub ok_done : (r : Result (Copied P) CopyError) (d : Result (Unit {0}) CopyError) (Y : Type 0) → OnOk r (d ≡ Ok tt) → (d ≡ Ok tt → Y) → OnOk r Y
  ok_done (Ok x) d Y e k = k e
  ok_done (Err x) d Y e k = tt

  pub err_packed : (r : Result (Copied P) CopyError) (d : Result (Unit {0}) CopyError) (Q : CopyError → Type 0) → IfErr r (λ e. (d ≡ Err e) ⊎ (e ≡ Halted halts.Memory)) → IfErr d Q → Q (Halted halts.Memory) → IfErr r Q
  err_packed (Ok x) d Q w h m = tt
  err_packed (Err e) d Q w h m = ⊎_elim (λ (s : d ≡ Err e). subst (λ (q : Result (Unit {0}) CopyError). IfErr q Q) s h) (λ (s : e ≡ Halted halts.Memory). subst Q (sym s) m) w

-- ---- ends
pub ends_waves_map : (job : Job) (states : List State) (A B : Type 0) (h : Halt) → (A → B) → EndsWaves job states A h → EndsWaves job states B h
ends_waves_map job states A B halts.Memory f w = w
ends_waves_map job states A B (halts.Differs p x y) f w = w
ends_waves_map job states A B (halts.Changed p) f w = w
ends_waves_map job states A B (halts.Failed p) f w = (w.0, f w.1)

pub ends_as_map : (job : Job) (states : List State) (A B C D : Type 0) (e : CopyError) → (A → B) → (C → D) → EndsAs job states A C e → EndsAs job states B D e
ends_as_map job states A B C D Fault f k w = f w
ends_as_map job states A B C D (Halted h) f k w = ends_waves_map job states C D h k w

pub ends_copy : (job : Job) (states : List State) (A B : Type 0) (e : CopyError) → length states ≡ length job.pieces → EndsAs job states A B e → EndsCopy job A B e
ends_copy job states A B Fault len w = w
ends_copy job states A B (Halted halts.Memory) len w = tt
ends_copy job states A B (Halted (halts.Differs p x y)) len w = w
ends_copy job states A B (Halted (halts.Changed p)) len w = w
ends_copy job states A B (Halted (halts.Failed p)) len w = (subst (λ (k : ℕ). p < k) len w.0.there, w.1)

-- without a failure of the target and one in a slot, none is the end
pub no_failure : (job : Job) (states : List State) (A B : Type 0) (e : CopyError) → (e ≡ Fault → ⊥) → (B → ⊥) → EndsAs job states A B e → is_failure e ≡ false
no_failure job states A B Fault f b w = absurd (f refl)
no_failure job states A B (Halted halts.Memory) f b w = refl
no_failure job states A B (Halted (halts.Differs p x y)) f b w = refl
no_failure job states A B (Halted (halts.Changed p)) f b w = refl
no_failure job states A B (Halted (halts.Failed p)) f b w = absurd (b w.1)

module _ {P : Type 0} where
  -- what is brought, by weaker words for what is counted
  pub brings_map : (job : Job) (content : P → Option (List ℕ)) (size_of : P → ℕ) (plan : List Entry) (size : ℕ) (A B C D : ℕ → Type 0) (states : List State) (parts : List (Part P)) → ((n : ℕ) → n ≤ last → A n → B n) → ((n : ℕ) → C n → D n)
      → Brings job content size_of plan size A C states parts → Brings job content size_of plan size B D states parts
  brings_map job content size_of plan size A B C D states parts f k b = record {
    right = b.right;
    once = b.once;
    failed = f (failures states) b.few b.failed;
    made = k (length parts) b.made;
    few = b.few;
    reached = λ none. k (length job.pieces + count_by (is_reached_entry plan job.pieces size) plan) (b.reached none);
  }

-- ---- states at the beginning
pub fresh_at : (n p : ℕ) → get_or (replicate n no_state) p no_state ≡ no_state
fresh_at n p = ⊎_elim
    (λ (l : p < n). get_or-replicate n p no_state no_state l)
    (λ (r : n ≤ p). get_or_past (replicate n no_state) p no_state (let e = length-replicate n no_state in omega arith))
    (cases_lt p n)

-- fresh pieces are due
pub some_due : (plan : List Entry) (states : List State) (tasks : List Task) → tasks ≡ tasks_of plan states → ((p : ℕ) → state_of states p ≡ no_state) → 0 < length states → 0 < length tasks
some_due plan states tasks e fresh some =
    let c = tasks_count plan states (length states) 0 in
    let l = count_by-le-length (λ (t : Task). t.piece == 0) tasks in
    let a = ap (count_by (λ (t : Task). t.piece == 0)) e in
    let o : tally (nat_lt 0 (length states) && is_open (state_of states 0)) ≡ tally (nat_lt 0 (length states) && is_open no_state) = ap (λ (s : State). tally (nat_lt 0 (length states) && is_open s)) (fresh 0) in
    let t : tally (nat_lt 0 (length states) && is_open no_state) ≡ 1 = yes (length states) some in
    omega arith
  where
    yes : (n : ℕ) → 0 < n → tally (nat_lt 0 n && true) ≡ 1
    yes n h = grind (arith, nat_tests)

-- what is due stands in a bundle
pub some_bundle : (count : ℕ) (bundles : List (List ℕ)) → HoldEachOnce count bundles → 0 < count → 0 < length bundles
some_bundle count [] once some = let o = once 0 in let t : once_below count 0 ≡ 1 = grind (arith, nat_tests) in absurd (omega arith)
some_bundle count (b ∷ bs) once some = omega arith

-- ---- pieces that are not done
undone_one : (n p : ℕ) (d : Bool) → times p (cond d [] (n ∷ [])) ≡ tally (not d && (n == p))
undone_one n p true = refl
undone_one n p false = let e = sum_by-cons (λ (y : ℕ). cond {A = ℕ} (y == p) 1 0) n [] in omega arith

undone_count : (states : List State) (n p : ℕ) → times p (undone_below states n) ≡ tally (nat_lt p n && not (state_of states p).done)
undone_count states zero p = let z : tally (nat_lt p 0 && not (state_of states p).done) ≡ 0 = grind (arith, nat_tests) in sym z
undone_count states (suc n) p =
    let a = count-append (λ (y : ℕ). y == p) (undone_below states n) (cond (state_of states n).done [] (n ∷ [])) in
    let b = undone_one n p (state_of states n).done in
    let i = undone_count states n p in
    let l = at_last n p (not (state_of states n).done) (not (state_of states p).done) (λ e. ap (λ (k : ℕ). not (state_of states k).done) (sym e)) in
    omega arith

-- a piece is done or not
pub done_or_not : (states : List State) (count p : ℕ) → length states ≡ count → tally (state_of states p).done + times p (undone states) ≡ once_below count p
done_or_not states count p e =
    let u = undone_count states (length states) p in
    ⊎_elim
    (λ (l : p < length states). let b = both (nat_lt p (length states)) (state_of states p).done (yes p (length states) l) in let o = one p count (omega arith) in omega arith)
    (λ (r : length states ≤ p).
    let z : tally (state_of states p).done ≡ 0 = ap (λ (s : State). tally s.done) (get_or_past states p no_state r) in
    let y : tally (nat_lt p (length states) && not (state_of states p).done) ≡ 0 = past p (length states) (not (state_of states p).done) r in
    let o = none p count (omega arith) in
    omega arith)
    (cases_lt p (length states))
  where
    yes : (p n : ℕ) → p < n → nat_lt p n ≡ true
    yes p n h = grind (arith, nat_tests)

    both : (t d : Bool) → t ≡ true → tally d + tally (t && not d) ≡ 1
    both t true e = grind (arith, nat_tests)
    both t false e = grind (arith, nat_tests)

    past : (p n : ℕ) (b : Bool) → n ≤ p → tally (nat_lt p n && b) ≡ 0
    past p n b h = grind (arith, nat_tests)

    one : (p n : ℕ) → p < n → once_below n p ≡ 1
    one p n h = grind (arith, nat_tests)

    none : (p n : ℕ) → n ≤ p → once_below n p ≡ 0
    none p n h = grind (arith, nat_tests)

four_of : (n f : ℕ) (d : Bool) → (d ≡ true) ⊎ (4 ≤ f) → 4 * length (cond d [] (n ∷ [])) ≤ f
four_of n f true h = omega arith
four_of n f false h = ⊎_elim (λ (e : false ≡ true). absurd (true≢false (sym e))) (λ (r : 4 ≤ f). omega arith) h

-- each piece that is not done has failed four times
four_each : (states : List State) (n : ℕ) → ((p : ℕ) → p < n → ((state_of states p).done ≡ true) ⊎ (4 ≤ (state_of states p).failed)) → 4 * length (undone_below states n) ≤ weight_below (λ p. (state_of states p).failed) n
four_each states zero h = omega arith
four_each states (suc n) h =
    let a = length-append (undone_below states n) (cond (state_of states n).done [] (n ∷ [])) in
    let i = four_each states n (λ p l. h p (omega arith)) in
    let f = four_of n (state_of states n).failed (state_of states n).done (h n (omega arith)) in
    omega arith

pub undone_failed : (go_on : Bool) (states : List State) → IsSettled go_on states → 4 * length (undone states) ≤ failures states
undone_failed go_on states s = four_each states (length states) s.each

-- a list of nothing
pub no_length : {X : Type 0} (xs : List X) → length xs ≡ 0 → xs ≡ []
no_length [] e = refl
no_length (x ∷ xs) e = absurd (omega arith)

none_below : (states : List State) (n : ℕ) → ((p : ℕ) → p < n → (state_of states p).done ≡ true) → undone_below states n ≡ []
none_below states zero h = refl
none_below states (suc n) h =
    ap (λ (xs : List ℕ). xs ++ (cond (state_of states n).done [] (n ∷ []))) (none_below states n (λ p l. h p (omega arith)))
    ∙ ap (λ (d : Bool). cond {A = List ℕ} d [] (n ∷ [])) (h n (omega arith))

-- without leave, none is given up
pub none_undone : (states : List State) → IsSettled false states → undone states ≡ []
none_undone states s = none_below states (length states) (λ p l. ⊎_elim (λ (d : (state_of states p).done ≡ true). d) (λ (r : 4 ≤ (state_of states p).failed). absurd (let f = s.few refl p in omega arith)) (s.each p l))

pub rose_less : (m n : ℕ) (source source_now target target_now : Rest) → RoseTogether source source_now target target_now n → m ≤ n → RoseTogether source source_now target target_now m
rose_less m n source source_now target target_now r le a b = let x = r a b in omega arith

-- pieces of items that are there
pub are_pieces : (items : ℕ) (pieces : List Piece) → All (λ p. p.item < items) pieces → list_all ends_within pieces ≡ true → All (IsPiece items) pieces
are_pieces items [] h w = All-nil (IsPiece items)
are_pieces items (p ∷ ps) h w =
    let b = both (ends_within p) (list_all ends_within ps) w in
    All-cons (IsPiece items) p ps (All-head (λ p. p.item < items) p ps h, ltb-true (p.from + p.length) (2 ^ 64) b.0) (are_pieces items ps (All-tail (λ p. p.item < items) p ps h) b.1)
  where
    both : (a b : Bool) → (a && b) ≡ true → (a ≡ true) × (b ≡ true)
    both true b e = (refl, e)
    both false b e = absurd (true≢false (sym e))
