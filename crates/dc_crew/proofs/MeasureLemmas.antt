-- What is left falls with each wave.
use Rattle.std.proofs.Common.{◌≡◌, ◌⊎◌, inl, inr, ◌==◌, ◌&&◌, ℕ, zero, suc, ◌+◌, ◌-◌, ◌*◌, ◌<◌, ◌≤◌, ◌^◌, Bool, true, false, cond, not, nat_lt, List, [], ◌∷◌, ◌++◌, length, All, count_by, Option, None, Some, refl, sym, ap, ◌∙◌, subst, ⊎_elim, arith, true≢false}
use Rattle.std.specs.List.{Contains}
use Rattle.std.specs.Map.{lookup}
use Rattle.std.specs.Option.{is_some}
use Rattle.std.proofs.lemmas.Bool.{cases_lt}
use Rattle.std.proofs.lemmas.Bool.Decides.{nat_tests}
use Rattle.std.proofs.lemmas.List.Sums.{count_by-le-length}
use Rattle.std.proofs.lemmas.List.Elements.{All-contains}
use Rattle.dc_kills.specs.Entries.{Entry, Attempt}
use Rattle.dc_kills.specs.Plans.{stop_in, is_same}
use Rattle.dc_kills.specs.declared.stop.Stop.{Stop}
use Rattle.dc_pool.specs.Drawing.{weight_below}
use Rattle.dc_pool.specs.Counts.{Gained}
use Rattle.dc_crew.specs.declared.crew.Task.{Task}
use Rattle.dc_pieces.specs.declared.piece.Piece.{Piece}
use Rattle.dc_crew.specs.declared.states.State.{State}
use Rattle.dc_pieces.specs.declared.parts.Part.{Part}
use Rattle.dc_crew.specs.Jobs.{piece_at, step_in, is_reached}
use Rattle.dc_crew.specs.States.{no_state, state_of, is_due, tasks_of, tally, parts_of}
use Rattle.dc_crew.specs.Advances.{Advanced, failures}
use Rattle.dc_crew.proofs.SumLemmas.{zeros, below_le, below_same, below_add, below_strict, count_le, count_strict}
use Rattle.dc_crew.proofs.AdvanceLemmas.{tasks_count, due_there}

-- what is left: a piece that is not done, failures that it may have, entries of the plan for attempts that were not begun
abbrev pub left_of : State → ℕ
left_of s = cond s.done 0 1 + (4 - s.failed)

abbrev pub is_unused : List State → Entry → Bool
is_unused states e = nat_lt (state_of states e.0.0).ended e.0.1

abbrev pub measure : List Entry → List State → ℕ
measure plan states = weight_below (λ p. left_of (state_of states p)) (length states) + count_by (is_unused states) plan

flip : (b : Bool) → cond {A = ℕ} b 0 1 + tally b ≡ 1
flip true = refl
flip false = refl

left_le : (s t : State) (d f : ℕ) → tally t.done ≡ tally s.done + d → t.failed ≡ s.failed + f → left_of t ≤ left_of s
left_le s t d f e h = let a = flip s.done in let b = flip t.done in omega arith

left_lt : (s t : State) (d f : ℕ) → tally t.done ≡ tally s.done + d → t.failed ≡ s.failed + f → 0 < d + f → s.failed < 4 → left_of t < left_of s
left_lt s t d f e h some few = let a = flip s.done in let b = flip t.done in omega arith

open_few : (t d : Bool) (n : ℕ) → 0 < tally (t && (not d && nat_lt n 4)) → (t ≡ true) × (n < 4)
open_few t d n h = grind (arith, nat_tests)

pub due_facts : (states : List State) (p : ℕ) → 0 < tally (is_due states p) → (p < length states) × ((state_of states p).failed < 4)
due_facts states p h = let o = open_few (nat_lt p (length states)) (state_of states p).done (state_of states p).failed h in (grind (arith, nat_tests), o.1)

unused_le : (a b n : ℕ) → a ≤ b → cond {A = ℕ} (nat_lt b n) 1 0 ≤ cond {A = ℕ} (nat_lt a n) 1 0
unused_le a b n h = grind (arith, nat_tests)

used_now : (a b n : ℕ) → n ≡ a + 1 → n ≤ b → cond {A = ℕ} (nat_lt b n) 1 0 < cond {A = ℕ} (nat_lt a n) 1 0
used_now a b n e h = grind (arith, nat_tests)

pick_entry : (k : Attempt) (e : Entry) (es : List Entry) (b : Bool) → is_same k e.0 ≡ b → is_some (cond b (Some e.1) (lookup (is_same k) es)) ≡ true
    → (is_some (lookup (is_same k) es) ≡ true → (f : Entry) × Contains es f × (is_same k f.0 ≡ true)) → (f : Entry) × Contains (e ∷ es) f × (is_same k f.0 ≡ true)
pick_entry k e es true t h more = (e, (0, omega arith, refl), t)
pick_entry k e es false t h more = let r = more h in let b = r.1.1 in (r.0, (suc r.1.0, omega arith, r.1.2), r.2)

entry_there : (k : Attempt) (plan : List Entry) → is_some (lookup (is_same k) plan) ≡ true → (e : Entry) × Contains plan e × (is_same k e.0 ≡ true)
entry_there k [] h = absurd (true≢false (sym h))
entry_there k (e ∷ es) h = pick_entry k e es (is_same k e.0) refl h (entry_there k es)

reached_some : (o : Option Stop) (count size : ℕ) → is_reached (step_in o) count size ≡ true → is_some o ≡ true
reached_some None count size h = absurd (true≢false (sym h))
reached_some (Some s) count size h = refl

same_parts : (k j : Attempt) → is_same k j ≡ true → (j.0 ≡ k.0) × (j.1 ≡ k.1)
same_parts k j h = grind (arith, nat_tests)

pub measure_falls : (plan : List Entry) (pieces : List Piece) (size : ℕ) (old new : List State) (fell dead : ℕ) → Advanced plan pieces size old new fell dead → measure plan new < measure plan old
measure_falls plan pieces size old new fell dead a =
    let n = length old in
    let p = a.moves.0 in
    let some = a.moves.1 in
    let facts = due_facts old p (let w = a.within p in omega arith) in
    let left : (x : ℕ) → x < n → left_of (state_of new x) ≤ left_of (state_of old x) = λ x _. left_le (state_of old x) (state_of new x) (a.done_now x) (a.failed_now x) (a.done x) (a.failed x) in
    let unused : (e : Entry) → cond {A = ℕ} (is_unused new e) 1 0 ≤ cond {A = ℕ} (is_unused old e) 1 0 = λ e. unused_le (state_of old e.0.0).ended (state_of new e.0.0).ended e.0.1 (let q = a.ended e.0.0 in omega arith) in
    let lefts = below_le (λ x. left_of (state_of new x)) (λ x. left_of (state_of old x)) n left in
    let counts = count_le (is_unused new) (is_unused old) plan unused in
    let len = ap (λ (k : ℕ). weight_below (λ x. left_of (state_of new x)) k) a.len in
    ⊎_elim
    (λ (k : 0 < a.killed_now p).
    let e = entry_there (p, (state_of old p).ended + 1) plan (reached_some (stop_in plan (p, (state_of old p).ended + 1)) (piece_at pieces p).length size (a.doomed p k)) in
    let at = same_parts (p, (state_of old p).ended + 1) e.0.0 e.2 in
    let was : (state_of old e.0.0.0).ended ≡ (state_of old p).ended = ap (λ (k : ℕ). (state_of old k).ended) at.0 in
    let is : (state_of new e.0.0.0).ended ≡ (state_of new p).ended = ap (λ (k : ℕ). (state_of new k).ended) at.0 in
    let q = a.ended p in
    let s = count_strict (is_unused new) (is_unused old) plan e.0 unused e.1 (used_now (state_of old e.0.0.0).ended (state_of new e.0.0.0).ended e.0.0.1 (let t = at.1 in omega arith) (let t = at.1 in omega arith)) in
    omega arith)
    (λ (k : a.killed_now p ≤ 0).
    let s = below_strict (λ x. left_of (state_of new x)) (λ x. left_of (state_of old x)) n p left facts.0 (left_lt (state_of old p) (state_of new p) (a.done_now p) (a.failed_now p) (a.done p) (a.failed p) (omega arith) facts.1) in
    omega arith)
    (cases_lt 0 (a.killed_now p))

pub one_due : (b : Bool) → tally b ≤ 1
one_due true = omega arith
one_due false = omega arith

pub bound_kept : (plan : List Entry) (pieces : List Piece) (size : ℕ) (old new : List State) (fell dead : ℕ) → Advanced plan pieces size old new fell dead → (p : ℕ) → (state_of old p).ended + measure plan old < 2 ^ 31 → (state_of new p).ended + measure plan new < 2 ^ 31
bound_kept plan pieces size old new fell dead a p h =
    let m = measure_falls plan pieces size old new fell dead a in let e = a.ended p in let w = a.within p in let o = one_due (is_due old p) in omega arith

pub failed_kept : (plan : List Entry) (pieces : List Piece) (size : ℕ) (old new : List State) (fell dead : ℕ) → Advanced plan pieces size old new fell dead → (p : ℕ) → (state_of old p).failed ≤ 4 → (state_of new p).failed ≤ 4
failed_kept plan pieces size old new fell dead a p h =
    let e = a.failed p in let w = a.within p in let o = one_due (is_due old p) in
    ⊎_elim
    (λ (k : 0 < a.failed_now p). let f = due_facts old p (omega arith) in let g = f.1 in omega arith)
    (λ (k : a.failed_now p ≤ 0). omega arith)
    (cases_lt 0 (a.failed_now p))

pub failures_grow : (plan : List Entry) (pieces : List Piece) (size : ℕ) (old new : List State) (fell dead : ℕ) → Advanced plan pieces size old new fell dead → failures new ≤ failures old + fell
failures_grow plan pieces size old new fell dead a =
    let len = ap (λ (k : ℕ). weight_below (λ p. (state_of new p).failed) k) a.len in
    let s = below_same (λ p. (state_of new p).failed) (λ p. (state_of old p).failed + a.failed_now p) (length old) (λ p _. a.failed p) in
    let t = below_add (λ p. (state_of old p).failed) a.failed_now (length old) in
    let f = a.fails in
    omega arith

module _ {S : Type 0} where
  pub gained_on : (f : S → ℕ) (m n k : ℕ) (a b c : List S) → Gained f m a b → Gained f n b c → k ≤ m + n → Gained f k a c
  gained_on f m n k a b c p q le all = let y = q all in let x = p y.0 in let u = x.1 in let v = y.1 in (x.0, omega arith)

  pub gained_none : (f : S → ℕ) (k : ℕ) (a : List S) → k ≡ 0 → Gained f k a a
  gained_none f k a e all = (all, omega arith)

settled : (t d : Bool) (n : ℕ) → t ≡ true → tally (t && (not d && nat_lt n 4)) ≡ 0 → (d ≡ true) ⊎ (4 ≤ n)
settled t true n e h = inl refl
settled t false n e h = ⊎_elim (λ (l : n < 4). absurd (false_due t n e l h)) (λ (r : 4 ≤ n). inr r) (cases_lt n 4)
  where
    false_due : (t : Bool) (n : ℕ) → t ≡ true → n < 4 → tally (t && (not false && nat_lt n 4)) ≡ 0 → ⊥
    false_due t n e l h = grind (arith, nat_tests)

pub all_settled : (plan : List Entry) (states : List State) (tasks : List Task) → tasks ≡ tasks_of plan states → length tasks ≡ 0 → (p : ℕ) → p < length states → ((state_of states p).done ≡ true) ⊎ (4 ≤ (state_of states p).failed)
all_settled plan states tasks e none p h =
    let c = tasks_count plan states (length states) p in
    let l = count_by-le-length (λ (t : Task). t.piece == p) tasks in
    let a = ap (count_by (λ (t : Task). t.piece == p)) e in
    settled (nat_lt p (length states)) (state_of states p).done (state_of states p).failed (grind (arith, nat_tests)) (omega arith)

-- no piece was given up where none of a task was
pub few_kept : (plan : List Entry) (pieces : List Piece) (size : ℕ) (old new : List State) (fell dead : ℕ) (tasks : List Task) → Advanced plan pieces size old new fell dead → tasks ≡ tasks_of plan old
    → ((p : ℕ) → (state_of old p).failed < 4) → All (λ t. (state_of new t.piece).failed < 4) tasks → (p : ℕ) → (state_of new p).failed < 4
few_kept plan pieces size old new fell dead tasks a e was now p = ⊎_elim
    (λ (some : 0 < a.failed_now p).
    let t = due_there plan old tasks p e (let w = a.within p in omega arith) in
    subst (λ (k : ℕ). (state_of new k).failed < 4) t.2 (All-contains (λ (t : Task). (state_of new t.piece).failed < 4) tasks t.0 now t.1))
    (λ (none : a.failed_now p ≤ 0). let f = a.failed p in let w = was p in omega arith)
    (cases_lt 0 (a.failed_now p))

-- ---- the beginning
below_const : (v n : ℕ) → v ≤ 5 → weight_below (λ _. v) n ≤ 5 * n
below_const v zero h = omega arith
below_const v (suc n) h = let i = below_const v n h in omega arith

pub failures_none : (states : List State) → ((p : ℕ) → state_of states p ≡ no_state) → failures states ≡ 0
failures_none states fresh = below_same (λ p. (state_of states p).failed) (λ _. 0) (length states) (λ p _. ap (λ (s : State). s.failed) (fresh p)) ∙ zeros (length states)

pub measure_begins : (plan : List Entry) (states : List State) → ((p : ℕ) → state_of states p ≡ no_state) → measure plan states ≤ 5 * length states + length plan
measure_begins plan states fresh =
    let a = below_same (λ p. left_of (state_of states p)) (λ _. 5) (length states) (λ p _. ap left_of (fresh p)) in
    let b = below_const 5 (length states) (omega arith) in
    let c = count_by-le-length (is_unused states) plan in
    omega arith

below_at : (f : ℕ → ℕ) (n p : ℕ) → p < n → f p ≤ weight_below f n
below_at f zero p h = absurd (omega arith)
below_at f (suc n) p h = ⊎_elim (λ (l : p < n). let i = below_at f n p l in omega arith) (λ (r : n ≤ p). let e : f p ≡ f n = ap f (omega arith) in omega arith) (cases_lt p n)

-- a piece that is given up has failed as often as the run allows
pub four_failures : (states : List State) (p : ℕ) → p < length states → 4 ≤ (state_of states p).failed → 4 ≤ failures states
four_failures states p h four = let b = below_at (λ p. (state_of states p).failed) (length states) p h in omega arith

module _ {S : Type 0} where
  pub gained_less : (f : S → ℕ) (m k : ℕ) (a b : List S) → Gained f m a b → k ≤ m → Gained f k a b
  gained_less f m k a b p le all = let x = p all in let u = x.1 in (x.0, omega arith)

module _ {P : Type 0} where
  pub once_on : (p : ℕ) (parts more after : List (Part P)) (old new : State) (d : ℕ) → after ≡ parts ++ more → parts_of p parts ≡ tally old.done → parts_of p more ≡ d → tally new.done ≡ tally old.done + d → parts_of p after ≡ tally new.done
  once_on p parts more after old new d e a b c = let x = ap (parts_of p) e in let y = Rattle.dc_pool.proofs.Losses.count-append (λ (x : Part P). x.piece == p) parts more in omega arith
