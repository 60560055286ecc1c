-- Entries of the plan that are used up.
use Rattle.std.proofs.Common.{◌≡◌, ◌≢◌, ◌⊎◌, inl, inr, ◌==◌, ◌&&◌, ◌||◌, ℕ, zero, suc, ◌+◌, ◌<◌, ◌≤◌, Bool, true, false, cond, not, nat_lt, nat_le, List, [], ◌∷◌, length, count_by, sum_by, Option, None, Some, refl, sym, ap, ◌∙◌, subst, ⊎_elim, arith, true≢false}
use Rattle.std.specs.List.{Contains}
use Rattle.std.specs.Map.{lookup}
use Rattle.std.proofs.lemmas.Bool.{cases_lt}
use Rattle.std.proofs.lemmas.Bool.Decides.{nat_tests}
use Rattle.std.proofs.lemmas.List.Sums.{sum_by-cons}
use Rattle.dc_kills.specs.Entries.{Entry, Attempt}
use Rattle.dc_kills.specs.Plans.{stop_in, is_same}
use Rattle.dc_kills.specs.declared.stop.Stop.{Stop}
use Rattle.dc_pool.specs.Drawing.{weight_below}
use Rattle.dc_pieces.specs.declared.piece.Piece.{Piece}
use Rattle.dc_crew.specs.declared.states.State.{State}
use Rattle.dc_crew.specs.Jobs.{piece_at, step_in, is_late_at}
use Rattle.dc_crew.specs.States.{state_of, tally, is_due}
use Rattle.dc_crew.specs.Advances.{is_doomed_at, is_late_in, Advanced, is_costly, last_at, is_reached_entry, dooms_below, failures}
use Rattle.dc_crew.proofs.MeasureLemmas.{one_due}
use Rattle.dc_crew.proofs.SumLemmas.{below_add, below_same, below_le, sort_some}

-- an entry that was used up: of an attempt that was begun, at a step that is reached after a temporary was made
abbrev pub is_spent : List Piece → ℕ → List State → Entry → Bool
is_spent pieces size states e = nat_lt e.0.0 (length states) && (nat_lt 0 e.0.1 && (nat_le e.0.1 (state_of states e.0.0).ended && is_costly (last_at pieces size e.0.0) e.1))

-- each attempt stands once in the plan
abbrev pub IsOnce : List Entry → Type 0
IsOnce plan = (k : Attempt) → count_by (λ e. is_same k e.0) plan ≤ 1

-- a stop that is found, and passes a test
abbrev pub found : (Stop → Bool) → Option Stop → Bool
found good None = false
found good (Some s) = good s

none_same : (k : Attempt) (good : Stop → Bool) (plan : List Entry) → count_by (λ (e : Entry). is_same k e.0) plan ≡ 0 → count_by (λ (e : Entry). is_same k e.0 && good e.1) plan ≡ 0
none_same k good [] h = refl
none_same k good (e ∷ es) h =
    let a = sum_by-cons (λ (e : Entry). cond {A = ℕ} (is_same k e.0) 1 0) e es in
    let b = sum_by-cons (λ (e : Entry). cond {A = ℕ} (is_same k e.0 && good e.1) 1 0) e es in
    let i = none_same k good es (omega arith) in
    let z = off (is_same k e.0) (good e.1) (omega arith) in
    omega arith
  where
    off : (s g : Bool) → cond {A = ℕ} s 1 0 ≡ 0 → cond {A = ℕ} (s && g) 1 0 ≡ 0
    off true g h = absurd (omega arith)
    off false g h = refl

pub pick : (k : Attempt) (good : Stop → Bool) (plan : List Entry) → count_by (λ (e : Entry). is_same k e.0) plan ≤ 1 → count_by (λ (e : Entry). is_same k e.0 && good e.1) plan ≤ tally (found good (lookup (is_same k) plan))
pick k good [] h = omega arith
pick k good (e ∷ es) h = pick_by k good e es (is_same k e.0) refl h (pick k good es)
  where
    pick_by : (k : Attempt) (good : Stop → Bool) (e : Entry) (es : List Entry) (b : Bool) → is_same k e.0 ≡ b → count_by (λ (e : Entry). is_same k e.0) (e ∷ es) ≤ 1
        → (count_by (λ (e : Entry). is_same k e.0) es ≤ 1 → count_by (λ (e : Entry). is_same k e.0 && good e.1) es ≤ tally (found good (lookup (is_same k) es)))
        → count_by (λ (e : Entry). is_same k e.0 && good e.1) (e ∷ es) ≤ tally (found good (cond b (Some e.1) (lookup (is_same k) es)))
    pick_by k good e es true t h more =
        let a = sum_by-cons (λ (e : Entry). cond {A = ℕ} (is_same k e.0) 1 0) e es in
        let b = sum_by-cons (λ (e : Entry). cond {A = ℕ} (is_same k e.0 && good e.1) 1 0) e es in
        let x : cond {A = ℕ} (is_same k e.0) 1 0 ≡ 1 = ap (λ (b : Bool). cond {A = ℕ} b 1 0) t in
        let y : cond {A = ℕ} (is_same k e.0 && good e.1) 1 0 ≡ tally (good e.1) = ap (λ (b : Bool). cond {A = ℕ} (b && good e.1) 1 0) t in
        let n = none_same k good es (omega arith) in
        omega arith
    pick_by k good e es false t h more =
        let a = sum_by-cons (λ (e : Entry). cond {A = ℕ} (is_same k e.0) 1 0) e es in
        let b = sum_by-cons (λ (e : Entry). cond {A = ℕ} (is_same k e.0 && good e.1) 1 0) e es in
        let x : cond {A = ℕ} (is_same k e.0) 1 0 ≡ 0 = ap (λ (b : Bool). cond {A = ℕ} b 1 0) t in
        let y : cond {A = ℕ} (is_same k e.0 && good e.1) 1 0 ≡ 0 = ap (λ (b : Bool). cond {A = ℕ} (b && good e.1) 1 0) t in
        let m = more (omega arith) in
        omega arith

costly_late : (l : ℕ) (o : Option Stop) → tally (found (is_costly l) o) ≤ tally (is_late_at (step_in o))
costly_late l None = omega arith
costly_late l (Some s) = grind (arith, nat_tests)

count_sum : {X : Type 0} (p q r : X → Bool) (xs : List X) → ((x : X) → cond {A = ℕ} (p x) 1 0 ≤ cond {A = ℕ} (q x) 1 0 + cond {A = ℕ} (r x) 1 0) → count_by p xs ≤ count_by q xs + count_by r xs
count_sum p q r [] h = omega arith
count_sum {X} p q r (x ∷ xs) h =
    let a = sum_by-cons (λ (x : X). cond {A = ℕ} (p x) 1 0) x xs in
    let b = sum_by-cons (λ (x : X). cond {A = ℕ} (q x) 1 0) x xs in
    let c = sum_by-cons (λ (x : X). cond {A = ℕ} (r x) 1 0) x xs in
    let i = count_sum p q r xs h in
    let j = h x in
    omega arith

-- an entry that the next attempt at its piece would use up, where it is killed now
abbrev pub is_next : List Piece → ℕ → List State → (ℕ → ℕ) → Entry → Bool
is_next pieces size states killed_now e = nat_lt e.0.0 (length states) && (nat_lt 0 (killed_now e.0.0) && (e.0.1 == (state_of states e.0.0).ended + 1 && is_costly (last_at pieces size e.0.0) e.1))

spent_step : (n m p a d d' k : ℕ) (c : Bool) → m ≡ n → d' ≤ d + k → k ≤ 1
    → cond {A = ℕ} (nat_lt p m && (nat_lt 0 a && (nat_le a d' && c))) 1 0 ≤ cond {A = ℕ} (nat_lt p n && (nat_lt 0 a && (nat_le a d && c))) 1 0 + cond {A = ℕ} (nat_lt p n && (nat_lt 0 k && (a == d + 1 && c))) 1 0
spent_step n m p a d d' k c e h l = grind (arith, nat_tests)

no_more : (f : ℕ → ℕ) (n p : ℕ) → weight_below f n ≡ 0 → p < n → f p ≡ 0
no_more f zero p z h = absurd (omega arith)
no_more f (suc n) p z h = ⊎_elim (λ (l : p < n). no_more f n p (omega arith) l) (λ (r : n ≤ p). let e : f p ≡ f n = ap f (omega arith) in omega arith) (cases_lt p n)

-- the entries of a piece that are used up now
next_of : (plan : List Entry) (pieces : List Piece) (size : ℕ) (states : List State) (killed_now : ℕ → ℕ) (p : ℕ) → IsOnce plan → killed_now p ≤ 1
    → sum_by (λ (e : Entry). cond (e.0.0 == p) (cond {A = ℕ} (is_next pieces size states killed_now e) 1 0) 0) plan ≤ cond (is_late_in plan p ((state_of states p).ended + 1)) (killed_now p) 0
next_of plan pieces size states killed_now p once few =
    let k : Attempt = (p, (state_of states p).ended + 1) in
    let good = is_costly (last_at pieces size p) in
    ⊎_elim
    (λ (some : 0 < killed_now p).
    let c = count_under plan in
    let q = pick k good plan (once k) in
    let l = costly_late (last_at pieces size p) (stop_in plan k) in
    let t = scaled (is_late_in plan p ((state_of states p).ended + 1)) (killed_now p) some in
    omega arith)
    (λ (none : killed_now p ≤ 0). let z = nothing plan none in omega arith)
    (cases_lt 0 (killed_now p))
  where
    scaled : (b : Bool) (n : ℕ) → 0 < n → tally b ≤ cond b n 0
    scaled true n h = omega arith
    scaled false n h = omega arith

    under : (e : Entry) → cond (e.0.0 == p) (cond {A = ℕ} (is_next pieces size states killed_now e) 1 0) 0 ≤ cond {A = ℕ} (is_same (p, (state_of states p).ended + 1) e.0 && is_costly (last_at pieces size p) e.1) 1 0
    under e = ⊎_elim
        (λ (at : e.0.0 ≡ p). subst (λ (q : ℕ). cond (q == p) (cond {A = ℕ} (nat_lt q (length states) && (nat_lt 0 (killed_now q) && (e.0.1 == (state_of states q).ended + 1 && is_costly (last_at pieces size q) e.1))) 1 0) 0 ≤ cond {A = ℕ} ((p == q && (state_of states p).ended + 1 == e.0.1) && is_costly (last_at pieces size p) e.1) 1 0) (sym at) (here (nat_lt p (length states)) (nat_lt 0 (killed_now p)) (is_costly (last_at pieces size p) e.1) e.0.1 ((state_of states p).ended + 1)))
        (λ (off : e.0.0 ≢ p). let z : cond (e.0.0 == p) (cond {A = ℕ} (is_next pieces size states killed_now e) 1 0) 0 ≡ 0 = grind (arith, nat_tests) in omega arith)
        (Rattle.dc_crew.proofs.SumLemmas.same_or_not e.0.0 p)
      where
        here : (a b c : Bool) (x y : ℕ) → cond (p == p) (cond {A = ℕ} (a && (b && (x == y && c))) 1 0) 0 ≤ cond {A = ℕ} ((p == p && y == x) && c) 1 0
        here a b c x y = grind (arith, nat_tests)

    count_under : (es : List Entry) → sum_by (λ (e : Entry). cond (e.0.0 == p) (cond {A = ℕ} (is_next pieces size states killed_now e) 1 0) 0) es ≤ count_by (λ (e : Entry). is_same (p, (state_of states p).ended + 1) e.0 && is_costly (last_at pieces size p) e.1) es
    count_under [] = omega arith
    count_under (e ∷ es) =
        let a = sum_by-cons (λ (e : Entry). cond (e.0.0 == p) (cond {A = ℕ} (is_next pieces size states killed_now e) 1 0) 0) e es in
        let b = sum_by-cons (λ (e : Entry). cond {A = ℕ} (is_same (p, (state_of states p).ended + 1) e.0 && is_costly (last_at pieces size p) e.1) 1 0) e es in
        let i = count_under es in
        let j = under e in
        omega arith

    nothing : (es : List Entry) → killed_now p ≤ 0 → sum_by (λ (e : Entry). cond (e.0.0 == p) (cond {A = ℕ} (is_next pieces size states killed_now e) 1 0) 0) es ≡ 0
    nothing [] h = refl
    nothing (e ∷ es) h =
        let a = sum_by-cons (λ (e : Entry). cond (e.0.0 == p) (cond {A = ℕ} (is_next pieces size states killed_now e) 1 0) 0) e es in
        let i = nothing es h in
        let z : cond (e.0.0 == p) (cond {A = ℕ} (is_next pieces size states killed_now e) 1 0) 0 ≡ 0 = ⊎_elim
        (λ (at : e.0.0 ≡ p). let k : killed_now e.0.0 ≤ 0 = subst (λ (q : ℕ). killed_now q ≤ 0) (sym at) h in grind (arith, nat_tests))
        (λ (off : e.0.0 ≢ p). grind (arith, nat_tests))
        (Rattle.dc_crew.proofs.SumLemmas.same_or_not e.0.0 p) in
        omega arith

-- where nothing failed, the entries that are used up now are no more than what was killed late
pub spent_grows : (plan : List Entry) (pieces : List Piece) (size : ℕ) (old new : List State) (fell dead : ℕ) → IsOnce plan → Advanced plan pieces size old new fell dead → failures new ≡ 0
    → count_by (is_spent pieces size new) plan ≤ count_by (is_spent pieces size old) plan + dead
spent_grows plan pieces size old new fell dead once a none =
    let few : (p : ℕ) → a.killed_now p ≤ 1 = λ p. let w = a.within p in let o = one_due (is_due old p) in omega arith in
    let c = count_sum (is_spent pieces size new) (is_spent pieces size old) (is_next pieces size old a.killed_now) plan (λ e. step e few) in
    let s = sort_some (λ (e : Entry). e.0.0) (λ (e : Entry). cond {A = ℕ} (is_next pieces size old a.killed_now e) 1 0) (length old) plan (λ e. there e) in
    let b = below_le (λ p. sum_by (λ (e : Entry). cond (e.0.0 == p) (cond {A = ℕ} (is_next pieces size old a.killed_now e) 1 0) 0) plan) (λ p. cond (is_late_in plan p ((state_of old p).ended + 1)) (a.killed_now p) 0) (length old) (λ p _. next_of plan pieces size old a.killed_now p once (few p)) in
    let l = a.lates in
    omega arith
  where
    step : (e : Entry) → ((p : ℕ) → a.killed_now p ≤ 1) → cond {A = ℕ} (is_spent pieces size new e) 1 0 ≤ cond {A = ℕ} (is_spent pieces size old e) 1 0 + cond {A = ℕ} (is_next pieces size old a.killed_now e) 1 0
    step e few = ⊎_elim
        (λ (h : e.0.0 < length new).
        let z = no_more (λ p. (state_of new p).failed) (length new) e.0.0 none h in
        let f = a.failed e.0.0 in
        let g = a.ended e.0.0 in
        spent_step (length old) (length new) e.0.0 e.0.1 (state_of old e.0.0).ended (state_of new e.0.0).ended (a.killed_now e.0.0) (is_costly (last_at pieces size e.0.0) e.1) a.len (omega arith) (few e.0.0))
        (λ (h : length new ≤ e.0.0). let z : cond {A = ℕ} (is_spent pieces size new e) 1 0 ≡ 0 = grind (arith, nat_tests) in omega arith)
        (cases_lt e.0.0 (length new))

    there : (e : Entry) → (e.0.0 < length old) ⊎ (cond {A = ℕ} (is_next pieces size old a.killed_now e) 1 0 ≡ 0)
    there e = ⊎_elim (λ (h : e.0.0 < length old). inl h) (λ (h : length old ≤ e.0.0). inr (grind (arith, nat_tests))) (cases_lt e.0.0 (length old))

pub failures_rise : (plan : List Entry) (pieces : List Piece) (size : ℕ) (old new : List State) (fell dead : ℕ) → Advanced plan pieces size old new fell dead → failures new ≡ 0 → failures old ≡ 0
failures_rise plan pieces size old new fell dead a none =
    let len = ap (λ (k : ℕ). weight_below (λ p. (state_of new p).failed) k) a.len in
    let b = below_le (λ p. (state_of old p).failed) (λ p. (state_of new p).failed) (length old) (λ p _. let f = a.failed p in omega arith) in
    omega arith

done_not_due : (t d : Bool) (n : ℕ) → d ≡ true → tally (t && (not d && nat_lt n 4)) ≡ 0
done_not_due t d n e = grind (arith, nat_tests)

tally_true : (d : Bool) (n : ℕ) → tally d ≡ n → 0 < n → d ≡ true
tally_true true n e h = refl
tally_true false n e h = absurd (omega arith)

-- a piece that is done was not to be killed
pub spared_kept : (plan : List Entry) (pieces : List Piece) (size : ℕ) (old new : List State) (fell dead : ℕ) → Advanced plan pieces size old new fell dead
    → ((p : ℕ) → (state_of old p).done ≡ true → is_doomed_at plan pieces size p ((state_of old p).ended + 1) ≡ false)
    → (p : ℕ) → (state_of new p).done ≡ true → is_doomed_at plan pieces size p ((state_of new p).ended + 1) ≡ false
spared_kept plan pieces size old new fell dead a was p d =
    let w = a.within p in
    let o = one_due (is_due old p) in
    let e = a.ended p in
    let t = a.done p in
    let one : tally (state_of new p).done ≡ 1 = ap tally d in
    let keep : (state_of new p).ended ≡ (state_of old p).ended → is_doomed_at plan pieces size p ((state_of old p).ended + 1) ≡ false → is_doomed_at plan pieces size p ((state_of new p).ended + 1) ≡ false = λ same f. subst (λ (k : ℕ). is_doomed_at plan pieces size p (k + 1) ≡ false) (sym same) f in
    ⊎_elim
    (λ (h : 0 < a.done_now p). keep (omega arith) (a.spared p h))
    (λ (h : a.done_now p ≤ 0).
    let was_done : (state_of old p).done ≡ true = tally_true (state_of old p).done 1 (omega arith) (omega arith) in
    let z = done_not_due (nat_lt p (length old)) (state_of old p).done (state_of old p).failed was_done in
    keep (omega arith) (was p was_done))
    (cases_lt 0 (a.done_now p))

pub spent_none : (plan : List Entry) (pieces : List Piece) (size : ℕ) (states : List State) → ((p : ℕ) → (state_of states p).ended ≡ 0) → count_by (is_spent pieces size states) plan ≡ 0
spent_none [] pieces size states fresh = refl
spent_none (e ∷ es) pieces size states fresh =
    let a = sum_by-cons (λ (e : Entry). cond {A = ℕ} (is_spent pieces size states e) 1 0) e es in
    let i = spent_none es pieces size states fresh in
    let f = fresh e.0.0 in
    let z : cond {A = ℕ} (is_spent pieces size states e) 1 0 ≡ 0 = grind (arith, nat_tests) in
    omega arith

-- ---- the end
count_in : {X : Type 0} (p q : X → Bool) (xs : List X) → ((x : X) → Contains xs x → cond {A = ℕ} (p x) 1 0 ≤ cond {A = ℕ} (q x) 1 0) → count_by p xs ≤ count_by q xs
count_in p q [] h = omega arith
count_in {X} p q (x ∷ xs) h =
    let a = sum_by-cons (λ (x : X). cond {A = ℕ} (p x) 1 0) x xs in
    let b = sum_by-cons (λ (x : X). cond {A = ℕ} (q x) 1 0) x xs in
    let i = count_in p q xs (λ y c. let w = c.1 in h y (suc c.0, omega arith, c.2)) in
    let j = h x (0, omega arith, refl) in
    omega arith

same_itself : (k : Attempt) → is_same k k ≡ true
same_itself k = grind (arith, nat_tests)

-- an entry of the plan is what is found at its attempt
none_there : (k : Attempt) (plan : List Entry) (e : Entry) → count_by (λ (f : Entry). is_same k f.0) plan ≡ 0 → Contains plan e → is_same k e.0 ≡ true → ⊥
none_there k [] e z has s = absurd (omega (arith, has.1))
none_there k (f ∷ fs) e z (zero, h, q) s =
    let a = sum_by-cons (λ (f : Entry). cond {A = ℕ} (is_same k f.0) 1 0) f fs in
    let t : cond {A = ℕ} (is_same k f.0) 1 0 ≡ 1 = ap (λ (g : Entry). cond {A = ℕ} (is_same k g.0) 1 0) q ∙ ap (λ (b : Bool). cond {A = ℕ} b 1 0) s in
    absurd (omega arith)
none_there k (f ∷ fs) e z (suc i, h, q) s = let a = sum_by-cons (λ (f : Entry). cond {A = ℕ} (is_same k f.0) 1 0) f fs in none_there k fs e (omega arith) (i, omega arith, q) s

stop_by : (plan : List Entry) (e : Entry) → count_by (λ (f : Entry). is_same e.0 f.0) plan ≤ 1 → Contains plan e → stop_in plan e.0 ≡ Some e.1
stop_by [] e once has = absurd (omega (arith, has.1))
stop_by (f ∷ fs) e once (zero, h, q) =
    let t : is_same e.0 f.0 ≡ true = ap (λ (g : Entry). is_same e.0 g.0) q ∙ same_itself e.0 in
    ap (λ (b : Bool). cond b (Some f.1) (lookup (is_same e.0) fs)) t ∙ ap (λ (g : Entry). Some g.1) q
stop_by (f ∷ fs) e once (suc i, h, q) = by_test (is_same e.0 f.0) refl (stop_by fs e)
  where
    by_test : (b : Bool) → is_same e.0 f.0 ≡ b → (count_by (λ (g : Entry). is_same e.0 g.0) fs ≤ 1 → Contains fs e → stop_in fs e.0 ≡ Some e.1) → stop_in (f ∷ fs) e.0 ≡ Some e.1
    by_test true t more =
        let a = sum_by-cons (λ (g : Entry). cond {A = ℕ} (is_same e.0 g.0) 1 0) f fs in
        let x : cond {A = ℕ} (is_same e.0 f.0) 1 0 ≡ 1 = ap (λ (b : Bool). cond {A = ℕ} b 1 0) t in
        absurd (none_there e.0 fs e (omega arith) (i, omega arith, q) (same_itself e.0))
    by_test false t more =
        let a = sum_by-cons (λ (g : Entry). cond {A = ℕ} (is_same e.0 g.0) 1 0) f fs in
        ap (λ (b : Bool). cond b (Some f.1) (lookup (is_same e.0) fs)) t ∙ more (omega arith) (i, omega arith, q)

dooms_at : (plan : List Entry) (pieces : List Piece) (size p a b : ℕ) → dooms_below plan pieces size p a ≡ true → 1 ≤ b → b < a → is_doomed_at plan pieces size p b ≡ true
dooms_at plan pieces size p zero b d l h = absurd (omega arith)
dooms_at plan pieces size p (suc a) b d l h = ⊎_elim
    (λ (less : b < a). dooms_at plan pieces size p a b (both_left (dooms_below plan pieces size p a) _ d) l less)
    (λ (more : a ≤ b). let e : a ≡ b = omega arith in ap (is_doomed_at plan pieces size p) (sym e) ∙ last_one a (is_doomed_at plan pieces size p a) (dooms_below plan pieces size p a) d (omega arith))
    (cases_lt b a)
  where
    both_left : (x y : Bool) → (x && y) ≡ true → x ≡ true
    both_left true y e = refl
    both_left false y e = e

    last_one : (a : ℕ) (d x : Bool) → (x && (nat_le a 0 || d)) ≡ true → 1 ≤ a → d ≡ true
    last_one a true x e l = refl
    last_one a false x e l = grind (arith, nat_tests)

costly_doomed : (plan : List Entry) (pieces : List Piece) (size : ℕ) (e : Entry) → stop_in plan e.0 ≡ Some e.1 → is_costly (last_at pieces size e.0.0) e.1 ≡ true → is_doomed_at plan pieces size e.0.0 e.0.1 ≡ true
costly_doomed plan pieces size e s c = ap (λ (o : Option Stop). Rattle.dc_crew.specs.Jobs.is_reached (step_in o) (piece_at pieces e.0.0).length size) s ∙ low (nat_lt 0 e.1.step) (nat_le e.1.step (last_at pieces size e.0.0)) c
  where
    low : (x y : Bool) → (x && y) ≡ true → y ≡ true
    low true y h = h
    low false y h = absurd (true≢false (sym h))

-- where all pieces are done and none was to be killed then, what is reached was used up
pub reached_spent : (plan : List Entry) (pieces : List Piece) (size : ℕ) (states : List State) → IsOnce plan → length states ≡ length pieces → ((p : ℕ) → p < length states → (state_of states p).done ≡ true)
    → ((p : ℕ) → (state_of states p).done ≡ true → is_doomed_at plan pieces size p ((state_of states p).ended + 1) ≡ false)
    → count_by (is_reached_entry plan pieces size) plan ≤ count_by (is_spent pieces size states) plan
reached_spent plan pieces size states once len all spared = count_in (is_reached_entry plan pieces size) (is_spent pieces size states) plan (λ e has. each e has)
  where
    each : (e : Entry) → Contains plan e → cond {A = ℕ} (is_reached_entry plan pieces size e) 1 0 ≤ cond {A = ℕ} (is_spent pieces size states e) 1 0
    each e has = cases (is_reached_entry plan pieces size e) refl
      where
        too_late : e.0.0 < length states → dooms_below plan pieces size e.0.0 e.0.1 ≡ true → is_costly (last_at pieces size e.0.0) e.1 ≡ true → (state_of states e.0.0).ended < e.0.1 → ⊥
        too_late low d c late =
            let free = spared e.0.0 (all e.0.0 low) in
            let doomed : is_doomed_at plan pieces size e.0.0 ((state_of states e.0.0).ended + 1) ≡ true = ⊎_elim
            (λ (less : (state_of states e.0.0).ended + 1 < e.0.1). dooms_at plan pieces size e.0.0 e.0.1 ((state_of states e.0.0).ended + 1) d (omega arith) less)
            (λ (more : e.0.1 ≤ (state_of states e.0.0).ended + 1). let q : (state_of states e.0.0).ended + 1 ≡ e.0.1 = omega arith in ap (is_doomed_at plan pieces size e.0.0) q ∙ costly_doomed plan pieces size e (stop_by plan e (once e.0) has) c)
            (cases_lt ((state_of states e.0.0).ended + 1) e.0.1) in
            true≢false (sym doomed ∙ free)

        parts_true : (x y z w : Bool) → (x && (y && (z && w))) ≡ true → (x ≡ true) × (y ≡ true) × (z ≡ true) × (w ≡ true)
        parts_true true true true true h = (refl, refl, refl, refl)
        parts_true false y z w h = absurd (true≢false (sym h))
        parts_true true false z w h = absurd (true≢false (sym h))
        parts_true true true false w h = absurd (true≢false (sym h))
        parts_true true true true false h = absurd (true≢false (sym h))

        cases : (b : Bool) → is_reached_entry plan pieces size e ≡ b → cond {A = ℕ} (is_reached_entry plan pieces size e) 1 0 ≤ cond {A = ℕ} (is_spent pieces size states e) 1 0
        cases false h = let z : cond {A = ℕ} (is_reached_entry plan pieces size e) 1 0 ≡ 0 = ap (λ (b : Bool). cond {A = ℕ} b 1 0) h in omega arith
        cases true h =
            let t = parts_true (nat_lt e.0.0 (length pieces)) (nat_lt 0 e.0.1) (dooms_below plan pieces size e.0.0 e.0.1) (is_costly (last_at pieces size e.0.0) e.1) h in
            let low : nat_lt e.0.0 (length states) ≡ true = ap (nat_lt e.0.0) len ∙ t.0 in
            let o : cond {A = ℕ} (is_reached_entry plan pieces size e) 1 0 ≡ 1 = ap (λ (b : Bool). cond {A = ℕ} b 1 0) h in
            ⊎_elim
            (λ (late : (state_of states e.0.0).ended < e.0.1). absurd (too_late (lt_true e.0.0 (length states) low) t.2 t.3 late))
            (λ (ok : e.0.1 ≤ (state_of states e.0.0).ended). let s : is_spent pieces size states e ≡ true = spent_true (nat_lt e.0.0 (length states)) (nat_lt 0 e.0.1) (nat_le e.0.1 (state_of states e.0.0).ended) (is_costly (last_at pieces size e.0.0) e.1) low t.1 (le_true e.0.1 (state_of states e.0.0).ended ok) t.3 in let q : cond {A = ℕ} (is_spent pieces size states e) 1 0 ≡ 1 = ap (λ (b : Bool). cond {A = ℕ} b 1 0) s in omega arith)
            (cases_lt (state_of states e.0.0).ended e.0.1)
          where
            lt_true : (a b : ℕ) → nat_lt a b ≡ true → a < b
            lt_true a b h = grind (arith, nat_tests)

            le_true : (a b : ℕ) → a ≤ b → nat_le a b ≡ true
            le_true a b h = grind (arith, nat_tests)

            spent_true : (x y z w : Bool) → x ≡ true → y ≡ true → z ≡ true → w ≡ true → (x && (y && (z && w))) ≡ true
            spent_true x y z w a b c d = grind (arith, nat_tests)
