-- Which numbers are lost, and which stopped a worker.
use Rattle.std.proofs.Common.{◌≡◌, ℕ, suc, ◌+◌, ◌<◌, ◌≤◌, inl, inr, List, [], ◌∷◌, ◌++◌, length, sym, ap, ◌∙◌, subst, Bool, false, cond, All, arith, count_by, true≢false}
use Rattle.std.specs.List.{Contains}
use Rattle.std.proofs.lemmas.List.Sums.{sum_by-append, sum_by-cons}
use Rattle.std.proofs.lemmas.List.Elements.{All-append, All-weaker, All-nil, All-cons, All-contains_itself, Contains-append_left, Contains-append_right, Contains-push}
use Rattle.dc_pool.specs.Waves.{IsBehind, Stopped, HasLoss, IsLast, HasStopped, LeaveGoing}

pub count-append : {X : Type 0} (p : X → Bool) (xs ys : List X) → count_by p (xs ++ ys) ≡ count_by p xs + count_by p ys
count-append p xs ys = sum_by-append _ xs ys

-- ---- what is lost
pub behind_weaker : (stopping : ℕ → Bool) (bundles : List (List ℕ)) (ks ls : List ℕ) → ((x : ℕ) → Contains ks x → Contains ls x) → (n : ℕ) → IsBehind stopping bundles ks n → IsBehind stopping bundles ls n
behind_weaker stopping bundles ks ls more n l = record { front = l.front; stopper = l.stopper; rest = l.rest; bundle = l.bundle; killed = more l.stopper l.killed; stops = l.stops; behind = l.behind }

pub lost_joined : (stopping : ℕ → Bool) (bundles : List (List ℕ)) (ks js zs ms ns os : List ℕ) → zs ≡ ks ++ js → os ≡ ms ++ ns → All (IsBehind stopping bundles ks) ms → All (IsBehind stopping bundles js) ns → All (IsBehind stopping bundles zs) os
lost_joined stopping bundles ks js zs ms ns os e f p q =
    let P : List ℕ → ℕ → Type 0 = λ ls n. IsBehind stopping bundles ls n in
    let a = All-weaker (P ks) (P (ks ++ js)) (behind_weaker stopping bundles ks (ks ++ js) (λ x. Contains-append_left ks js x)) ms p in
    let b = All-weaker (P js) (P (ks ++ js)) (behind_weaker stopping bundles js (ks ++ js) (λ x. Contains-append_right ks js x)) ns q in
    subst (λ ls. All (P ls) os) (sym e) (subst (λ l. All (P (ks ++ js)) l) (sym f) (All-append (P (ks ++ js)) ms ns a b))

-- what a stop in a bundle loses
pub lost_by_stop : (stopping : ℕ → Bool) (bundles : List (List ℕ)) (all dead gone : List ℕ) → Contains bundles all → Stopped stopping all [] dead gone → All (IsBehind stopping bundles dead) gone
lost_by_stop stopping bundles all dead gone has s =
    let P : ℕ → Type 0 = λ n. IsBehind stopping bundles dead n in
    let here : Contains bundles (s.front ++ s.stopper ∷ s.rest) = subst (Contains bundles) s.numbers has in
    let killed : Contains dead s.stopper = subst (λ ks. Contains ks s.stopper) (sym s.killed) (Contains-push s.before s.stopper) in
    let all_rest : All P s.rest = All-weaker (Contains s.rest) P (λ n h. record { front = s.front; stopper = s.stopper; rest = s.rest; bundle = here; killed = killed; stops = s.stops; behind = h }) s.rest (All-contains_itself s.rest) in
    subst (All P) (sym s.lost) all_rest

pub stop_counts : (stopping : ℕ → Bool) (all old dead gone : List ℕ) → Stopped stopping all old dead gone → 1 ≤ count_by stopping dead
stop_counts stopping all old dead gone s =
    let a = ap (count_by stopping) s.killed in
    let b = count-append stopping s.before (s.stopper ∷ []) in
    let c : cond {A = ℕ} (stopping s.stopper) 1 0 ≡ 1 = ap (λ (t : Bool). cond {A = ℕ} t 1 0) s.stops in
    omega arith

-- a number of a bundle that nobody drew, or of one in which a worker stopped
pub loss_of_rest : (stopping : ℕ → Bool) (bundles : List (List ℕ)) (dead lost rest : List ℕ) (slots : ℕ) → (0 < length rest → slots ≤ count_by stopping dead) → All (IsBehind stopping bundles dead) lost → All (HasLoss stopping bundles dead slots) (lost ++ rest)
loss_of_rest stopping bundles dead lost rest slots why behind =
    All-append (HasLoss stopping bundles dead slots) lost rest
    (All-weaker (IsBehind stopping bundles dead) (HasLoss stopping bundles dead slots) (λ n b. inl b) lost behind)
    (λ k d within. inr (why (omega arith)))

-- ---- what stopped a worker
last_weaker : (bundles : List (List ℕ)) (ms ls : List ℕ) → ((x : ℕ) → Contains ms x → Contains ls x) → (n : ℕ) → IsLast bundles ms n → IsLast bundles ls n
last_weaker bundles ms ls more n l = record { front = l.front; rest = l.rest; bundle = l.bundle; gone = All-weaker (Contains ms) (Contains ls) more l.rest l.gone }

stopped_weaker : (stopping : ℕ → Bool) (bundles : List (List ℕ)) (ms ls : List ℕ) → ((x : ℕ) → Contains ms x → Contains ls x) → (n : ℕ) → HasStopped stopping bundles ms n → HasStopped stopping bundles ls n
stopped_weaker stopping bundles ms ls more n h stops = last_weaker bundles ms ls more n (h stops)

-- more may be lost
pub stopped_more : (stopping : ℕ → Bool) (bundles : List (List ℕ)) (dead lost more : List ℕ) → All (HasStopped stopping bundles lost) dead → All (HasStopped stopping bundles (lost ++ more)) dead
stopped_more stopping bundles dead lost more h = All-weaker (HasStopped stopping bundles lost) (HasStopped stopping bundles (lost ++ more)) (stopped_weaker stopping bundles lost (lost ++ more) (λ x. Contains-append_left lost more x)) dead h

pub stopped_joined : (stopping : ℕ → Bool) (bundles : List (List ℕ)) (ks js zs ms ns os : List ℕ) → zs ≡ ks ++ js → os ≡ ms ++ ns → All (HasStopped stopping bundles ms) ks → All (HasStopped stopping bundles ns) js → All (HasStopped stopping bundles os) zs
stopped_joined stopping bundles ks js zs ms ns os e f p q =
    let P : List ℕ → ℕ → Type 0 = λ ls n. HasStopped stopping bundles ls n in
    let a = stopped_more stopping bundles ks ms ns p in
    let b = All-weaker (P ns) (P (ms ++ ns)) (stopped_weaker stopping bundles ns (ms ++ ns) (λ x. Contains-append_right ms ns x)) js q in
    subst (λ l. All (P l) zs) (sym f) (subst (λ ls. All (P (ms ++ ns)) ls) (sym e) (All-append (P (ms ++ ns)) ks js a b))

-- numbers that leave the worker going stopped none
pub going_stopped : (stopping : ℕ → Bool) (bundles : List (List ℕ)) (dead lost : List ℕ) → LeaveGoing stopping dead → All (HasStopped stopping bundles lost) dead
going_stopped stopping bundles dead lost h = All-weaker (λ n. stopping n ≡ false) (HasStopped stopping bundles lost) (λ n goes stops. absurd (true≢false (sym stops ∙ goes))) dead h

pub going_count : (stopping : ℕ → Bool) (dead : List ℕ) → LeaveGoing stopping dead → count_by stopping dead ≡ 0
going_count stopping [] h = omega arith
going_count stopping (n ∷ ns) h =
    let here : stopping n ≡ false = h 0 n (omega arith) in
    let rest = going_count stopping ns (λ k d l. h (suc k) d (omega arith)) in
    let none : cond {A = ℕ} (stopping n) 1 0 ≡ 0 = ap (λ (t : Bool). cond {A = ℕ} t 1 0) here in
    let sum = sum_by-cons (λ (n : ℕ). cond {A = ℕ} (stopping n) 1 0) n ns in
    omega arith

-- a stop in a bundle: what stands behind it there is lost, and it is the only one
pub stopped_by_stop : (stopping : ℕ → Bool) (bundles : List (List ℕ)) (all dead gone : List ℕ) → Contains bundles all → Stopped stopping all [] dead gone → All (HasStopped stopping bundles gone) dead
stopped_by_stop stopping bundles all dead gone has s =
    let P : ℕ → Type 0 = λ n. HasStopped stopping bundles gone n in
    let here : Contains bundles (s.front ++ s.stopper ∷ s.rest) = subst (Contains bundles) s.numbers has in
    let lost : All (Contains gone) s.rest = subst (λ (ls : List ℕ). All (Contains ls) s.rest) (sym s.lost) (All-contains_itself s.rest) in
    let at_last : P s.stopper = λ _. record { front = s.front; rest = s.rest; bundle = here; gone = lost } in
    let all_dead : All P (s.before ++ s.stopper ∷ []) = All-append P s.before (s.stopper ∷ []) (going_stopped stopping bundles s.before gone s.spared) (All-cons P s.stopper [] at_last (All-nil P)) in
    subst (λ (ks : List ℕ). All P ks) (sym s.killed) all_dead

pub few_by_stop : (stopping : ℕ → Bool) (all old dead gone : List ℕ) → Stopped stopping all old dead gone → count_by stopping dead ≤ 1
few_by_stop stopping all old dead gone s =
    let a = ap (count_by stopping) s.killed in
    let b = count-append stopping s.before (s.stopper ∷ []) in
    let c : cond {A = ℕ} (stopping s.stopper) 1 0 ≡ 1 = ap (λ (t : Bool). cond {A = ℕ} t 1 0) s.stops in
    let d = going_count stopping s.before s.spared in
    omega arith
