-- What a wave brings the pieces on by.
use Rattle.std.proofs.Common.{◌≡◌, ◌≢◌, ◌==◌, ◌&&◌, ℕ, zero, suc, ◌+◌, ◌<◌, ◌≤◌, Bool, true, false, cond, not, nat_lt, List, [], ◌∷◌, ◌++◌, length, All, count_by, sum_by, refl, sym, ap, ◌∙◌, subst, ⊎_elim, arith, length-append, true≢false}
use Rattle.std.specs.List.{Contains}
use Rattle.std.proofs.lemmas.Bool.{cases_lt}
use Rattle.std.proofs.lemmas.Bool.Decides.{nat_tests}
use Rattle.std.proofs.lemmas.Grind.{flat_map-append}
use Rattle.std.proofs.lemmas.List.{append-nil}
use Rattle.std.proofs.lemmas.List.Sums.{sum_by-append, sum_by-cons}
use Rattle.std.proofs.lemmas.List.Elements.{All-append, All-nil, All-cons, All-weaker, All-contains, All-contains_itself, All-get_or, All-map, Contains-append_left, Contains-append_right}
use Rattle.dc_kills.specs.Entries.{Entry}
use Rattle.dc_split.specs.Bundles.{times, once_below}
use Rattle.dc_pool.specs.Waves.{stands}
use Rattle.dc_pool.specs.declared.results.Receipt.{Receipt}
use Rattle.dc_pool.specs.declared.results.Wave.{Wave}
use Rattle.dc_pool.proofs.Losses.{count-append}
use Rattle.dc_pool.proofs.Numbers.{once_there, below_from_once}
use Rattle.dc_crew.specs.declared.crew.Task.{Task}
use Rattle.dc_pieces.specs.declared.piece.Piece.{Piece}
use Rattle.dc_crew.specs.declared.crew.End.{End}
use Rattle.dc_crew.specs.declared.states.State.{State}
use Rattle.dc_crew.specs.Jobs.{task_of, no_task}
use Rattle.dc_crew.specs.States.{state_of, is_open, is_due, next_task, task_for, tasks_below, tasks_of, tasks_again, tally, numbers_of}
use Rattle.dc_crew.specs.Advances.{Advanced, Spread}
use Rattle.dc_crew.proofs.SumLemmas.{same_or_not, sum_once, weigh_index}

-- ---- the attempts that are due
pub record IsOf (plan : List Entry) (states : List State) (n : ℕ) (t : Task) : Type 0 where
  pub below : t.piece < n
  pub is : t ≡ next_task plan t.piece (state_of states t.piece)
  pub due : is_open (state_of states t.piece) ≡ true

abbrev one_task : Task → List Task
one_task t = t ∷ []

for_each : (plan : List Entry) (states : List State) (n : ℕ) (o : Bool) → is_open (state_of states n) ≡ o → All (IsOf plan states (suc n)) (cond o (one_task (next_task plan n (state_of states n))) [])
for_each plan states n true e = All-cons (IsOf plan states (suc n)) (next_task plan n (state_of states n)) [] record { below = omega arith; is = refl; due = e } (All-nil (IsOf plan states (suc n)))
for_each plan states n false e = All-nil (IsOf plan states (suc n))

pub tasks_are : (plan : List Entry) (states : List State) (n : ℕ) → All (IsOf plan states n) (tasks_below plan states n)
tasks_are plan states zero = All-nil (IsOf plan states 0)
tasks_are plan states (suc n) =
    All-append (IsOf plan states (suc n)) (tasks_below plan states n) (task_for plan n (state_of states n))
    (All-weaker (IsOf plan states n) (IsOf plan states (suc n)) (λ t h. record { below = (let b = h.below in omega arith); is = h.is; due = h.due }) (tasks_below plan states n) (tasks_are plan states n))
    (for_each plan states n (is_open (state_of states n)) refl)

for_length : (t : Task) (o : Bool) → length (cond o (one_task t) []) ≤ 1
for_length t true = omega arith
for_length t false = omega arith

pub tasks_few : (plan : List Entry) (states : List State) (n : ℕ) → length (tasks_below plan states n) ≤ n
tasks_few plan states zero = omega arith
tasks_few plan states (suc n) =
    let a = length-append (tasks_below plan states n) (task_for plan n (state_of states n)) in
    let b = for_length (next_task plan n (state_of states n)) (is_open (state_of states n)) in
    let i = tasks_few plan states n in
    omega arith

for_count : (p : ℕ) (t : Task) (o : Bool) → count_by (λ (t : Task). t.piece == p) (cond o (one_task t) []) ≡ tally (o && (t.piece == p))
for_count p t true = let e = sum_by-cons (λ (t : Task). cond {A = ℕ} (t.piece == p) 1 0) t [] in omega arith
for_count p t false = refl

-- one number more
pub at_last : (n p : ℕ) (o q : Bool) → (p ≡ n → o ≡ q) → tally (nat_lt p n && q) + tally (o && (n == p)) ≡ tally (nat_lt p (suc n) && q)
at_last n p o q same = ⊎_elim
    (λ (l : p < n). grind (arith, nat_tests))
    (λ (r : n ≤ p). ⊎_elim
    (λ (l : n < p). grind (arith, nat_tests))
    (λ (r' : p ≤ n). let e : p ≡ n = omega arith in let f = same e in grind (arith, nat_tests))
    (cases_lt n p))
    (cases_lt p n)

pub tasks_count : (plan : List Entry) (states : List State) (n p : ℕ) → count_by (λ (t : Task). t.piece == p) (tasks_below plan states n) ≡ tally (nat_lt p n && is_open (state_of states p))
tasks_count plan states zero p = let z : tally (nat_lt p 0 && is_open (state_of states p)) ≡ 0 = grind (arith, nat_tests) in sym z
tasks_count plan states (suc n) p =
    let a = count-append (λ (t : Task). t.piece == p) (tasks_below plan states n) (task_for plan n (state_of states n)) in
    let b = for_count p (next_task plan n (state_of states n)) (is_open (state_of states n)) in
    let i = tasks_count plan states n p in
    let l = at_last n p (is_open (state_of states n)) (is_open (state_of states p)) (λ e. ap (λ (k : ℕ). is_open (state_of states k)) (sym e)) in
    omega arith

open_done : (d o t : Bool) → tally d + tally (t && (not d && o)) ≤ 1
open_done true o true = omega arith
open_done true o false = omega arith
open_done false true true = omega arith
open_done false true false = omega arith
open_done false false true = omega arith
open_done false false false = omega arith

pub once_due : (plan : List Entry) (states : List State) (tasks : List Task) (p : ℕ) → tasks ≡ tasks_of plan states → tally (state_of states p).done + count_by (λ (t : Task). t.piece == p) tasks ≤ 1
once_due plan states tasks p e =
    let a = ap (count_by (λ (t : Task). t.piece == p)) e in
    let b = tasks_count plan states (length states) p in
    let c = open_done (state_of states p).done (nat_lt (state_of states p).failed 4) (nat_lt p (length states)) in
    omega arith

pub pieces_there : (plan : List Entry) (states : List State) (tasks : List Task) (k : ℕ) → tasks ≡ tasks_of plan states → length states ≡ k → All (λ (t : Task). t.piece < k) tasks
pieces_there plan states tasks k e l =
    subst (λ (ts : List Task). All (λ (t : Task). t.piece < k) ts) (sym e) (All-weaker (IsOf plan states (length states)) (λ (t : Task). t.piece < k) (λ t h. let b = h.below in omega arith) (tasks_of plan states) (tasks_are plan states (length states)))

pub tasks_short : (plan : List Entry) (states : List State) (tasks : List Task) → tasks ≡ tasks_of plan states → length tasks ≤ length states
tasks_short plan states tasks e = let a = ap length e in let b = tasks_few plan states (length states) in omega arith

-- a piece that has a task among these
counted_there : (p : ℕ) (tasks : List Task) → 0 < count_by (λ (t : Task). t.piece == p) tasks → (t : Task) × Contains tasks t × (t.piece ≡ p)
counted_there p [] h = absurd (omega arith)
counted_there p (t ∷ ts) h = ⊎_elim
    (λ (e : t.piece ≡ p). (t, (0, omega arith, refl), e))
    (λ (e : t.piece ≢ p).
    let a = sum_by-cons (λ (t : Task). cond {A = ℕ} (t.piece == p) 1 0) t ts in
    let z : cond {A = ℕ} (t.piece == p) 1 0 ≡ 0 = grind (arith, nat_tests) in
    let r = counted_there p ts (omega arith) in
    let b = r.1.1 in
    (r.0, (suc r.1.0, omega arith, r.1.2), r.2))
    (same_or_not t.piece p)

pub due_there : (plan : List Entry) (states : List State) (tasks : List Task) (p : ℕ) → tasks ≡ tasks_of plan states → 0 < tally (is_due states p) → (t : Task) × Contains tasks t × (t.piece ≡ p)
due_there plan states tasks p e due =
    let a = ap (count_by (λ (t : Task). t.piece == p)) e in
    let b = tasks_count plan states (length states) p in
    counted_there p tasks (omega arith)

-- ---- the attempts that are due again
again_one : (plan : List Entry) (states : List State) (n : ℕ) (t : Task) (o : Bool) → t.piece ≡ n → (is_open (state_of states n) ≡ true → o ≡ true) → tasks_again plan states (cond o (one_task t) []) ≡ task_for plan n (state_of states n)
again_one plan states n t true e k = append-nil (task_for plan t.piece (state_of states t.piece)) ∙ ap (λ (k : ℕ). task_for plan k (state_of states k)) e
again_one plan states n t false e k = shut (is_open (state_of states n)) refl
  where
    shut : (b : Bool) → is_open (state_of states n) ≡ b → [] ≡ cond b (one_task (next_task plan n (state_of states n))) []
    shut false q = refl
    shut true q = absurd (true≢false (sym (k q)))

again_below : (plan : List Entry) (old new : List State) (n : ℕ) → ((p : ℕ) → is_open (state_of new p) ≡ true → is_open (state_of old p) ≡ true) → tasks_again plan new (tasks_below plan old n) ≡ tasks_below plan new n
again_below plan old new zero k = refl
again_below plan old new (suc n) k =
    flat_map-append (λ (t : Task). task_for plan t.piece (state_of new t.piece)) (tasks_below plan old n) (task_for plan n (state_of old n))
    ∙ (ap (λ (ts : List Task). ts ++ tasks_again plan new (task_for plan n (state_of old n))) (again_below plan old new n k)
    ∙ ap (λ (ts : List Task). tasks_below plan new n ++ ts) (again_one plan new n (next_task plan n (state_of old n)) (is_open (state_of old n)) refl (k n)))

was_open : (d d' : Bool) (n n' x f : ℕ) → tally d' ≡ tally d + x → n' ≡ n + f → (not d' && nat_lt n' 4) ≡ true → (not d && nat_lt n 4) ≡ true
was_open true true n n' x f e h o = absurd (true≢false (sym o))
was_open true false n n' x f e h o = absurd (omega arith)
was_open false true n n' x f e h o = absurd (true≢false (sym o))
was_open false false n n' x f e h o = grind (arith, nat_tests)

-- what is due after a wave was due in it
pub due_again_is : (plan : List Entry) (pieces : List Piece) (size : ℕ) (old new : List State) (fell dead : ℕ) (tasks again : List Task) → Advanced plan pieces size old new fell dead → tasks ≡ tasks_of plan old → again ≡ tasks_again plan new tasks → again ≡ tasks_of plan new
due_again_is plan pieces size old new fell dead tasks again a e is =
    is ∙ (ap (tasks_again plan new) e
    ∙ (again_below plan old new (length old) (λ p. was_open (state_of old p).done (state_of new p).done (state_of old p).failed (state_of new p).failed (a.done_now p) (a.failed_now p) (a.done p) (a.failed p))
    ∙ ap (tasks_below plan new) (sym a.len)))

-- ---- the lists of a wave
module _ {P : Type 0} where
  abbrev pub all_of : Wave P End → List ℕ
  all_of w = numbers_of w.done ++ (w.failed ++ (w.killed ++ (w.lost ++ numbers_of w.ended)))

  all_sum : (g : ℕ → ℕ) (w : Wave P End) → sum_by g (all_of w) ≡ sum_by g (numbers_of w.done) + sum_by g w.failed + sum_by g w.killed + sum_by g w.lost + sum_by g (numbers_of w.ended)
  all_sum g w =
      let a = sum_by-append g (numbers_of w.done) (w.failed ++ (w.killed ++ (w.lost ++ numbers_of w.ended))) in
      let b = sum_by-append g w.failed (w.killed ++ (w.lost ++ numbers_of w.ended)) in
      let c = sum_by-append g w.killed (w.lost ++ numbers_of w.ended) in
      let d = sum_by-append g w.lost (numbers_of w.ended) in
      omega arith

  all_once : (k : ℕ) (w : Wave P End) → ((x : ℕ) → stands x w ≡ once_below k x) → (x : ℕ) → times x (all_of w) ≡ once_below k x
  all_once k w once x = all_sum (λ y. cond (y == x) 1 0) w ∙ once x

  in_list : (k : ℕ) (w : Wave P End) (xs : List ℕ) → ((x : ℕ) → stands x w ≡ once_below k x) → ((x : ℕ) → times x xs ≤ stands x w) → All (λ n. n < k) xs
  in_list k w xs once part = All-weaker (Contains xs) (λ n. n < k) (λ n has. below_from_once k n (let t = once_there n xs has in let e = once n in let q = part n in omega arith)) xs (All-contains_itself xs)

  -- the numbers of a wave, by their pieces
  pub spread : (tasks : List Task) (w : Wave P End) → ((x : ℕ) → stands x w ≡ once_below (length tasks) x) → Spread tasks w
  spread tasks w once = record {
    done = in_list (length tasks) w (numbers_of w.done) once (λ x. omega arith);
    failed = in_list (length tasks) w w.failed once (λ x. omega arith);
    killed = in_list (length tasks) w w.killed once (λ x. omega arith);
    ended = ended_below w.ended (in_list (length tasks) w (numbers_of w.ended) once (λ x. omega arith));
    within = λ p.
        sym (all_sum (λ n. cond ((task_of tasks n).piece == p) 1 0) w)
        ∙ (sum_once (length tasks) (all_of w) (λ n. cond ((task_of tasks n).piece == p) 1 0) (all_once (length tasks) w once)
        ∙ weigh_index (λ (t : Task). cond {A = ℕ} (t.piece == p) 1 0) no_task tasks);
  }
    where
      ended_below : (rs : List (Receipt End)) → All (λ n. n < length tasks) (numbers_of rs) → All (λ (r : Receipt End). r.number < length tasks) rs
      ended_below [] h = All-nil (λ (r : Receipt End). r.number < length tasks)
      ended_below (r ∷ rs) h =
          All-cons (λ (r : Receipt End). r.number < length tasks) r rs (Rattle.std.proofs.lemmas.List.Elements.All-head (λ n. n < length tasks) r.number (numbers_of rs) h)
          (ended_below rs (Rattle.std.proofs.lemmas.List.Elements.All-tail (λ n. n < length tasks) r.number (numbers_of rs) h))
