-- What a wave brings.
use Rattle.std.proofs.Common.{◌≡◌, ◌≢◌, ◌==◌, ℕ, zero, suc, ◌+◌, ◌<◌, ◌≤◌, Bool, true, false, cond, List, [], ◌∷◌, length, map, reverse, All, count_by, sum_by, Result, Ok, Err, OnOk, refl, sym, ap, ◌∙◌, subst, ⊎_elim, arith, length-append}
use Rattle.std.specs.List.{Contains}
use Rattle.std.proofs.lemmas.Bool.{cases_lt}
use Rattle.std.proofs.lemmas.Bool.Decides.{nat_tests}
use Rattle.std.proofs.lemmas.List.{reverse-append}
use Rattle.std.proofs.lemmas.List.Sums.{sum_by-cons, count_by-le-length}
use Rattle.std.proofs.lemmas.List.Elements.{All-append, All-nil, All-cons, All-head, All-tail, All-weaker, All-contains, All-get_or}
use Rattle.dc_kills.specs.Entries.{Entry}
use Rattle.dc_pool.specs.Drawing.{weight_below}
use Rattle.dc_split.specs.Bundles.{times, once_below}
use Rattle.dc_pool.specs.Waves.{stands, AllRight, HasLoss, IsBehind}
use Rattle.dc_pool.specs.declared.results.Receipt.{Receipt}
use Rattle.dc_pool.specs.declared.results.Wave.{Wave}
use Rattle.dc_pool.proofs.Losses.{count-append}
use Rattle.dc_crew.specs.declared.crew.Task.{Task}
use Rattle.dc_pieces.specs.declared.piece.Piece.{Piece}
use Rattle.dc_crew.specs.declared.crew.End.{End}
use Rattle.dc_crew.specs.declared.states.State.{State}
use Rattle.dc_pieces.specs.declared.parts.Part.{Part}
use Rattle.dc_crew.specs.Jobs.{task_of, no_task, is_doomed, is_late}
use Rattle.dc_crew.specs.States.{state_of, tasks_of, hits, tally, numbers_of, parts_of, part_for}
use Rattle.dc_crew.specs.Advances.{is_doomed_at, is_late_in, Advanced}
use Rattle.dc_crew.proofs.SumLemmas.{sort_by, below_le, same_or_not}
use Rattle.dc_crew.proofs.AdvanceLemmas.{IsOf, tasks_are, tasks_count, spread}

pub hit_there : (tasks : List Task) (p : ℕ) (xs : List ℕ) → 0 < hits tasks p xs → (n : ℕ) × Contains xs n × ((task_of tasks n).piece ≡ p)
hit_there tasks p [] h = absurd (omega arith)
hit_there tasks p (x ∷ xs) h = ⊎_elim
    (λ (e : (task_of tasks x).piece ≡ p). (x, (0, omega arith, refl), e))
    (λ (e : (task_of tasks x).piece ≢ p).
    let a = sum_by-cons (λ (m : ℕ). cond {A = ℕ} ((task_of tasks m).piece == p) 1 0) x xs in
    let z : cond {A = ℕ} ((task_of tasks x).piece == p) 1 0 ≡ 0 = grind (arith, nat_tests) in
    let r = hit_there tasks p xs (omega arith) in
    let b = r.1.1 in
    (r.0, (suc r.1.0, omega arith, r.1.2), r.2))
    (same_or_not (task_of tasks x).piece p)

there_hits : (tasks : List Task) (n : ℕ) (xs : List ℕ) → Contains xs n → 0 < hits tasks (task_of tasks n).piece xs
there_hits tasks n [] h = absurd (omega (arith, h.1))
there_hits tasks n (x ∷ xs) (zero, h, e) =
    let p = (task_of tasks n).piece in
    let a = sum_by-cons (λ (m : ℕ). cond {A = ℕ} ((task_of tasks m).piece == p) 1 0) x xs in
    let k : (p == p) ≡ true = grind (arith, nat_tests) in
    let t : cond {A = ℕ} ((task_of tasks x).piece == p) 1 0 ≡ cond {A = ℕ} (p == p) 1 0 = ap (λ (m : ℕ). cond {A = ℕ} ((task_of tasks m).piece == p) 1 0) e in
    let u : cond {A = ℕ} (p == p) 1 0 ≡ 1 = ap (λ (b : Bool). cond {A = ℕ} b 1 0) k in
    omega arith
there_hits tasks n (x ∷ xs) (suc i, h, e) =
    let a = sum_by-cons (λ (m : ℕ). cond {A = ℕ} ((task_of tasks m).piece == (task_of tasks n).piece) 1 0) x xs in
    let r = there_hits tasks n xs (i, omega arith, e) in
    omega arith

times_there : (x : ℕ) (xs : List ℕ) → 0 < times x xs → Contains xs x
times_there x [] h = absurd (omega arith)
times_there x (y ∷ ys) h = ⊎_elim
    (λ (e : y ≡ x). (0, omega arith, e))
    (λ (e : y ≢ x).
    let a = sum_by-cons (λ (m : ℕ). cond {A = ℕ} (m == x) 1 0) y ys in
    let z : cond {A = ℕ} (y == x) 1 0 ≡ 0 = grind (arith, nat_tests) in
    let r = times_there x ys (omega arith) in
    let b = r.1 in
    (suc r.0, omega arith, r.2))
    (same_or_not y x)

first_there : (xs : List ℕ) → 0 < length xs → (x : ℕ) × Contains xs x
first_there [] h = absurd (omega arith)
first_there (x ∷ xs) h = (x, (0, omega arith, refl))

-- ---- the task with a number
is_of : (plan : List Entry) (states : List State) (tasks : List Task) (n : ℕ) → tasks ≡ tasks_of plan states → n < length tasks → IsOf plan states (length states) (task_of tasks n)
is_of plan states tasks n e within = All-get_or (IsOf plan states (length states)) tasks n no_task within (subst (All (IsOf plan states (length states))) (sym e) (tasks_are plan states (length states)))

pub doomed_at : (plan : List Entry) (pieces : List Piece) (size : ℕ) (states : List State) (tasks : List Task) (n p : ℕ) → tasks ≡ tasks_of plan states → n < length tasks → (task_of tasks n).piece ≡ p
    → is_doomed pieces size (task_of tasks n) ≡ is_doomed_at plan pieces size p ((state_of states p).ended + 1)
doomed_at plan pieces size states tasks n p e within at =
    ap (is_doomed pieces size) (is_of plan states tasks n e within).is ∙ ap (λ (k : ℕ). is_doomed_at plan pieces size k ((state_of states k).ended + 1)) at

late_at : (plan : List Entry) (states : List State) (tasks : List Task) (n p : ℕ) → tasks ≡ tasks_of plan states → n < length tasks → (task_of tasks n).piece ≡ p
    → is_late (task_of tasks n) ≡ is_late_in plan p ((state_of states p).ended + 1)
late_at plan states tasks n p e within at =
    ap is_late (is_of plan states tasks n e within).is ∙ ap (λ (k : ℕ). is_late_in plan k ((state_of states k).ended + 1)) at

ones : (xs : List ℕ) → sum_by (λ (_ : ℕ). 1) xs ≡ length xs
ones [] = refl
ones (x ∷ xs) = let a = sum_by-cons (λ (_ : ℕ). 1) x xs in let i = ones xs in omega arith

pieces_below : (plan : List Entry) (states : List State) (tasks : List Task) (xs : List ℕ) → tasks ≡ tasks_of plan states → All (λ n. n < length tasks) xs → All (λ n. (task_of tasks n).piece < length states) xs
pieces_below plan states tasks xs e known = All-weaker (λ n. n < length tasks) (λ n. (task_of tasks n).piece < length states) (λ n h. (is_of plan states tasks n e h).below) xs known

-- numbers by their pieces are no more than all
pub fails_by_piece : (plan : List Entry) (states : List State) (tasks : List Task) (xs : List ℕ) → tasks ≡ tasks_of plan states → All (λ n. n < length tasks) xs → weight_below (λ p. hits tasks p xs) (length states) ≤ length xs
fails_by_piece plan states tasks xs e known =
    let s = sort_by (λ (n : ℕ). (task_of tasks n).piece) (λ (_ : ℕ). 1) (length states) xs (pieces_below plan states tasks xs e known) in
    let o = ones xs in
    omega arith

late_hits : (plan : List Entry) (states : List State) (tasks : List Task) (p : ℕ) (xs : List ℕ) → tasks ≡ tasks_of plan states → All (λ n. n < length tasks) xs
    → cond (is_late_in plan p ((state_of states p).ended + 1)) (hits tasks p xs) 0 ≤ sum_by (λ (n : ℕ). cond ((task_of tasks n).piece == p) (cond {A = ℕ} (is_late (task_of tasks n)) 1 0) 0) xs
late_hits plan states tasks p [] e known = none (is_late_in plan p ((state_of states p).ended + 1))
  where
    none : (b : Bool) → cond b (hits tasks p []) 0 ≤ 0
    none true = omega arith
    none false = omega arith
late_hits plan states tasks p (x ∷ xs) e known =
    let a = sum_by-cons (λ (m : ℕ). cond {A = ℕ} ((task_of tasks m).piece == p) 1 0) x xs in
    let b = sum_by-cons (λ (n : ℕ). cond ((task_of tasks n).piece == p) (cond {A = ℕ} (is_late (task_of tasks n)) 1 0) 0) x xs in
    let i = late_hits plan states tasks p xs e (All-tail (λ n. n < length tasks) x xs known) in
    let within = All-head (λ n. n < length tasks) x xs known in
    ⊎_elim
    (λ (at : (task_of tasks x).piece ≡ p).
    let z : cond {A = ℕ} ((task_of tasks x).piece == p) 1 0 ≡ 1 = grind (arith, nat_tests) in
    let w : cond ((task_of tasks x).piece == p) (cond {A = ℕ} (is_late (task_of tasks x)) 1 0) 0 ≡ cond {A = ℕ} (is_late (task_of tasks x)) 1 0 = grind (arith, nat_tests) in
    let l : cond {A = ℕ} (is_late (task_of tasks x)) 1 0 ≡ cond {A = ℕ} (is_late_in plan p ((state_of states p).ended + 1)) 1 0 = ap (λ (b : Bool). cond {A = ℕ} b 1 0) (late_at plan states tasks x p e within at) in
    step (is_late_in plan p ((state_of states p).ended + 1)) 1 (cond {A = ℕ} (is_late (task_of tasks x)) 1 0) (hits tasks p xs) (hits tasks p (x ∷ xs)) _ _ (omega arith) l (omega arith) i)
    (λ (at : (task_of tasks x).piece ≢ p).
    let z : cond {A = ℕ} ((task_of tasks x).piece == p) 1 0 ≡ 0 = grind (arith, nat_tests) in
    let w : cond ((task_of tasks x).piece == p) (cond {A = ℕ} (is_late (task_of tasks x)) 1 0) 0 ≡ 0 = grind (arith, nat_tests) in
    let h : hits tasks p (x ∷ xs) ≡ hits tasks p xs = omega arith in
    let g : cond (is_late_in plan p ((state_of states p).ended + 1)) (hits tasks p (x ∷ xs)) 0 ≡ cond (is_late_in plan p ((state_of states p).ended + 1)) (hits tasks p xs) 0 = ap (λ (k : ℕ). cond (is_late_in plan p ((state_of states p).ended + 1)) k 0) h in
    omega arith)
    (same_or_not (task_of tasks x).piece p)
  where
    step : (o : Bool) (one l h h' s s' : ℕ) → h' ≡ 1 + h → l ≡ cond {A = ℕ} o 1 0 → s' ≡ l + s → cond o h 0 ≤ s → cond o h' 0 ≤ s'
    step true one l h h' s s' a b c d = omega arith
    step false one l h h' s s' a b c d = omega arith

pub lates_by_piece : (plan : List Entry) (states : List State) (tasks : List Task) (xs : List ℕ) → tasks ≡ tasks_of plan states → All (λ n. n < length tasks) xs
    → weight_below (λ p. cond (is_late_in plan p ((state_of states p).ended + 1)) (hits tasks p xs) 0) (length states) ≤ count_by (λ n. is_late (task_of tasks n)) xs
lates_by_piece plan states tasks xs e known =
    let s = sort_by (λ (n : ℕ). (task_of tasks n).piece) (λ (n : ℕ). cond {A = ℕ} (is_late (task_of tasks n)) 1 0) (length states) xs (pieces_below plan states tasks xs e known) in
    let b = below_le (λ p. cond (is_late_in plan p ((state_of states p).ended + 1)) (hits tasks p xs) 0) (λ x. sum_by (λ (y : ℕ). cond ((task_of tasks y).piece == x) (cond {A = ℕ} (is_late (task_of tasks y)) 1 0) 0) xs) (length states) (λ p _. late_hits plan states tasks p xs e known) in
    omega arith

-- ---- a wave
module _ {P : Type 0} where
  pub number_there : (rs : List (Receipt P)) (n : ℕ) → Contains (numbers_of rs) n → (r : Receipt P) × Contains rs r × (r.number ≡ n)
  number_there [] n h = absurd (omega (arith, h.1))
  number_there (r ∷ rs) n (zero, h, e) = (r, (0, omega arith, refl), e)
  number_there (r ∷ rs) n (suc i, h, e) = let t = number_there rs n (i, omega arith, e) in let b = t.1.1 in (t.0, (suc t.1.0, omega arith, t.1.2), t.2)

  pub moves_some : (tasks : List Task) (w : Wave P End) (bundles : List (List ℕ)) (stopping : ℕ → Bool) (slots : ℕ) → 0 < length tasks → ((x : ℕ) → stands x w ≡ once_below (length tasks) x)
      → All (HasLoss stopping bundles w.killed slots) w.lost → 0 < slots → w.ended ≡ []
      → (p : ℕ) × (0 < hits tasks p (numbers_of w.done) + hits tasks p w.killed + hits tasks p w.failed)
  moves_some tasks w bundles stopping slots some once lost many ended =
      let o = once 0 in
      let one : once_below (length tasks) 0 ≡ 1 = grind (arith, nat_tests) in
      let none : times 0 (numbers_of w.ended) ≡ 0 = ap (λ (rs : List (Receipt End)). times 0 (numbers_of rs)) ended in
      let by_killed : (x : ℕ) → Contains w.killed x → (p : ℕ) × (0 < hits tasks p (numbers_of w.done) + hits tasks p w.killed + hits tasks p w.failed) = λ x has. ((task_of tasks x).piece, (let h = there_hits tasks x w.killed has in omega arith)) in
      ⊎_elim
      (λ (d : 0 < times 0 (numbers_of w.done)). ((task_of tasks 0).piece, (let h = there_hits tasks 0 (numbers_of w.done) (times_there 0 (numbers_of w.done) d) in omega arith)))
      (λ (nd : times 0 (numbers_of w.done) ≤ 0). ⊎_elim
      (λ (d : 0 < times 0 w.failed). ((task_of tasks 0).piece, (let h = there_hits tasks 0 w.failed (times_there 0 w.failed d) in omega arith)))
      (λ (nf : times 0 w.failed ≤ 0). ⊎_elim
      (λ (d : 0 < times 0 w.killed). by_killed 0 (times_there 0 w.killed d))
      (λ (nk : times 0 w.killed ≤ 0).
      let l = All-contains (HasLoss stopping bundles w.killed slots) w.lost 0 lost (times_there 0 w.lost (omega arith)) in
      ⊎_elim
      (λ (b : IsBehind stopping bundles w.killed 0). by_killed b.stopper b.killed)
      (λ (c : slots ≤ count_by stopping w.killed). let f = first_there w.killed (let k = count_by-le-length stopping w.killed in omega arith) in by_killed f.0 f.1)
      l)
      (cases_lt 0 (times 0 w.killed)))
      (cases_lt 0 (times 0 w.failed)))
      (cases_lt 0 (times 0 (numbers_of w.done)))

  abbrev pub advanced : (plan : List Entry) (pieces : List Piece) (size : ℕ) (tasks : List Task) (old new : List State) (w : Wave P End) (bundles : List (List ℕ)) (stopping : ℕ → Bool) (slots : ℕ) (right : ℕ → P → Type 0) (right_end : ℕ → End → Type 0)
      → tasks ≡ tasks_of plan old → 0 < length tasks → ((x : ℕ) → stands x w ≡ once_below (length tasks) x)
      → AllRight right right_end (λ n. is_doomed pieces size (task_of tasks n)) w
      → All (HasLoss stopping bundles w.killed slots) w.lost → 0 < slots → w.ended ≡ []
      → length new ≡ length old
      → ((p : ℕ) → (state_of new p).ended ≡ (state_of old p).ended + hits tasks p w.killed + hits tasks p w.failed)
      → ((p : ℕ) → (state_of new p).failed ≡ (state_of old p).failed + hits tasks p w.failed)
      → ((p : ℕ) → tally (state_of new p).done ≡ tally (state_of old p).done + hits tasks p (numbers_of w.done))
      → Advanced plan pieces size old new (length w.failed) (count_by (λ n. is_late (task_of tasks n)) w.killed)
  advanced plan pieces size tasks old new w bundles stopping slots right right_end e some once all lost many ended len counted failed done =
      let sp = spread tasks w once in record {
        done_now = λ p. hits tasks p (numbers_of w.done);
        killed_now = λ p. hits tasks p w.killed;
        failed_now = λ p. hits tasks p w.failed;
        len = len;
        ended = counted;
        failed = failed;
        done = done;
        within = λ p. let a = sp.within p in let b = ap (count_by (λ (t : Task). t.piece == p)) e in let c = tasks_count plan old (length old) p in omega arith;
        doomed = λ p h.
            let t = hit_there tasks p w.killed h in
            sym (doomed_at plan pieces size old tasks t.0 p e (All-contains (λ n. n < length tasks) w.killed t.0 sp.killed t.1) t.2)
            ∙ All-contains (λ n. is_doomed pieces size (task_of tasks n) ≡ true) w.killed t.0 all.1 t.1;
        spared = λ p h.
            let t = hit_there tasks p (numbers_of w.done) h in
            let r = number_there w.done t.0 t.1 in
            let free = (All-contains (λ (r : Receipt P). right r.number r.value × (is_doomed pieces size (task_of tasks r.number) ≡ false)) w.done r.0 all.0 r.1).1 in
            sym (doomed_at plan pieces size old tasks t.0 p e (All-contains (λ n. n < length tasks) (numbers_of w.done) t.0 sp.done t.1) t.2)
            ∙ (ap (λ (n : ℕ). is_doomed pieces size (task_of tasks n)) (sym r.2) ∙ free);
        moves = moves_some tasks w bundles stopping slots some once lost many ended;
        fails = fails_by_piece plan old tasks w.failed e sp.failed;
        lates = lates_by_piece plan old tasks w.killed e sp.killed;
      }

-- ---- parts
count_reverse : {X : Type 0} (p : X → Bool) (xs : List X) → count_by p (reverse xs) ≡ count_by p xs
count_reverse p [] = refl
count_reverse {X} p (x ∷ xs) =
    let a = ap (count_by p) (reverse-append (x ∷ []) xs) in
    let b = count-append p (reverse xs) (x ∷ []) in
    let c = sum_by-cons (λ (x : X). cond {A = ℕ} (p x) 1 0) x [] in
    let d = sum_by-cons (λ (x : X). cond {A = ℕ} (p x) 1 0) x xs in
    let i = count_reverse p xs in
    omega arith

length_reverse : {X : Type 0} (xs : List X) → length (reverse xs) ≡ length xs
length_reverse [] = refl
length_reverse (x ∷ xs) = let a = ap length (reverse-append (x ∷ []) xs) in let b = length-append (reverse xs) (x ∷ []) in let i = length_reverse xs in omega arith

all_reverse : {X : Type 0} (Q : X → Type 0) (xs : List X) → All Q xs → All Q (reverse xs)
all_reverse Q [] h = h
all_reverse Q (x ∷ xs) h = subst (All Q) (sym (reverse-append (x ∷ []) xs)) (All-append Q (reverse xs) (x ∷ []) (all_reverse Q xs (All-tail Q x xs h)) (All-cons Q x [] (All-head Q x xs h) (All-nil Q)))

module _ {P : Type 0} where
  parts_count : (tasks : List Task) (p : ℕ) (rs : List (Receipt P)) → parts_of p (map (part_for tasks) rs) ≡ hits tasks p (numbers_of rs)
  parts_count tasks p [] = refl
  parts_count tasks p (r ∷ rs) =
      let a = sum_by-cons (λ (x : Part P). cond {A = ℕ} (x.piece == p) 1 0) (part_for tasks r) (map (part_for tasks) rs) in
      let b = sum_by-cons (λ (n : ℕ). cond {A = ℕ} ((task_of tasks n).piece == p) 1 0) r.number (numbers_of rs) in
      let i = parts_count tasks p rs in
      omega arith

  pub parts_counted : (tasks : List Task) (p : ℕ) (rs : List (Receipt P)) → parts_of p (reverse (map (part_for tasks) rs)) ≡ hits tasks p (numbers_of rs)
  parts_counted tasks p rs = count_reverse (λ (x : Part P). x.piece == p) (map (part_for tasks) rs) ∙ parts_count tasks p rs

  length_map : (tasks : List Task) (rs : List (Receipt P)) → length (map (part_for tasks) rs) ≡ length rs
  length_map tasks [] = refl
  length_map tasks (r ∷ rs) = ap suc (length_map tasks rs)

  pub parts_length : (tasks : List Task) (rs : List (Receipt P)) → length (reverse (map (part_for tasks) rs)) ≡ length rs
  parts_length tasks rs = length_reverse (map (part_for tasks) rs) ∙ length_map tasks rs

  all_parts : (tasks : List Task) (Q : ℕ → P → Type 0) (rs : List (Receipt P)) → All (λ r. Q (task_of tasks r.number).piece r.value) rs → All (λ (x : Part P). Q x.piece x.part) (map (part_for tasks) rs)
  all_parts tasks Q [] h = All-nil (λ (x : Part P). Q x.piece x.part)
  all_parts tasks Q (r ∷ rs) h =
      All-cons (λ (x : Part P). Q x.piece x.part) (part_for tasks r) (map (part_for tasks) rs)
      (All-head (λ (r : Receipt P). Q (task_of tasks r.number).piece r.value) r rs h)
      (all_parts tasks Q rs (All-tail (λ (r : Receipt P). Q (task_of tasks r.number).piece r.value) r rs h))

  pub parts_right : (tasks : List Task) (Q : ℕ → P → Type 0) (rs : List (Receipt P)) → All (λ r. Q (task_of tasks r.number).piece r.value) rs → All (λ (x : Part P). Q x.piece x.part) (reverse (map (part_for tasks) rs))
  parts_right tasks Q rs h = all_reverse (λ (x : Part P). Q x.piece x.part) (map (part_for tasks) rs) (all_parts tasks Q rs h)

pub ok_all : {X E : Type 0} (r : Result X E) (A B C D F Y : Type 0) → OnOk r A → OnOk r B → OnOk r C → OnOk r D → OnOk r F → (A → B → C → D → F → Y) → OnOk r Y
ok_all (Ok x) A B C D F Y a b c d f k = k a b c d f
ok_all (Err e) A B C D F Y a b c d f k = tt
