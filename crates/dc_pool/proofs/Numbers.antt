-- How often a number stands in the lists of a wave, and what two waves give together.
use Rattle.std.proofs.Common.{◌≡◌, ℕ, zero, suc, ◌+◌, ◌-◌, ◌<◌, ◌≤◌, ◌==◌, List, [], ◌∷◌, ◌++◌, map, length, take, drop, get_or, set, refl, sym, ap, ◌∙◌, subst, Bool, true, false, cond, All, arith, add-one, length-append, sum_by, count_by, ltb, ◌&&◌, ◌||◌, true≢false}
use Rattle.std.specs.List.{list_all, Contains}
use Rattle.std.proofs.lemmas.List.Folds.{list_all-append}
use Rattle.std.proofs.lemmas.List.Sums.{sum_by-append, sum_by-cons}
use Rattle.std.proofs.lemmas.List.Elements.{All-append, All-weaker, All-nil, All-cons, All-contains_itself}
use Rattle.std.proofs.lemmas.Bool.{ltb-true}
use mathlib.Core.List.{map-append}
use Rattle.dc_pool.specs.Counts.{last, RoseWith, Gained, NoneFell, below_last}
use Rattle.dc_pool.specs.Drawing.{weight, weight_below, ceiling}
use Rattle.dc_pool.proofs.Sums.{weight-append, ceiling-push}
use Rattle.dc_pool.proofs.Losses.{count-append, lost_joined, stopped_joined}
use Rattle.dc_pool.specs.declared.results.Receipt.{Receipt}
use Rattle.dc_pool.specs.declared.results.Wave.{Wave}
use Rattle.dc_pool.specs.declared.draws.Drawer.{Drawer}
use Rattle.std.proofs.Math.Seq.{take-append_seam}
use Rattle.std.proofs.lemmas.Bool.Decides.{nat_tests}
use Rattle.atomic_table.specs.Seated.{TableId}
use Rattle.dc_pool.specs.Drawers.{IsNewAt}
use Rattle.dc_split.proofs.Counting.{times-append}
use Rattle.dc_split.specs.Bundles.{times, flatten, once_below, HoldEachOnce}
use Rattle.dc_pool.specs.Waves.{stands, IsJoined, in_bundle, drawn_weight, endings, AllRight, made_for, with_lost, IsBehind, HasStopped, IsAdded, IsGathered, AreBelow}

-- 1 for x, and else 0
abbrev one_for : ℕ → ℕ → ℕ
one_for x = λ y. cond {A = ℕ} (y == x) 1 0

pub times_joined : (x : ℕ) (xs ys zs : List ℕ) → zs ≡ xs ++ ys → times x zs ≡ times x xs + times x ys
times_joined x xs ys zs e = ap (times x) e ∙ times-append x xs ys

module _ {R : Type 0} where
  pub numbers_joined : (x : ℕ) (xs ys zs : List (Receipt R)) → zs ≡ xs ++ ys → times x (map (λ r. r.number) zs) ≡ times x (map (λ r. r.number) xs) + times x (map (λ r. r.number) ys)
  numbers_joined x xs ys zs e = ap (λ l. times x (map (λ r. r.number) l)) e ∙ (ap (times x) (map-append (λ (r : Receipt R). r.number) xs ys) ∙ times-append x (map (λ r. r.number) xs) (map (λ r. r.number) ys))

times_take_suc : (x i : ℕ) (xs : List ℕ) → i < length xs → times x (take (suc i) xs) ≡ times x (take i xs) + times x (get_or xs i 0 ∷ [])
times_take_suc x i [] h = absurd (omega arith)
times_take_suc x zero (y ∷ ys) h = omega arith
times_take_suc x (suc i) (y ∷ ys) h = omega (arith, times_take_suc x i ys (omega arith), sum_by-cons (one_for x) y (take (suc i) ys), sum_by-cons (one_for x) y (take i ys))

pub times_take : (x i : ℕ) (xs : List ℕ) → i < length xs → times x (take (i + 1) xs) ≡ times x (take i xs) + times x (get_or xs i 0 ∷ [])
times_take x i xs h = rw add-one (times_take_suc x i xs h)

module _ {R E : Type 0} where
  pub stands_joined : (x : ℕ) (a b w : Wave R E) → IsJoined a b w → stands x w ≡ stands x a + stands x b
  stands_joined x a b w j =
      let d = numbers_joined x a.done b.done w.done j.0 in
      let f = times_joined x a.failed b.failed w.failed j.1 in
      let k = times_joined x a.killed b.killed w.killed j.2 in
      let l = times_joined x a.lost b.lost w.lost j.3 in
      let e = numbers_joined x a.ended b.ended w.ended j.4 in
      omega arith

  pub stands_done : (x : ℕ) (w : Wave R E) (d : List (Receipt R)) (r : Receipt R) → d ≡ w.done ++ r ∷ [] → stands x record { done = d; failed = w.failed; killed = w.killed; lost = w.lost; ended = w.ended } ≡ stands x w + times x (r.number ∷ [])
  stands_done x w d r e = let j = numbers_joined x w.done (r ∷ []) d e in omega arith

  pub stands_failed : (x : ℕ) (w : Wave R E) (d : List ℕ) (n : ℕ) → d ≡ w.failed ++ n ∷ [] → stands x record { done = w.done; failed = d; killed = w.killed; lost = w.lost; ended = w.ended } ≡ stands x w + times x (n ∷ [])
  stands_failed x w d n e = let j = times_joined x w.failed (n ∷ []) d e in omega arith

  pub stands_killed : (x : ℕ) (w : Wave R E) (d : List ℕ) (n : ℕ) → d ≡ w.killed ++ n ∷ [] → stands x record { done = w.done; failed = w.failed; killed = d; lost = w.lost; ended = w.ended } ≡ stands x w + times x (n ∷ [])
  stands_killed x w d n e = let j = times_joined x w.killed (n ∷ []) d e in omega arith

  pub stands_ended : (x : ℕ) (w : Wave R E) (d : List (Receipt E)) (r : Receipt E) → d ≡ w.ended ++ r ∷ [] → stands x record { done = w.done; failed = w.failed; killed = w.killed; lost = w.lost; ended = d } ≡ stands x w + times x (r.number ∷ [])
  stands_ended x w d r e = let j = numbers_joined x w.ended (r ∷ []) d e in omega arith

  pub stands_lost : (x : ℕ) (w : Wave R E) (more : List ℕ) → stands x (with_lost (w.lost ++ more) w) ≡ stands x w + times x more
  stands_lost x w more = let j = times-append x w.lost more in omega arith

pub take_whole : {X : Type 0} (n : ℕ) (xs : List X) → length xs ≤ n → take n xs ≡ xs
take_whole zero [] h = refl
take_whole (suc n) [] h = refl
take_whole zero (x ∷ xs) h = absurd (omega arith)
take_whole (suc n) (x ∷ xs) h = ap (λ ys. x ∷ ys) (take_whole n xs (omega arith))

-- the rest of a slice
pub rest_of : {X : Type 0} (n : ℕ) (xs : List X) → take (length xs - n) (drop n xs) ≡ drop n xs
rest_of zero [] = refl
rest_of (suc n) [] = take_whole (0 - suc n) [] (omega arith)
rest_of zero (x ∷ xs) = take_whole (length (x ∷ xs) - 0) (x ∷ xs) (omega arith)
rest_of (suc n) (x ∷ xs) = let e : length (x ∷ xs) - suc n ≡ length xs - n = omega arith in ap (λ k. take k (drop n xs)) e ∙ rest_of n xs

pub times_split : (x n : ℕ) (xs : List ℕ) → times x (take n xs) + times x (drop n xs) ≡ times x xs
times_split x zero xs = omega arith
times_split x (suc n) [] = omega arith
times_split x (suc n) (y ∷ ys) = omega (arith, times_split x n ys, sum_by-cons (one_for x) y (take n ys), sum_by-cons (one_for x) y ys)

-- ---- counts
pub rose_on : (a m n k b c : ℕ) → RoseWith a m n b → RoseWith b n k c → RoseWith a m k c
rose_on a m n k b c p q = (omega arith, omega arith, omega arith)

module _ {S R E : Type 0} where
  pub added_on : (good : ℕ → R → Type 0) (good_end : ℕ → E → Type 0) (dooms lates : ℕ → Bool) (f m : S → ℕ) (a b c : S) (u v w : Wave R E)
      → IsAdded good good_end dooms lates f m a b u v → IsAdded good good_end dooms lates f m b c v w → IsAdded good good_end dooms lates f m a c u w
  added_on good good_end dooms lates f m a b c u v w p q = record {
    right = q.right;
    faults = rose_on (f a) (length u.failed) (length v.failed) (length w.failed) (f b) (f c) p.faults q.faults;
    makes = rose_on (m a) (made_for lates u) (made_for lates v) (made_for lates w) (m b) (m c) p.makes q.makes;
  }

-- ---- bundles
pub in_bundle_none : (bundles : List (List ℕ)) (x b : ℕ) → length bundles ≤ b → in_bundle bundles x b ≡ 0
in_bundle_none [] x b h = refl
in_bundle_none (y ∷ ys) x zero h = absurd (omega arith)
in_bundle_none (y ∷ ys) x (suc b) h = in_bundle_none ys x b (omega arith)

pub get_or_same : {X : Type 0} (xs : List X) (i : ℕ) (d e : X) → i < length xs → get_or xs i d ≡ get_or xs i e
get_or_same [] i d e h = absurd (omega arith)
get_or_same (x ∷ xs) zero d e h = refl
get_or_same (x ∷ xs) (suc i) d e h = get_or_same xs i d e (omega arith)

pub worked : (h : ℕ → ℕ) (xs ys : List ℕ) (b before after k w : ℕ) → ys ≡ xs ++ b ∷ [] → before + w ≡ weight h xs → after ≡ before + k → h b ≡ k → after + w ≡ weight h ys
worked h xs ys b before after k w e i did here = let drew = ap (weight h) e in let more = weight-append h xs (b ∷ []) in omega arith

pub falls_by : (n : ℕ) (xs ys : List ℕ) (b : ℕ) → b < n → ceiling xs ≤ b → ys ≡ xs ++ b ∷ [] → n - ceiling ys < n - ceiling xs
falls_by n xs ys b below above e = let now = ap ceiling e in let push = ceiling-push xs b above in omega arith

weight_below_shift : (h : ℕ → ℕ) (n : ℕ) → weight_below h (suc n) ≡ h 0 + weight_below (λ b. h (suc b)) n
weight_below_shift h zero = omega arith
weight_below_shift h (suc n) = omega (arith, weight_below_shift h n)

weight_below_zero : (x n : ℕ) → weight_below (in_bundle [] x) n ≡ 0
weight_below_zero x zero = refl
weight_below_zero x (suc n) = omega (arith, weight_below_zero x n)

-- all numbers of all bundles: those of the first bundles, and those of the rest
pub all_bundles : (ls : List (List ℕ)) (x n : ℕ) → weight_below (in_bundle ls x) n + times x (flatten (drop n ls)) ≡ times x (flatten ls)
all_bundles [] x zero = omega arith
all_bundles [] x (suc n) = let z = weight_below_zero x (suc n) in omega arith
all_bundles (l ∷ ls) x zero = omega arith
all_bundles (l ∷ ls) x (suc n) =
    let s = weight_below_shift (in_bundle (l ∷ ls) x) n in
    let i = all_bundles ls x n in
    let a = times-append x l (flatten ls) in
    omega arith

-- ---- drawers
pub drawn_weight-append : (h : ℕ → ℕ) (ds es : List Drawer) → drawn_weight h (ds ++ es) ≡ drawn_weight h ds + drawn_weight h es
drawn_weight-append h [] es = omega arith
drawn_weight-append h (d ∷ ds) es = omega (arith, drawn_weight-append h ds es)

length-popped : (ds es : List Drawer) (d : Drawer) → ds ≡ es ++ d ∷ [] → length ds ≡ length es + 1
length-popped ds es d e = ap length e ∙ length-append es (d ∷ [])

pub first_seat : (ds es : List Drawer) (d : Drawer) → ds ≡ es ++ d ∷ [] → d.seat.me.0.seats ≡ 1 → d.seat.me.0.seats + length es ≡ length ds
first_seat ds es d e one = let l = length-popped ds es d e in omega arith

pub seats_taken : (ds es : List Drawer) (d : Drawer) (all now T : ℕ) → ds ≡ es ++ d ∷ [] → now ≡ all + d.seat.me.0.seats → d.seat.me.0.seats ≡ 1 → all + length ds ≡ T → now + length es ≡ T
seats_taken ds es d all now T e n one t = let l = length-popped ds es d e in omega arith

pub first_drawn : (h : ℕ → ℕ) (ds es : List Drawer) (d : Drawer) → ds ≡ es ++ d ∷ [] → weight h d.seat.me.0.drawn + drawn_weight h es ≡ drawn_weight h ds
first_drawn h ds es d e = let a = ap (drawn_weight h) e in let b = drawn_weight-append h es (d ∷ []) in omega arith

pub drawn_taken : (h : ℕ → ℕ) (ds es : List Drawer) (d : Drawer) (all now : List ℕ) (T : ℕ) → ds ≡ es ++ d ∷ [] → now ≡ all ++ d.seat.me.0.drawn → weight h all + drawn_weight h ds ≡ T → weight h now + drawn_weight h es ≡ T
drawn_taken h ds es d all now T e n t = let a = first_drawn h ds es d e in let b = ap (weight h) n in let c = weight-append h all d.seat.me.0.drawn in omega arith

pub endings_taken : (ds es : List Drawer) (d : Drawer) → ds ≡ es ++ d ∷ [] → endings ds ≡ endings es + cond d.ended 1 0
endings_taken ds es d e = let a = ap endings e in let b = count-append (λ (d : Drawer). d.ended) es (d ∷ []) in omega arith

pub any_ended : (a b c : Bool) (m : ℕ) → c ≡ (a || b) → 0 < cond a 1 0 + (m + cond b 1 0) → 0 < cond c 1 0 + m
any_ended true b c m e h = let k : cond {A = ℕ} c 1 0 ≡ 1 = ap (λ (c : Bool). cond {A = ℕ} c 1 0) e in omega arith
any_ended false b c m e h = let k : cond {A = ℕ} c 1 0 ≡ cond {A = ℕ} b 1 0 = ap (λ (c : Bool). cond {A = ℕ} c 1 0) e in omega arith

pub ended_true : (a : Bool) → 0 < cond a 1 0 + 0 → a ≡ true
ended_true true h = refl
ended_true false h = absurd (omega arith)

-- ---- slots
both_true : (a b : Bool) → (a && b) ≡ true → (a ≡ true) × (b ≡ true)
both_true true b e = (refl, e)
both_true false b e = absurd (true≢false (sym e))

and_true : (a b : Bool) → a ≡ true → b ≡ true → (a && b) ≡ true
and_true true b e f = f
and_true false b e f = absurd (true≢false (sym e))

module _ {S : Type 0} where
  pub gained_joined : (f : S → ℕ) (old a b a' b' : List S) (m n k : ℕ) → old ≡ a ++ b → k ≡ m + n → Gained f m a a' → Gained f n b b' → Gained f k old (a' ++ b')
  gained_joined f old a b a' b' m n k e c p q all =
      let t = both_true (list_all (below_last f) a') (list_all (below_last f) b') (sym (list_all-append (below_last f) a' b') ∙ all) in
      let x = p t.0 in
      let y = q t.1 in
      let so = ap (sum_by f) e ∙ sum_by-append f a b in
      let sn = sum_by-append f a' b' in
      let was = ap (list_all (below_last f)) e ∙ (list_all-append (below_last f) a b ∙ and_true _ _ x.0 y.0) in
      (was, omega arith)

  pub fell_joined : (f : S → ℕ) (a b a' b' : List S) → NoneFell f a a' → NoneFell f b b' → NoneFell f (a ++ b) (a' ++ b')
  fell_joined f [] b [] b' p q = q
  fell_joined f [] b (y ∷ ys) b' p q = absurd p
  fell_joined f (x ∷ xs) b [] b' p q = absurd p
  fell_joined f (x ∷ xs) b (y ∷ ys) b' p q = (p.0, fell_joined f xs b ys b' p.1 q)

  pub fell_same : (f : S → ℕ) (a : List S) → NoneFell f a a
  fell_same f [] = tt
  fell_same f (x ∷ xs) = (omega arith, fell_same f xs)

  pub fell_one : (f : S → ℕ) (old : List S) (d y : S) → length old ≡ 1 → f (get_or old 0 d) ≤ f y → NoneFell f old (set old 0 y)
  fell_one f [] d y one r = absurd (omega arith)
  fell_one f (x ∷ []) d y one r = (r, tt)
  fell_one f (x ∷ z ∷ zs) d y one r = absurd (omega arith)

  pub gained_one : (f : S → ℕ) (n : ℕ) (old : List S) (d y : S) → length old ≡ 1 → RoseWith (f (get_or old 0 d)) 0 n (f y) → Gained f n old (set old 0 y)
  gained_one f n [] d y one r all = absurd (omega arith)
  gained_one f n (x ∷ []) d y one r all =
      let t = both_true (ltb (f y) last) true all in
      let below = ltb-true (f y) last t.0 in
      (and_true _ _ (Rattle.std.proofs.lemmas.Bool.lt-ltb (f x) last (omega arith)) refl, omega arith)
  gained_one f n (x ∷ z ∷ zs) d y one r all = absurd (omega arith)

  pub fell_length : (f : S → ℕ) (a b : List S) → NoneFell f a b → length b ≡ length a
  fell_length f [] [] p = refl
  fell_length f [] (y ∷ ys) p = absurd p
  fell_length f (x ∷ xs) [] p = absurd p
  fell_length f (x ∷ xs) (y ∷ ys) p = ap suc (fell_length f xs ys p.1)

-- ---- two halves
module _ {R E : Type 0} where
  pub right_joined : (right : ℕ → R → Type 0) (right_end : ℕ → E → Type 0) (doomed : ℕ → Bool) (a b w : Wave R E) → AllRight right right_end doomed a → AllRight right right_end doomed b → IsJoined a b w → AllRight right right_end doomed w
  right_joined right right_end doomed a b w p q j = (
    subst (λ rs. All (λ r. right r.number r.value × (doomed r.number ≡ false)) rs) (sym j.0) (All-append (λ r. right r.number r.value × (doomed r.number ≡ false)) a.done b.done p.0 q.0),
    subst (λ rs. All (λ n. doomed n ≡ true) rs) (sym j.2) (All-append (λ n. doomed n ≡ true) a.killed b.killed p.1 q.1),
    subst (λ rs. All (λ e. right_end e.number e.value) rs) (sym j.4) (All-append (λ e. right_end e.number e.value) a.ended b.ended p.2 q.2),
  )

module _ {S R E : Type 0} where
  pub gathered_joined : (good : ℕ → R → Type 0) (good_end : ℕ → E → Type 0) (dooms stopping lates : ℕ → Bool) (f m : S → ℕ) (bundles : List (List ℕ)) (old a b a' b' : List S) (ds es : List Drawer) (u v w : Wave R E)
      → old ≡ a ++ b → IsGathered good good_end dooms stopping lates f m bundles a a' ds u → IsGathered good good_end dooms stopping lates f m bundles b b' es v → IsJoined u v w
      → IsGathered good good_end dooms stopping lates f m bundles old (a' ++ b') (ds ++ es) w
  gathered_joined good good_end dooms stopping lates f m bundles old a b a' b' ds es u v w e p q j =
      let lf = ap length j.1 ∙ length-append u.failed v.failed in
      let ld = ap length j.0 ∙ length-append u.done v.done in
      let ck = ap (count_by lates) j.2 ∙ count-append lates u.killed v.killed in
      let cs = ap (count_by stopping) j.2 ∙ count-append stopping u.killed v.killed in
      let le = ap length e ∙ length-append a b in
      let en = count-append (λ (d : Drawer). d.ended) ds es in
      let fp = p.few in
      let fq = q.few in
      let hp = p.halted in
      let hq = q.halted in record {
        right = right_joined good good_end dooms u v w p.right q.right j;
        numbers = λ x. let s = stands_joined x u v w j in let d = drawn_weight-append (in_bundle bundles x) ds es in let k = p.numbers x in let l = q.numbers x in omega arith;
        faults = gained_joined f old a b a' b' (length u.failed) (length v.failed) (length w.failed) e lf p.faults q.faults;
        makes = gained_joined m old a b a' b' (made_for lates u) (made_for lates v) (made_for lates w) e (omega arith) p.makes q.makes;
        lost = lost_joined stopping bundles u.killed v.killed w.killed u.lost v.lost w.lost j.2 j.3 p.lost q.lost;
        stopped = stopped_joined stopping bundles u.killed v.killed w.killed u.lost v.lost w.lost j.2 j.3 p.stopped q.stopped;
        few = omega arith;
        halted = omega arith;
      }

module _ {S R E : Type 0} where
  pub gathered_one : (good : ℕ → R → Type 0) (good_end : ℕ → E → Type 0) (dooms stopping lates : ℕ → Bool) (f m : S → ℕ) (bundles : List (List ℕ)) (table : TableId) (count : ℕ) (old : List S) (d y : S) (ds : List Drawer) (e z : Drawer) (w : Wave R E)
      → length old ≡ 1 → length ds ≡ 1 → IsNewAt table count (get_or ds 0 e)
      → AllRight good good_end dooms w
      → ((x : ℕ) → stands x w + weight (in_bundle bundles x) (get_or ds 0 e).seat.me.0.drawn ≡ weight (in_bundle bundles x) z.seat.me.0.drawn)
      → RoseWith (f (get_or old 0 d)) 0 (length w.failed) (f y) → RoseWith (m (get_or old 0 d)) 0 (made_for lates w) (m y)
      → All (IsBehind stopping bundles w.killed) w.lost → All (HasStopped stopping bundles w.lost) w.killed → count_by stopping w.killed ≤ 1 → 1 ≤ count_by stopping w.killed + cond z.ended 1 0
      → IsGathered good good_end dooms stopping lates f m bundles old (set old 0 y) (set ds 0 z) w
  gathered_one good good_end dooms stopping lates f m bundles table count old d y [] e z w one one' new right numbers faults makes lost stopped few halted = absurd (omega arith)
  gathered_one good good_end dooms stopping lates f m bundles table count old d y (g ∷ []) e z w one one' new right numbers faults makes lost stopped few halted = record {
    right = right;
    numbers = λ x. let n = numbers x in let k = ap (λ (v : Rattle.dc_pool.specs.declared.rule.View.View). weight (in_bundle bundles x) v.drawn) new.3 in omega arith;
    faults = gained_one f (length w.failed) old d y one faults;
    makes = gained_one m (made_for lates w) old d y one makes;
    lost = lost;
    stopped = stopped;
    few = omega arith;
    halted = omega arith;
  }
  gathered_one good good_end dooms stopping lates f m bundles table count old d y (g ∷ h ∷ gs) e z w one one' new right numbers faults makes lost stopped few halted = absurd (omega arith)

-- ---- the numbers that there are
pub once_there : (x : ℕ) (xs : List ℕ) → Contains xs x → 0 < times x xs
once_there x [] h = absurd (omega (arith, h.1))
once_there x (y ∷ ys) (zero, h, e) = let k : (x == x) ≡ true = grind (arith, nat_tests) in let t : cond {A = ℕ} (y == x) 1 0 ≡ cond {A = ℕ} (x == x) 1 0 = ap (λ (y : ℕ). cond {A = ℕ} (y == x) 1 0) e in let u : cond {A = ℕ} (x == x) 1 0 ≡ 1 = ap (λ (b : Bool). cond {A = ℕ} b 1 0) k in omega (arith, sum_by-cons (one_for x) y ys)
once_there x (y ∷ ys) (suc i, h, e) = let r = once_there x ys (i, omega arith, e) in omega (arith, sum_by-cons (one_for x) y ys)

pub below_from_once : (count x : ℕ) → 0 < once_below count x → x < count
below_from_once count x h = grind (arith, nat_tests)

pub known_all : (count : ℕ) (bundles rest : List (List ℕ)) → ((x : ℕ) → times x (flatten rest) ≤ once_below count x) → All (AreBelow count) rest
known_all count bundles [] h = All-nil (AreBelow count)
known_all count bundles (b ∷ bs) h =
    All-cons (AreBelow count) b bs
    (All-weaker (Contains b) (λ n. n < count) (λ n has. below_from_once count n (let a = times-append n b (flatten bs) in let o = once_there n b has in let l = h n in omega arith)) b (All-contains_itself b))
    (known_all count bundles bs (λ x. let a = times-append x b (flatten bs) in let l = h x in omega arith))

pub known_below : (count : ℕ) (bundles : List (List ℕ)) → HoldEachOnce count bundles → All (AreBelow count) bundles
known_below count bundles h = known_all count bundles bundles (λ x. let e = h x in omega arith)

-- ---- the whole wave
pub seam : {X : Type 0} (n : ℕ) (now rest : List X) → n ≡ length now → take n (now ++ rest) ≡ now
seam n now rest l = ap (λ k. take k (now ++ rest)) l ∙ take-append_seam now rest

-- where something is left of the bundles, no worker found that all was given
drop_none : {X : Type 0} (n : ℕ) (xs : List X) → length xs ≤ n → drop n xs ≡ []
drop_none zero [] h = refl
drop_none (suc n) [] h = refl
drop_none zero (x ∷ xs) h = absurd (omega arith)
drop_none (suc n) (x ∷ xs) h = drop_none n xs (omega arith)

pub why_left : (bundles : List (List ℕ)) (given slots killed ended : ℕ) → slots ≤ killed + ended → (0 < ended → length bundles < given) → 0 < length (flatten (drop given bundles)) → slots ≤ killed
why_left bundles given slots killed zero halted over left = omega arith
why_left bundles given slots killed (suc ended) halted over left = let e = ap (λ (bs : List (List ℕ)). length (flatten bs)) (drop_none given bundles (let o = over (omega arith) in omega arith)) in absurd (omega arith)

module _ {R E : Type 0} where
  pub wave_numbers : (bundles : List (List ℕ)) (x count given : ℕ) (ds : List Drawer) (drawn : List ℕ) (w v : Wave R E) → HoldEachOnce count bundles
      → stands x w ≡ drawn_weight (in_bundle bundles x) ds → weight (in_bundle bundles x) drawn ≡ drawn_weight (in_bundle bundles x) ds → weight (in_bundle bundles x) drawn ≡ weight_below (in_bundle bundles x) given
      → v ≡ with_lost (w.lost ++ flatten (drop given bundles)) w → stands x v ≡ once_below count x
  wave_numbers bundles x count given ds drawn w v once a b c e =
      let s = stands_lost x w (flatten (drop given bundles)) in
      let h = all_bundles bundles x given in
      let o = once x in
      let f = ap (stands x) e in
      omega arith
