-- How many steps an attempt has.
use Rattle.std.proofs.Common.{◌≡◌, ◌≢◌, ℕ, ◌+◌, ◌-◌, ◌*◌, ◌<◌, ◌≤◌, min, List, ◌++◌, length, drop, Option, Some, None, ap, ⊎_elim, arith, length-append, length-drop}
use Rattle.std.proofs.lemmas.Bool.{cases_lt}
use Rattle.std.proofs.lemmas.Grind.{div_ceil_times}
use Rattle.std.specs.Int.{div_ceil}
use Rattle.dc_attempt.specs.Steps.{NoStopBefore, reads_before}

times_le : (a b n : ℕ) → a ≤ b → a * n ≤ b * n
times_le a b n h = grind arith

one_more : (k n : ℕ) → (k + 1) * n ≡ k * n + n
one_more k n = grind arith

rounds_below : (k size count : ℕ) → 0 < size → k * size < count → k < div_ceil count size
rounds_below k size count some h = ⊎_elim
    (λ (l : k < div_ceil count size). l)
    (λ (r : div_ceil count size ≤ k). let m = times_le (div_ceil count size) k size r in let d = div_ceil_times count size some in let e = d.0 in absurd (omega arith))
    (cases_lt k (div_ceil count size))

rounds_all : (k size count : ℕ) → 0 < size → count ≤ k * size → k * size < count + size → k ≡ div_ceil count size
rounds_all k size count some h g =
    let d = div_ceil_times count size some in
    let a = d.0 in
    let b = d.1 in
    ⊎_elim
    (λ (l : k < div_ceil count size). let m = times_le (k + 1) (div_ceil count size) size (omega arith) in let o = one_more k size in absurd (omega arith))
    (λ (r : div_ceil count size ≤ k). ⊎_elim
    (λ (l : div_ceil count size < k). let m = times_le (div_ceil count size + 1) k size (omega arith) in let o = one_more (div_ceil count size) size in absurd (omega arith))
    (λ (q : k ≤ div_ceil count size). omega arith)
    (cases_lt (div_ceil count size) k))
    (cases_lt k (div_ceil count size))

-- a step that finds bytes left is a read
pub step_reads : (step count size done : ℕ) → 1 ≤ step → done ≡ min ((step - 1) * size) count → done < count → 0 < size → step ≤ div_ceil count size
step_reads step count size done some d h size_some = let r = rounds_below (step - 1) size count size_some (omega arith) in omega arith

-- the step behind the last read
pub steps_all : (step count size done : ℕ) → 1 ≤ step → done ≡ min ((step - 1) * size) count → (step - 1) * size < count + size → count ≤ done → 0 < size → step ≡ div_ceil count size + 1
steps_all step count size done some d short h size_some = let r = rounds_all (step - 1) size count size_some (omega arith) short in omega arith

-- behind the last read all bytes are there
pub all_before : (step count size : ℕ) → div_ceil count size + 1 ≤ step → 0 < size → min ((step - 1) * size) count ≡ count
all_before step count size h some =
    let d = div_ceil_times count size some in
    let a = d.0 in
    let m = times_le (div_ceil count size) (step - 1) size (omega arith) in
    omega arith

pub done_more : (step count size done want : ℕ) → 1 ≤ step → done ≡ min ((step - 1) * size) count → done < count → want ≡ min (count - done) size → done + want ≡ min ((step + 1 - 1) * size) count
done_more step count size done want some d h w =
    let o = one_more (step - 1) size in
    let e : step + 1 - 1 ≡ step - 1 + 1 = omega arith in
    let f = ap (λ (k : ℕ). k * size) e in
    omega arith

pub short_more : (step count size done : ℕ) → 1 ≤ step → done ≡ min ((step - 1) * size) count → done < count → (step + 1 - 1) * size < count + size
short_more step count size done some d h =
    let o = one_more (step - 1) size in
    let e : step + 1 - 1 ≡ step - 1 + 1 = omega arith in
    let f = ap (λ (k : ℕ). k * size) e in
    omega arith

-- a step that is not the stop is behind no stop
pub later_more : (stop : Option ℕ) (step : ℕ) → (stop ≢ Some step) → NoStopBefore stop step → NoStopBefore stop (step + 1)
later_more None step n l = tt
later_more (Some s) step n l = ⊎_elim (λ (h : step < s). omega arith) (λ (h : s ≤ step). absurd (n (ap (λ (k : ℕ). Some k) (omega arith)))) (cases_lt step s)

-- as many looks as steps before this one are no more than the most reads
pub looks_few : (stop : Option ℕ) (all step before now : ℕ) → now + 1 ≤ before + step → step ≤ all + 1 → NoStopBefore stop step → now ≤ before + reads_before stop all
looks_few None all step before now l s n = omega arith
looks_few (Some stop) all step before now l s n = omega arith

pub buffer_length : (want : ℕ) (into buffer : List ℕ) → length into ≡ want → want ≤ length buffer → length (into ++ drop want buffer) ≡ length buffer
buffer_length want into buffer e h = let a = length-append into (drop want buffer) in let b = length-drop {A = ℕ} want buffer in omega arith
