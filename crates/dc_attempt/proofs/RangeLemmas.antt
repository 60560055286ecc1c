-- Ranges of a file, their fronts, and ranges that follow each other.
use Rattle.std.proofs.Common.{◌≡◌, ⊎_elim, ℕ, zero, suc, ◌+◌, ◌<◌, ◌≤◌, nat_le, Bool, true, false, if◌then◌else◌, List, [], ◌∷◌, ◌++◌, length, take, drop, Option, Some, None, IfSome, refl, sym, ap, ap₂, ◌∙◌, arith, true≢false, append-nil}
use Rattle.std.proofs.lemmas.List.{nil_from_length}
use Rattle.std.specs.Option.{is_some}
use Rattle.std.proofs.lemmas.Bool.{cases_lt}
use Rattle.std.proofs.lemmas.Bool.Decides.{nat_tests}
use Rattle.std.proofs.Math.Seq.{take-add}
use Rattle.dc_path.specs.Paths.{Names}
use Rattle.dc_attrs.specs.Trees.{Tree, bytes_of, seen}
use Rattle.dc_attempt.specs.Ranges.{is_file, range_in, told_range, lies_in}

-- ---- parts of a range
inside : (o : Option (List ℕ)) (from done want count : ℕ) → done + want ≤ count → is_some (range_in o from count) ≡ true → is_some (range_in o (from + done) want) ≡ true
inside None from done want count h t = t
inside (Some b) from done want count h t = grind (arith, nat_tests)

within_file : (f : Bool) (o : Option (List ℕ)) (from done want count : ℕ) → done + want ≤ count → is_some (if f then range_in o from count else None) ≡ true → is_some (if f then range_in o (from + done) want else None) ≡ true
within_file true o from done want count h t = inside o from done want count h t
within_file false o from done want count h t = t

false_by : (a b : Bool) → (b ≡ true → a ≡ true) → a ≡ false → b ≡ false
false_by a true f e = absurd (true≢false (sym (f refl) ∙ e))
false_by a false f e = refl

-- a range of which a part does not lie in the file does not lie in it
pub part_lacks : (told : Option Tree) (p : Names) (from done want count : ℕ) → done + want ≤ count → lies_in told p (from + done) want ≡ false → lies_in told p from count ≡ false
part_lacks None p from done want count h e = refl
part_lacks (Some t) p from done want count h e = false_by (lies_in (Some t) p (from + done) want) (lies_in (Some t) p from count) (within_file (is_file (seen t p)) (bytes_of (t p)) from done want count h) e

value : Option (List ℕ) → List ℕ
value None = []
value (Some x) = x

some_same : (a b : List ℕ) → Some a ≡ Some b → a ≡ b
unfolding value
some_same a b e = ap value e

drop_sum : (m n : ℕ) (xs : List ℕ) → drop n (drop m xs) ≡ drop (m + n) xs
drop_sum zero n xs = ap (λ k. drop k xs) (omega arith)
drop_sum (suc m) zero [] = let e : suc m + zero ≡ suc m = omega arith in sym (ap (λ (k : ℕ). drop {A = ℕ} k []) e)
drop_sum (suc m) (suc n) [] = let e : suc m + suc n ≡ suc (m + suc n) = omega arith in sym (ap (λ (k : ℕ). drop {A = ℕ} k []) e)
drop_sum (suc m) n (x ∷ xs) = let e : suc m + n ≡ suc (m + n) = omega arith in drop_sum m n xs ∙ sym (ap (λ (k : ℕ). drop k (x ∷ xs)) e)

take_take : (n m : ℕ) (xs : List ℕ) → n ≤ m → take n (take m xs) ≡ take n xs
take_take zero m xs h = refl
take_take (suc n) zero xs h = absurd (omega arith)
take_take (suc n) (suc m) [] h = refl
take_take (suc n) (suc m) (x ∷ xs) h = ap (λ ys. x ∷ ys) (take_take n m xs (omega arith))

range_test : (o : Option (List ℕ)) (from count : ℕ) (xs : List ℕ) → range_in o from count ≡ Some xs → (b : List ℕ) × (o ≡ Some b) × (from + count ≤ length b) × (take count (drop from b) ≡ xs)
range_test None from count xs h = absurd (cc)
range_test (Some b) from count xs h = by_test (nat_le (from + count) (length b)) refl h
  where
    by_test : (t : Bool) → nat_le (from + count) (length b) ≡ t → (if t then Some (take count (drop from b)) else None) ≡ Some xs → (c : List ℕ) × (Some b ≡ Some c) × (from + count ≤ length c) × (take count (drop from c) ≡ xs)
    by_test true t h = (b, refl, grind (arith, nat_tests), some_same _ _ h)
    by_test false t h = absurd (cc)

range_made : (b : List ℕ) (from count : ℕ) → from + count ≤ length b → range_in (Some b) from count ≡ Some (take count (drop from b))
range_made b from count h = let t : nat_le (from + count) (length b) ≡ true = grind (arith, nat_tests) in ap (λ (x : Bool). if x then Some (take count (drop from b)) else None) t

-- ---- a front of a range
range_front : (o : Option (List ℕ)) (from count n : ℕ) (xs : List ℕ) → n ≤ count → range_in o from count ≡ Some xs → range_in o from n ≡ Some (take n xs)
range_front o from count n xs l h =
    let a = range_test o from count xs h in
    let fits = a.2 in
    ap (λ (q : Option (List ℕ)). range_in q from n) a.1
    ∙ (range_made a.0 from n (omega arith)
    ∙ ap (λ (ys : List ℕ). Some ys) (sym (take_take n count (drop from a.0) l) ∙ ap (λ (ys : List ℕ). take n ys) a.3))

pub told_front : (told : Option Tree) (p : Names) (from count n : ℕ) (xs : List ℕ) → n ≤ count → IfSome told (λ _. told_range told p from count ≡ Some xs) → IfSome told (λ _. told_range told p from n ≡ Some (take n xs))
told_front None p from count n xs l h = tt
told_front (Some t) p from count n xs l h = by_file (is_file (seen t p)) h
  where
    by_file : (f : Bool) → (if f then range_in (bytes_of (t p)) from count else None) ≡ Some xs → (if f then range_in (bytes_of (t p)) from n else None) ≡ Some (take n xs)
    by_file true h = range_front (bytes_of (t p)) from count n xs l h
    by_file false h = absurd (cc)

-- ---- a range, and the range behind it
ranges_join : (o : Option (List ℕ)) (from done want : ℕ) (xs ys : List ℕ) → range_in o from done ≡ Some xs → range_in o (from + done) want ≡ Some ys → range_in o from (done + want) ≡ Some (xs ++ ys)
ranges_join o from done want xs ys h k =
    let a = range_test o from done xs h in
    let c = range_test (Some a.0) (from + done) want ys (ap (λ (q : Option (List ℕ)). range_in q (from + done) want) (sym a.1) ∙ k) in
    let same : a.0 ≡ c.0 = some_same _ _ c.1 in
    let long : from + done + want ≤ length a.0 = (let l = ap length same in let m = c.2 in omega arith) in
    let tail : take want (drop (from + done) a.0) ≡ ys = ap (λ (q : List ℕ). take want (drop (from + done) q)) same ∙ c.3 in
    ap (λ (q : Option (List ℕ)). range_in q from (done + want)) a.1
    ∙ (range_made a.0 from (done + want) (omega arith)
    ∙ ap (λ (q : List ℕ). Some q) (take-add done want (drop from a.0) ∙ ap₂ (λ (u v : List ℕ). u ++ v) a.3 (ap (λ (q : List ℕ). take want q) (drop_sum from done a.0) ∙ tail)))

told_join : (told : Option Tree) (p : Names) (from done want : ℕ) (xs ys : List ℕ) → IfSome told (λ _. told_range told p from done ≡ Some xs) → IfSome told (λ _. told_range told p (from + done) want ≡ Some ys) → IfSome told (λ _. told_range told p from (done + want) ≡ Some (xs ++ ys))
told_join None p from done want xs ys h k = tt
told_join (Some t) p from done want xs ys h k = by_file (is_file (seen t p)) h k
  where
    by_file : (f : Bool) → (if f then range_in (bytes_of (t p)) from done else None) ≡ Some xs → (if f then range_in (bytes_of (t p)) (from + done) want else None) ≡ Some ys → (if f then range_in (bytes_of (t p)) from (done + want) else None) ≡ Some (xs ++ ys)
    by_file true h k = ranges_join (bytes_of (t p)) from done want xs ys h k
    by_file false h k = absurd (cc)

from_start : (told : Option Tree) (p : Names) (from done want : ℕ) (xs ys : List ℕ) → done ≡ 0 → xs ≡ [] → IfSome told (λ _. told_range told p (from + done) want ≡ Some ys) → IfSome told (λ _. told_range told p from (done + want) ≡ Some (xs ++ ys))
from_start None p from done want xs ys z e h = tt
from_start (Some t) p from done want xs ys z e h =
    let a : from ≡ from + done = omega arith in
    let b : done + want ≡ want = omega arith in
    ap (λ (k : ℕ). told_range (Some t) p from k) b ∙ (ap (λ (k : ℕ). told_range (Some t) p k want) a ∙ (h ∙ ap (λ (zs : List ℕ). Some (zs ++ ys)) (sym e)))

to_end : (told : Option Tree) (p : Names) (from done want : ℕ) (xs ys : List ℕ) → want ≡ 0 → ys ≡ [] → IfSome told (λ _. told_range told p from done ≡ Some xs) → IfSome told (λ _. told_range told p from (done + want) ≡ Some (xs ++ ys))
to_end None p from done want xs ys z e h = tt
to_end (Some t) p from done want xs ys z e h =
    let b : done + want ≡ done = omega arith in
    ap (λ (k : ℕ). told_range (Some t) p from k) b ∙ (h ∙ ap (λ (zs : List ℕ). Some zs) (sym (ap (λ (zs : List ℕ). xs ++ zs) e ∙ append-nil xs)))

-- what is told of two ranges that are not empty, the second behind the first, is told of both together
pub told_more : (told : Option Tree) (p : Names) (from done want : ℕ) (xs ys : List ℕ) → length xs ≡ done → length ys ≡ want →
    (0 < done → IfSome told (λ _. told_range told p from done ≡ Some xs)) →
    (0 < want → IfSome told (λ _. told_range told p (from + done) want ≡ Some ys)) →
    0 < done + want → IfSome told (λ _. told_range told p from (done + want) ≡ Some (xs ++ ys))
told_more told p from done want xs ys l m h k some = ⊎_elim
    (λ (a : 0 < done). ⊎_elim
    (λ (b : 0 < want). told_join told p from done want xs ys (h a) (k b))
    (λ (b : want ≤ 0). to_end told p from done want xs ys (omega arith) (nil_from_length ys (omega arith)) (h a))
    (cases_lt 0 want))
    (λ (a : done ≤ 0). from_start told p from done want xs ys (omega arith) (nil_from_length xs (omega arith)) (k (omega arith)))
    (cases_lt 0 done)
