-- Records that are dealt out to bundles.
use Rattle.std.proofs.Common.{◌≡◌, ℕ, true, false, ◌⊎◌, inl, inr, zero-add, ◌+◌, ◌%◌, ◌<◌, ◌≤◌, ◌==◌, nat_lt, nat_le, ◌&&◌, cond, [], ◌∷◌, ◌++◌, map, length, get_or, set, filter, sym, ap, ◌∙◌, arith, append-nil, get_or-set_same, get_or-set_other, length-set}
use Rattle.std.proofs.lemmas.Bool.{cases_eq}
use Rattle.std.proofs.lemmas.Bool.Decides.{nat_tests}
use Rattle.std.proofs.lemmas.Nat.{mod_below}
use Rattle.std.proofs.lemmas.List.Elements.{filter-append}
use Rattle.std.proofs.lemmas.List.FromFn.{fill_by_all, length-map-range_with_len, get_or-map-range_with_len}
use Rattle.dc_split.specs.Bundles.{numbers, times, once_below, HoldEachOnce, dynamic_count, leaving, dynamic_bundles}
use Rattle.dc_split.proofs.Counting.{times-numbers, times-filter, times-dealt}
use Rattle.dc_split.proofs.Filling.{numbers-more}

-- a record more among those that leave a place
leaving-more : (n c j : ℕ) → leaving (n + 1) c j ≡ leaving n c j ++ cond (n % c == j) (n ∷ []) []
leaving-more n c j = ap (filter (λ k. k % c == j)) (numbers-more n) ∙ filter-append (λ k. k % c == j) (numbers n) (n ∷ [])

-- what a place has after a record more at place i
deal_at : (n c i k : ℕ) → n % c ≡ i → i < c → k < c → (k ≡ i) ⊎ (k ≡ i → ⊥) →
    get_or (set (map (leaving n c) (numbers c)) i (get_or (map (leaving n c) (numbers c)) i [] ++ n ∷ [])) k [] ≡ leaving (n + 1) c k
deal_at n c i k e l h (inl same) =
    let dealt = map (leaving n c) (numbers c) in
    let had : get_or dealt i [] ≡ leaving n c i = get_or-map-range_with_len (leaving n c) 0 c i i [] l (zero-add i) in
    let there : (n % c == i) ≡ true = grind (arith, nat_tests) in
    let some : i < length dealt = omega (arith, length-map-range_with_len (leaving n c) 0 c) in
    rw same (get_or-set_same dealt i (get_or dealt i [] ++ n ∷ []) [] some ∙ ap (λ b. b ++ n ∷ []) had ∙ sym (rw there at (leaving-more n c i)))
deal_at n c i k e l h (inr other) =
    let dealt = map (leaving n c) (numbers c) in
    let had : get_or dealt k [] ≡ leaving n c k = get_or-map-range_with_len (leaving n c) 0 c k k [] h (zero-add k) in
    let elsewhere : (n % c == k) ≡ false = grind (arith, nat_tests) in
    get_or-set_other dealt i k (get_or dealt i [] ++ n ∷ []) [] other ∙ had ∙ sym (rw (elsewhere, append-nil) at (leaving-more n c k))

-- a record more at its place
pub deal_more : (n c i : ℕ) → n % c ≡ i → i < c →
    set (map (leaving n c) (numbers c)) i (get_or (map (leaving n c) (numbers c)) i [] ++ n ∷ []) ≡ map (leaving (n + 1) c) (numbers c)
deal_more n c i e l =
    fill_by_all (leaving (n + 1) c) (set (map (leaving n c) (numbers c)) i (get_or (map (leaving n c) (numbers c)) i [] ++ n ∷ [])) c []
    (length-set (map (leaving n c) (numbers c)) i (get_or (map (leaving n c) (numbers c)) i [] ++ n ∷ []) ∙ length-map-range_with_len (leaving n c) 0 c)
    (λ k h. deal_at n c i k e l h (cases_eq k i))

-- ---- each record stands once
dealt_all : (count c r t x : ℕ) → t ≡ once_below count x → (x < count → r < c) → cond (nat_le 0 r && nat_lt r (0 + c)) t 0 ≡ once_below count x
dealt_all count c r t x e h = grind (arith, nat_tests)

-- each record is dealt out once
pub dealt_once : (count maps : ℕ) → 1 ≤ maps → HoldEachOnce count (dynamic_bundles count maps)
dealt_once count maps some x =
    let c = dynamic_count count maps in
    times-dealt x (x % c) (times x (numbers count)) (leaving count c) (λ j. times-filter (λ k. k % c == j) x (numbers count)) 0 c
    ∙ dealt_all count c (x % c) (times x (numbers count)) x (times-numbers x count) (λ below. mod_below x c (omega arith))
