-- Sums over lists and over the numbers below a bound.
use Rattle.std.proofs.Common.{◌≡◌, ◌≢◌, ◌⊎◌, inl, inr, ◌==◌, ℕ, zero, suc, ◌+◌, ◌<◌, ◌≤◌, Bool, true, false, cond, List, [], ◌∷◌, length, get_or, All, count_by, sum_by, refl, sym, ap, ◌∙◌, subst, ⊎_elim, arith}
use Rattle.std.specs.List.{Contains}
use Rattle.std.proofs.lemmas.Bool.{cases_lt}
use Rattle.std.proofs.lemmas.Bool.Decides.{nat_tests}
use Rattle.std.proofs.lemmas.List.Sums.{sum_by-cons}
use Rattle.std.proofs.lemmas.List.Elements.{All-head, All-tail, All-weaker, All-contains_itself}
use Rattle.dc_pool.specs.Drawing.{weight_below}
use Rattle.dc_split.specs.Bundles.{times, once_below}
use Rattle.dc_pool.proofs.Numbers.{once_there, below_from_once}

pub below_add : (f g : ℕ → ℕ) (k : ℕ) → weight_below (λ x. f x + g x) k ≡ weight_below f k + weight_below g k
below_add f g zero = refl
below_add f g (suc k) = omega (arith, below_add f g k)

pub below_same : (f g : ℕ → ℕ) (k : ℕ) → ((x : ℕ) → x < k → f x ≡ g x) → weight_below f k ≡ weight_below g k
below_same f g zero e = refl
below_same f g (suc k) e = let i = below_same f g k (λ x h. e x (omega arith)) in let j = e k (omega arith) in omega arith

pub below_le : (f g : ℕ → ℕ) (k : ℕ) → ((x : ℕ) → x < k → f x ≤ g x) → weight_below f k ≤ weight_below g k
below_le f g zero e = omega arith
below_le f g (suc k) e = let i = below_le f g k (λ x h. e x (omega arith)) in let j = e k (omega arith) in omega arith

pub below_strict : (f g : ℕ → ℕ) (k p : ℕ) → ((x : ℕ) → x < k → f x ≤ g x) → p < k → f p < g p → weight_below f k < weight_below g k
below_strict f g zero p e h s = absurd (omega arith)
below_strict f g (suc k) p e h s = ⊎_elim
    (λ (l : p < k). let i = below_strict f g k p (λ x h. e x (omega arith)) l s in let j = e k (omega arith) in omega arith)
    (λ (r : k ≤ p). let q : p ≡ k = omega arith in let t : f k < g k = subst (λ (n : ℕ). f n < g n) q s in let i = below_le f g k (λ x h. e x (omega arith)) in omega arith)
    (cases_lt p k)

cold : (y k v : ℕ) → k ≤ y → weight_below (λ x. cond (y == x) v 0) k ≡ 0
cold y zero v h = refl
cold y (suc k) v h = let i = cold y k v (omega arith) in let z : cond {A = ℕ} (y == k) v 0 ≡ 0 = grind (arith, nat_tests) in omega arith

hot : (y k v : ℕ) → y < k → weight_below (λ x. cond (y == x) v 0) k ≡ v
hot y zero v h = absurd (omega arith)
hot y (suc k) v h = ⊎_elim
    (λ (l : y < k). let i = hot y k v l in let z : cond {A = ℕ} (y == k) v 0 ≡ 0 = grind (arith, nat_tests) in omega arith)
    (λ (r : k ≤ y). let i = cold y k v r in let q : y ≡ k = omega arith in let z : cond {A = ℕ} (y == k) v 0 ≡ v = grind (arith, nat_tests) in omega arith)
    (cases_lt y k)

pub zeros : (k : ℕ) → weight_below (λ x. 0) k ≡ 0
zeros zero = refl
zeros (suc k) = omega (arith, zeros k)

-- a sum over a list, sorted by a number of each item
pub sort_by : {X : Type 0} (f g : X → ℕ) (k : ℕ) (xs : List X) → All (λ y. f y < k) xs → sum_by g xs ≡ weight_below (λ x. sum_by (λ y. cond (f y == x) (g y) 0) xs) k
sort_by f g k [] h = sym (zeros k)
sort_by {X} f g k (y ∷ ys) h =
    let i = sort_by f g k ys (All-tail (λ y. f y < k) y ys h) in
    let a = sum_by-cons g y ys in
    let b = below_same (λ x. sum_by (λ (y : X). cond (f y == x) (g y) 0) (y ∷ ys)) (λ x. cond (f y == x) (g y) 0 + sum_by (λ (y : X). cond (f y == x) (g y) 0) ys) k (λ x _. sum_by-cons (λ (y : X). cond (f y == x) (g y) 0) y ys) in
    let c = below_add (λ x. cond (f y == x) (g y) 0) (λ x. sum_by (λ (y : X). cond (f y == x) (g y) 0) ys) k in
    let d = hot (f y) k (g y) (All-head (λ y. f y < k) y ys h) in
    omega arith

pub same_or_not : (y x : ℕ) → (y ≡ x) ⊎ (y ≢ x)
same_or_not y x = ⊎_elim (λ (l : y < x). inr (omega arith)) (λ (r : x ≤ y). ⊎_elim (λ (l : x < y). inr (omega arith)) (λ (q : y ≤ x). inl (omega arith)) (cases_lt x y)) (cases_lt y x)

one_below : (k x : ℕ) → x < k → once_below k x ≡ 1
one_below k x h = grind (arith, nat_tests)

pick_none : (g : ℕ → ℕ) (x : ℕ) (xs : List ℕ) → times x xs ≡ 0 → sum_by (λ y. cond (y == x) (g y) 0) xs ≡ 0
pick_none g x [] h = refl
pick_none g x (y ∷ ys) h =
    let a = sum_by-cons (λ (y : ℕ). cond {A = ℕ} (y == x) 1 0) y ys in
    let b = sum_by-cons (λ (y : ℕ). cond {A = ℕ} (y == x) (g y) 0) y ys in
    let i = pick_none g x ys (omega arith) in
    let z : cond {A = ℕ} (y == x) 1 0 ≡ 0 = omega arith in
    let w : cond {A = ℕ} (y == x) (g y) 0 ≡ 0 = grind (arith, nat_tests) in
    omega arith

pick_one : (g : ℕ → ℕ) (x : ℕ) (xs : List ℕ) → times x xs ≡ 1 → sum_by (λ y. cond (y == x) (g y) 0) xs ≡ g x
pick_one g x [] h = absurd (omega arith)
pick_one g x (y ∷ ys) h = ⊎_elim
    (λ (e : y ≡ x).
    let a = sum_by-cons (λ (y : ℕ). cond {A = ℕ} (y == x) 1 0) y ys in
    let b = sum_by-cons (λ (y : ℕ). cond {A = ℕ} (y == x) (g y) 0) y ys in
    let z : cond {A = ℕ} (y == x) 1 0 ≡ 1 = grind (arith, nat_tests) in
    let i = pick_none g x ys (omega arith) in
    let w : cond {A = ℕ} (y == x) (g y) 0 ≡ g y = grind (arith, nat_tests) in
    let v : g y ≡ g x = ap g e in
    omega arith)
    (λ (n : y ≢ x).
    let a = sum_by-cons (λ (y : ℕ). cond {A = ℕ} (y == x) 1 0) y ys in
    let b = sum_by-cons (λ (y : ℕ). cond {A = ℕ} (y == x) (g y) 0) y ys in
    let z : cond {A = ℕ} (y == x) 1 0 ≡ 0 = grind (arith, nat_tests) in
    let i = pick_one g x ys (omega arith) in
    let w : cond {A = ℕ} (y == x) (g y) 0 ≡ 0 = grind (arith, nat_tests) in
    omega arith)
    (same_or_not y x)

-- where each number below k stands once, a sum over the list is one over the numbers
pub sum_once : (k : ℕ) (all : List ℕ) (g : ℕ → ℕ) → ((x : ℕ) → times x all ≡ once_below k x) → sum_by g all ≡ weight_below g k
sum_once k all g once =
    sort_by (λ (y : ℕ). y) g k all (All-weaker (Contains all) (λ y. y < k) (λ n has. below_from_once k n (let t = once_there n all has in let e = once n in omega arith)) all (All-contains_itself all))
    ∙ below_same (λ x. sum_by (λ (y : ℕ). cond (y == x) (g y) 0) all) g k (λ x h. pick_one g x all (once x ∙ one_below k x h))

weigh_after : {X : Type 0} (F : X → ℕ) (d x : X) (xs : List X) (k : ℕ) → weight_below (λ n. F (get_or (x ∷ xs) n d)) (suc k) ≡ F x + weight_below (λ n. F (get_or xs n d)) k
weigh_after F d x xs zero = omega arith
weigh_after F d x xs (suc k) = omega (arith, weigh_after F d x xs k)

-- a sum over a list by its places
pub weigh_index : {X : Type 0} (F : X → ℕ) (d : X) (xs : List X) → weight_below (λ n. F (get_or xs n d)) (length xs) ≡ sum_by F xs
weigh_index F d [] = refl
weigh_index F d (x ∷ xs) = let a = weigh_after F d x xs (length xs) in let b = sum_by-cons F x xs in let i = weigh_index F d xs in omega arith

pub count_le : {X : Type 0} (p q : X → Bool) (xs : List X) → ((x : X) → cond {A = ℕ} (p x) 1 0 ≤ cond {A = ℕ} (q x) 1 0) → count_by p xs ≤ count_by q xs
count_le p q [] h = omega arith
count_le {X} p q (x ∷ xs) h =
    let a = sum_by-cons (λ (x : X). cond {A = ℕ} (p x) 1 0) x xs in let b = sum_by-cons (λ (x : X). cond {A = ℕ} (q x) 1 0) x xs in let i = count_le p q xs h in let j = h x in omega arith

pub count_strict : {X : Type 0} (p q : X → Bool) (xs : List X) (y : X) → ((x : X) → cond {A = ℕ} (p x) 1 0 ≤ cond {A = ℕ} (q x) 1 0) → Contains xs y → cond {A = ℕ} (p y) 1 0 < cond {A = ℕ} (q y) 1 0 → count_by p xs < count_by q xs
count_strict p q [] y h has s = absurd (omega (arith, has.1))
count_strict {X} p q (x ∷ xs) y h (zero, _, e) s =
    let a = sum_by-cons (λ (x : X). cond {A = ℕ} (p x) 1 0) x xs in let b = sum_by-cons (λ (x : X). cond {A = ℕ} (q x) 1 0) x xs in let i = count_le p q xs h in
    let t : cond {A = ℕ} (p x) 1 0 < cond {A = ℕ} (q x) 1 0 = subst (λ (x : X). cond {A = ℕ} (p x) 1 0 < cond {A = ℕ} (q x) 1 0) (sym e) s in omega arith
count_strict {X} p q (x ∷ xs) y h (suc i, l, e) s =
    let a = sum_by-cons (λ (x : X). cond {A = ℕ} (p x) 1 0) x xs in let b = sum_by-cons (λ (x : X). cond {A = ℕ} (q x) 1 0) x xs in let r = count_strict p q xs y h (i, omega arith, e) s in let j = h x in omega arith

cond_zero : (b : Bool) (v : ℕ) → v ≡ 0 → cond b v 0 ≡ 0
cond_zero true v e = e
cond_zero false v e = refl

zero_below : (f : ℕ → ℕ) (k : ℕ) → ((x : ℕ) → f x ≡ 0) → weight_below f k ≡ 0
zero_below f zero z = refl
zero_below f (suc k) z = let i = zero_below f k z in let j = z k in omega arith

-- the same as sort_by, where an item with no place below the bound weighs nothing
pub sort_some : {X : Type 0} (f g : X → ℕ) (k : ℕ) (xs : List X) → ((y : X) → (f y < k) ⊎ (g y ≡ 0)) → sum_by g xs ≡ weight_below (λ x. sum_by (λ y. cond (f y == x) (g y) 0) xs) k
sort_some f g k [] h = sym (zeros k)
sort_some {X} f g k (y ∷ ys) h =
    let i = sort_some f g k ys h in
    let a = sum_by-cons g y ys in
    let b = below_same (λ x. sum_by (λ (y : X). cond (f y == x) (g y) 0) (y ∷ ys)) (λ x. cond (f y == x) (g y) 0 + sum_by (λ (y : X). cond (f y == x) (g y) 0) ys) k (λ x _. sum_by-cons (λ (y : X). cond (f y == x) (g y) 0) y ys) in
    let c = below_add (λ x. cond (f y == x) (g y) 0) (λ x. sum_by (λ (y : X). cond (f y == x) (g y) 0) ys) k in
    let d : weight_below (λ x. cond (f y == x) (g y) 0) k ≡ g y = ⊎_elim (λ (l : f y < k). hot (f y) k (g y) l) (λ (z : g y ≡ 0). zero_below (λ x. cond (f y == x) (g y) 0) k (λ x. cond_zero (f y == x) (g y) z) ∙ sym z) (h y) in
    omega arith

pub hot_le : (y k v : ℕ) → weight_below (λ x. cond (y == x) v 0) k ≤ v
hot_le y k v = ⊎_elim (λ (l : y < k). let e = hot y k v l in omega arith) (λ (r : k ≤ y). let e = cold y k v r in omega arith) (cases_lt y k)

pub count_below : (k : ℕ) → weight_below (λ _. 1) k ≡ k
count_below zero = refl
count_below (suc k) = let i = count_below k in omega arith
