-- The first item with a path.
use Rattle.std.proofs.Common.{◌≡◌, List, [], ◌∷◌, ◌++◌, Bool, true, false, cond, Option, Some, None, map, refl, arith, ap, ◌&&◌, ◌∙◌, is_some, ◌||◌, filter, subst, ℕ, ◌+◌, sym}
use Rattle.std.specs.List.{list_all, list_any, sum_by}
use Rattle.dc_path.specs.Found.{found}
use Rattle.dc_path.specs.Order.{path_lt, is_ascending}
use Rattle.dc_path.specs.Paths.{Names, same_path, cut}
use Rattle.dc_path.proofs.OrderLemmas.{path_lt-apart}
use Rattle.dc_path.proofs.PathLemmas.{same_path-cut, same_path-not_below, same_path-flip, same_path-true, same_path-refl}
use Rattle.dc_path.proofs.PathOrder.{path_lt-below}
use Rattle.std.specs.Option.{option_map}
use Rattle.std.proofs.lemmas.Bool.{and_from}
use Rattle.std.specs.Cmp.{first_so, second_so}
use Rattle.std.proofs.lemmas.List.Sums.{sum_by-cons}

-- the first of two, where there is one
abbrev pub or_found : {A : Type 0} → Option A → Option A → Option A
or_found None other = other
or_found (Some x) other = Some x

-- one step of the search
push_at : {A : Type 0} (b : Bool) (y : A) (o w : Option A) (v : Option A) → w ≡ or_found o v → cond b (Some y) w ≡ or_found (cond b (Some y) o) v
push_at true y o w v h = refl
push_at false y o w v h = h

-- in a list with one item more, what is found is what was found before, else that item
pub found-push : {A : Type 0} (path_of : A → Names) (xs : List A) (x : A) (q : Names) → found path_of (xs ++ x ∷ []) q ≡ or_found (found path_of xs q) (cond (same_path (path_of x) q) (Some x) None)
found-push path_of [] x q = refl
found-push path_of (y ∷ xs) x q = push_at (same_path (path_of y) q) y (found path_of xs q) _ _ (found-push path_of xs x q)

-- a path that comes before all of them is not found
pub found-before : {A : Type 0} (path_of : A → Names) (xs : List A) (p : Names) → list_all (path_lt p) (map path_of xs) ≡ true → found path_of xs p ≡ None
found-before path_of [] p h = refl
found-before path_of (x ∷ xs) p h = let ih = found-before path_of xs p in let no = path_lt-apart p (path_of x) in grind (arith, ih, no)

-- ---- a list whose paths stand under a front

-- a list whose paths are these, each under the front
above-below : {A B : Type 0} (path_in : B → Names) (rel_in : A → Names) (make : A → B) (front p : Names) → ((x : A) → path_in (make x) ≡ front ++ rel_in x) → (xs : List A) → list_all (path_lt (front ++ p)) (map path_in (map make xs)) ≡ list_all (path_lt p) (map rel_in xs)
above-below path_in rel_in make front p h [] = refl
above-below path_in rel_in make front p h (x ∷ xs) =
    ap (λ q. path_lt (front ++ p) q && list_all (path_lt (front ++ p)) (map path_in (map make xs))) (h x)
    ∙ ap (λ b. b && list_all (path_lt (front ++ p)) (map path_in (map make xs))) (path_lt-below front p (rel_in x))
    ∙ ap (λ b. path_lt p (rel_in x) && b) (above-below path_in rel_in make front p h xs)

pub ascending-below : {A B : Type 0} (path_in : B → Names) (rel_in : A → Names) (make : A → B) (front : Names) → ((x : A) → path_in (make x) ≡ front ++ rel_in x) → (xs : List A) → is_ascending (map path_in (map make xs)) ≡ is_ascending (map rel_in xs)
ascending-below path_in rel_in make front h [] = refl
ascending-below path_in rel_in make front h (x ∷ xs) =
    ap (λ q. list_all (path_lt q) (map path_in (map make xs)) && is_ascending (map path_in (map make xs))) (h x)
    ∙ ap (λ b. b && is_ascending (map path_in (map make xs))) (above-below path_in rel_in make front (rel_in x) h xs)
    ∙ ap (λ b. list_all (path_lt (rel_in x)) (map rel_in xs) && b) (ascending-below path_in rel_in make front h xs)

below_one : {A B : Type 0} (make : A → B) (x : A) (o : Option A) (w : Option B) (b : Bool) → w ≡ option_map make o → cond b (Some (make x)) w ≡ option_map make (cond b (Some x) o)
below_one make x o w true h = refl
below_one make x o w false h = h

pub found-below : {A B : Type 0} (path_in : B → Names) (rel_in : A → Names) (make : A → B) (front : Names) → ((x : A) → path_in (make x) ≡ front ++ rel_in x) → (xs : List A) (p r : Names) → cut front p ≡ Some r → found path_in (map make xs) p ≡ option_map make (found rel_in xs r)
found-below path_in rel_in make front h [] p r e = refl
found-below path_in rel_in make front h (x ∷ xs) p r e =
    ap (λ q. cond (same_path q p) (Some (make x)) (found path_in (map make xs) p)) (h x)
    ∙ ap (λ b. cond b (Some (make x)) (found path_in (map make xs) p)) (same_path-cut front (rel_in x) p r e)
    ∙ below_one make x (found rel_in xs r) (found path_in (map make xs) p) (same_path (rel_in x) r) (found-below path_in rel_in make front h xs p r e)

pub found-not_below : {A B : Type 0} (path_in : B → Names) (rel_in : A → Names) (make : A → B) (front : Names) → ((x : A) → path_in (make x) ≡ front ++ rel_in x) → (xs : List A) (p : Names) → cut front p ≡ None → found path_in (map make xs) p ≡ None
found-not_below path_in rel_in make front h [] p e = refl
found-not_below path_in rel_in make front h (x ∷ xs) p e =
    ap (λ q. cond (same_path q p) (Some (make x)) (found path_in (map make xs) p)) (h x)
    ∙ ap (λ b. cond b (Some (make x)) (found path_in (map make xs) p)) (same_path-not_below front (rel_in x) p e)
    ∙ found-not_below path_in rel_in make front h xs p e

-- ---- a path that is found is in the list

or_some : {A : Type 0} (x : A) (o : Option A) (a b c : Bool) → a ≡ b → c ≡ is_some o → (a || c) ≡ is_some (cond b (Some x) o)
or_some x o a true c e h = ap (λ b. b || c) e
or_some x o a false c e h = ap (λ b. b || c) e ∙ h

pub any-found : {A : Type 0} (path_in : A → Names) (xs : List A) (q : Names) → list_any (same_path q) (map path_in xs) ≡ is_some (found path_in xs q)
any-found path_in [] q = refl
any-found path_in (x ∷ xs) q = or_some x (found path_in xs q) (same_path q (path_in x)) (same_path (path_in x) q) (list_any (same_path q) (map path_in xs)) (same_path-flip q (path_in x)) (any-found path_in xs q)

-- ---- the part of a list that passes a test

-- what is found in the part that passes a test
abbrev pub kept : {A : Type 0} → (A → Bool) → Option A → Option A
kept test None = None
kept test (Some x) = cond (test x) (Some x) None

above_one : {A : Type 0} (path_of : A → Names) (p : Names) (x : A) (xs : List A) (b : Bool) → path_lt p (path_of x) ≡ true → list_all (path_lt p) (map path_of xs) ≡ true → list_all (path_lt p) (map path_of (cond b (x ∷ xs) xs)) ≡ true
above_one path_of p x xs true here h = and_from _ _ here h
above_one path_of p x xs false here h = h

above-filter : {A : Type 0} (path_of : A → Names) (test : A → Bool) (p : Names) (xs : List A) → list_all (path_lt p) (map path_of xs) ≡ true → list_all (path_lt p) (map path_of (filter test xs)) ≡ true
above-filter path_of test p [] h = refl
above-filter path_of test p (x ∷ xs) h = above_one path_of p x (filter test xs) (test x) (first_so _ _ h) (above-filter path_of test p xs (second_so _ _ h))

ascending_one : {A : Type 0} (path_of : A → Names) (x : A) (xs : List A) (b : Bool) → list_all (path_lt (path_of x)) (map path_of xs) ≡ true → is_ascending (map path_of xs) ≡ true → is_ascending (map path_of (cond b (x ∷ xs) xs)) ≡ true
ascending_one path_of x xs true here h = and_from _ _ here h
ascending_one path_of x xs false here h = h

pub ascending-filter : {A : Type 0} (path_of : A → Names) (test : A → Bool) (xs : List A) → is_ascending (map path_of xs) ≡ true → is_ascending (map path_of (filter test xs)) ≡ true
ascending-filter path_of test [] h = refl
ascending-filter path_of test (x ∷ xs) h = ascending_one path_of x (filter test xs) (test x) (above-filter path_of test (path_of x) xs (first_so _ _ h)) (ascending-filter path_of test xs (second_so _ _ h))

found_one : {A : Type 0} (path_of : A → Names) (test : A → Bool) (x : A) (part all : List A) (q : Names) (b c : Bool) → (b ≡ true → found path_of all q ≡ None) → found path_of part q ≡ kept test (found path_of all q) → test x ≡ c → same_path (path_of x) q ≡ b → found path_of (cond c (x ∷ part) part) q ≡ kept test (cond b (Some x) (found path_of all q))
found_one path_of test x part all q true true once ih e f = rw (f, e) refl
found_one path_of test x part all q true false once ih e f = ih ∙ ap (kept test) (once refl) ∙ rw e refl
found_one path_of test x part all q false true once ih e f = rw f ih
found_one path_of test x part all q false false once ih e f = ih

-- an item's own path is not found behind it
pub found-once : {A : Type 0} (path_of : A → Names) (x : A) (xs : List A) (q : Names) → is_ascending (map path_of (x ∷ xs)) ≡ true → same_path (path_of x) q ≡ true → found path_of xs q ≡ None
found-once path_of x xs q a e = found-before path_of xs q (subst (λ (p : Names). list_all (path_lt p) (map path_of xs) ≡ true) (same_path-true (path_of x) q e) (first_so _ _ a))

pub found-filter : {A : Type 0} (path_of : A → Names) (test : A → Bool) (xs : List A) (q : Names) → is_ascending (map path_of xs) ≡ true → found path_of (filter test xs) q ≡ kept test (found path_of xs q)
found-filter path_of test [] q a = refl
found-filter path_of test (x ∷ xs) q a = found_one path_of test x (filter test xs) xs q (same_path (path_of x) q) (test x) (found-once path_of x xs q a) (found-filter path_of test xs q (second_so _ _ a)) refl refl

-- what is found passes the test that all pass
passes_one : {A : Type 0} (test : A → Bool) (y x : A) (o : Option A) (b : Bool) → test y ≡ true → (o ≡ Some x → test x ≡ true) → cond b (Some y) o ≡ Some x → test x ≡ true
passes_one {A} test y x o true h ih e = let i : y ≡ x = cc in subst (λ (z : A). test z ≡ true) i h
passes_one test y x o false h ih e = ih e

pub found_passes : {A : Type 0} (path_of : A → Names) (test : A → Bool) (xs : List A) (q : Names) (x : A) → list_all test xs ≡ true → found path_of xs q ≡ Some x → test x ≡ true
found_passes path_of test [] q x h e = absurd (cc)
found_passes path_of test (y ∷ xs) q x h e = passes_one test y x (found path_of xs q) (same_path (path_of y) q) (first_so _ _ h) (found_passes path_of test xs q x (second_so _ _ h)) e

-- ---- sums over a list in which each item is found

found_behind : {A : Type 0} (path_in : A → Names) (x y : A) (xs : List A) (q : Names) (b : Bool) → (b ≡ true → found path_in xs q ≡ None) → found path_in xs q ≡ Some y → cond b (Some x) (found path_in xs q) ≡ Some y
found_behind path_in x y xs q true once e = let n : found path_in xs q ≡ None = once refl in cc
found_behind path_in x y xs q false once e = e

pub sum_by-found : {A : Type 0} (path_in : A → Names) (f g : A → ℕ) (xs : List A) → is_ascending (map path_in xs) ≡ true → ((q : Names) (x : A) → found path_in xs q ≡ Some x → f x ≡ g x) → sum_by f xs ≡ sum_by g xs
sum_by-found path_in f g [] a h = refl
sum_by-found path_in f g (x ∷ xs) a h =
    let here : f x ≡ g x = h (path_in x) x (ap (λ b. cond b (Some x) (found path_in xs (path_in x))) (same_path-refl (path_in x))) in
    let rest = sum_by-found path_in f g xs (second_so _ _ a) (λ q y e. h q y (found_behind path_in x y xs q (same_path (path_in x) q) (found-once path_in x xs q a) e)) in
    sum_by-cons f x xs ∙ ap (λ n. n + sum_by f xs) here ∙ ap (λ n. g x + n) rest ∙ sym (sum_by-cons g x xs)
