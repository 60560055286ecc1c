-- What lists have that were put together, mapped, turned round and filtered.
use Rattle.std.proofs.Common.{◌≡◌, ◌⊎◌, inl, inr, ⊎_elim, List, [], ◌∷◌, ◌++◌, Bool, true, false, cond, Option, Some, None, map, reverse, refl, sym, ◌∙◌, ap, subst}
use Rattle.std.specs.List.{filter, filter_map, list_any}
use Rattle.std.proofs.lemmas.Bool.{or_cases, or_left, or_right}
use Rattle.std.proofs.lemmas.List.{reverse-append}
use Rattle.dc_report.specs.Carrying.{Has}
use Rattle.dc_report.proofs.Sorting.{IsSorted}

-- ---- put together, mapped and turned round
pub has_left : {X : Type 0} (xs ys : List X) (x : X) → Has xs x → Has (xs ++ ys) x
has_left [] ys x h = absurd h
has_left (y ∷ xs) ys x (inl e) = inl e
has_left (y ∷ xs) ys x (inr h) = inr (has_left xs ys x h)

pub has_right : {X : Type 0} (xs ys : List X) (x : X) → Has ys x → Has (xs ++ ys) x
has_right [] ys x h = h
has_right (y ∷ xs) ys x h = inr (has_right xs ys x h)

pub has_either : {X : Type 0} (xs ys : List X) (x : X) → Has (xs ++ ys) x → Has xs x ⊎ Has ys x
has_either [] ys x h = inr h
has_either (y ∷ xs) ys x (inl e) = inl (inl e)
has_either (y ∷ xs) ys x (inr h) = ⊎_elim (λ k. inl (inr k)) (λ k. inr k) (has_either xs ys x h)

pub has_map : {X Y : Type 0} (f : X → Y) (xs : List X) (x : X) → Has xs x → Has (map f xs) (f x)
has_map f [] x h = absurd h
has_map f (y ∷ xs) x (inl e) = inl (ap f e)
has_map f (y ∷ xs) x (inr h) = inr (has_map f xs x h)

pub map_has : {X Y : Type 0} (f : X → Y) (xs : List X) (y : Y) → Has (map f xs) y → (x : X) × Has xs x × (y ≡ f x)
map_has f [] y h = absurd h
map_has f (x ∷ xs) y (inl e) = (x, inl refl, e)
map_has f (x ∷ xs) y (inr h) = let k = map_has f xs y h in (k.0, inr k.1, k.2)

pub has_reverse : {X : Type 0} (xs : List X) (x : X) → Has xs x → Has (reverse xs) x
has_reverse [] x h = h
has_reverse (y ∷ xs) x (inl e) = subst (λ (l : List _). Has l x) (sym (reverse-append (y ∷ []) xs)) (has_right (reverse xs) (y ∷ []) x (inl e))
has_reverse (y ∷ xs) x (inr h) = subst (λ (l : List _). Has l x) (sym (reverse-append (y ∷ []) xs)) (has_left (reverse xs) (y ∷ []) x (has_reverse xs x h))

pub reverse_has : {X : Type 0} (xs : List X) (x : X) → Has (reverse xs) x → Has xs x
reverse_has [] x h = h
reverse_has (y ∷ xs) x h = ⊎_elim (λ k. inr (reverse_has xs x k)) (λ k. ⊎_elim (λ e. inl e) (λ n. absurd n) k)
    (has_either (reverse xs) (y ∷ []) x (subst (λ (l : List _). Has l x) (reverse-append (y ∷ []) xs) h))

-- ---- what a test or a map finds
-- an item that passes
pub has_any : {X : Type 0} (f : X → Bool) (xs : List X) (x : X) → Has xs x → f x ≡ true → list_any f xs ≡ true
has_any f [] x h e = absurd h
has_any f (y ∷ xs) x (inl i) e = or_left (f y) (list_any f xs) (ap f (sym i) ∙ e)
has_any f (y ∷ xs) x (inr h) e = or_right (f y) (list_any f xs) (has_any f xs x h e)

pub any_has : {X : Type 0} (f : X → Bool) (xs : List X) → list_any f xs ≡ true → (x : X) × Has xs x × (f x ≡ true)
any_has f [] e = absurd (cc)
any_has f (y ∷ xs) e = ⊎_elim (λ k. (y, inl refl, k)) (λ k. let r = any_has f xs k in (r.0, inr r.1, r.2)) (or_cases (f y) (list_any f xs) e)

-- an item that gives one
pub has_filter_map : {X Y : Type 0} (f : X → Option Y) (xs : List X) (x : X) (y : Y) → Has xs x → f x ≡ Some y → Has (filter_map f xs) y
has_filter_map f [] x y h e = absurd h
has_filter_map {X} {Y} f (z ∷ xs) x y (inl i) e = let k : f z ≡ Some y = ap f (sym i) ∙ e in rw k (inl refl)
has_filter_map {X} {Y} f (z ∷ xs) x y (inr h) e = after_one (f z) refl (has_filter_map f xs x y h e)
  where
    after_one : (o : Option Y) → f z ≡ o → Has (filter_map f xs) y → Has (filter_map f (z ∷ xs)) y
    after_one None k g = rw k g
    after_one (Some w) k g = rw k (inr g)

pub filter_map_has : {X Y : Type 0} (f : X → Option Y) (xs : List X) (y : Y) → Has (filter_map f xs) y → (x : X) × Has xs x × (f x ≡ Some y)
filter_map_has f [] y h = absurd h
filter_map_has {X} {Y} f (z ∷ xs) y h = by_first (f z) refl h (filter_map_has f xs y)
  where
    later : (x : X) × Has xs x × (f x ≡ Some y) → (x : X) × Has (z ∷ xs) x × (f x ≡ Some y)
    later r = (r.0, inr r.1, r.2)

    by_first : (o : Option Y) → f z ≡ o → Has (filter_map f (z ∷ xs)) y → (Has (filter_map f xs) y → (x : X) × Has xs x × (f x ≡ Some y)) → (x : X) × Has (z ∷ xs) x × (f x ≡ Some y)
    by_first None k g ih = later (ih (rw k at g))
    by_first (Some w) k g ih = let c : (y ≡ w) ⊎ Has (filter_map f xs) y = rw k at g in ⊎_elim (λ e. (z, inl refl, k ∙ ap Some (sym e))) (λ e. later (ih e)) c

-- ---- filtered
filter_cons : {X : Type 0} (b : Bool) (x y : X) (ys xs : List X) → (Has ys y → Has xs y) → Has (cond b (x ∷ ys) ys) y → (y ≡ x) ⊎ Has xs y
filter_cons true x y ys xs ih (inl e) = inl e
filter_cons true x y ys xs ih (inr k) = inr (ih k)
filter_cons false x y ys xs ih k = inr (ih k)

pub filter_from : {X : Type 0} (f : X → Bool) (xs : List X) (y : X) → Has (filter f xs) y → Has xs y
filter_from f [] y h = h
filter_from f (x ∷ xs) y h = filter_cons (f x) x y (filter f xs) xs (filter_from f xs y) h

keep_cons : {X : Type 0} (b : Bool) (x y : X) (ys : List X) → Has ys y → Has (cond b (x ∷ ys) ys) y
keep_cons true x y ys h = inr h
keep_cons false x y ys h = h

pub has_filter : {X : Type 0} (f : X → Bool) (xs : List X) (y : X) → Has xs y → f y ≡ true → Has (filter f xs) y
has_filter f [] y h e = h
has_filter f (x ∷ xs) y (inl i) e = rw (← i, e) (inl refl)
has_filter f (x ∷ xs) y (inr h) e = keep_cons (f x) x y (filter f xs) (has_filter f xs y h e)

sorted_cons : {X : Type 0} (lt : X → X → Bool) (b : Bool) (x : X) (ys : List X) → ((y : X) → Has ys y → lt x y ≡ true) → IsSorted lt ys → IsSorted lt (cond b (x ∷ ys) ys)
sorted_cons lt true x ys h s = (h, s)
sorted_cons lt false x ys h s = s

pub filter_sorted : {X : Type 0} (lt : X → X → Bool) (f : X → Bool) (xs : List X) → IsSorted lt xs → IsSorted lt (filter f xs)
filter_sorted lt f [] s = tt
filter_sorted lt f (x ∷ xs) s = sorted_cons lt (f x) x (filter f xs) (λ y h. s.0 y (filter_from f xs y h)) (filter_sorted lt f xs s.1)

filter_head : {X : Type 0} (f : X → Bool) (x y : X) (ys : List X) (b : Bool) → f x ≡ b → Has (cond b (x ∷ ys) ys) y → (Has ys y → f y ≡ true) → f y ≡ true
filter_head f x y ys true e (inl i) ih = rw i e
filter_head f x y ys true e (inr k) ih = ih k
filter_head f x y ys false e k ih = ih k

pub filter_true : {X : Type 0} (f : X → Bool) (xs : List X) (y : X) → Has (filter f xs) y → f y ≡ true
filter_true f [] y h = absurd h
filter_true f (x ∷ xs) y h = filter_head f x y (filter f xs) (f x) refl h (filter_true f xs y)
