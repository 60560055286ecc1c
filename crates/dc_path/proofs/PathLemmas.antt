-- Names and paths as lists: what is cut from them, where they end, when they are the same.
use Rattle.std.proofs.Common.{◌≡◌, ℕ, List, [], ◌∷◌, ◌++◌, Bool, true, false, cond, Some, None, length, refl, sym, ◌∙◌, ap, subst, arith, append_assoc, ◌⊎◌, inl, inr, length-append}
use Rattle.std.proofs.lemmas.List.{append-nil}
use Rattle.std.specs.Bool.{Decides}
use Rattle.std.specs.Cmp.Lexicographic.{bytes_decides, pointwise_decides, lists_ties, slice_cmp, texts_ties}
use Rattle.std.specs.Option.{is_some}
use Rattle.std.specs.List.{starts_with}
use Rattle.std.proofs.Common.{nat_eq, ◌&&◌, take, drop, ◌-◌, slice_get, zero, suc, Option}
use Rattle.std.specs.Cmp.Lexicographic.{pointwise}
use Rattle.dc_path.specs.Names.{same_name}
use Rattle.dc_path.specs.Paths.{Names, same_path, cut, is_under, front_of, path_cmp, parent_of, at_cut, is_root}
use Rattle.std.proofs.lemmas.Bool.Decides.{nat_tests}
use Rattle.std.specs.Ordering.{is_eq, nat_cmp}

-- ---- names and paths that are the same
pub name_decides : (x y : List ℕ) → Decides (same_name x y) (x ≡ y)
name_decides = bytes_decides

pub path_decides : (p q : List (List ℕ)) → Decides (same_path p q) (p ≡ q)
path_decides = pointwise_decides bytes_decides

-- two names are the same, or they are not
pub data NameCase (x y : List ℕ) : Type 0 where
  same : same_name x y ≡ true → x ≡ y → NameCase x y
  other : same_name x y ≡ false → (x ≡ y → ⊥) → NameCase x y

name_case_at : (x y : List ℕ) (b : Bool) → same_name x y ≡ b → NameCase x y
name_case_at x y true e = same e ((name_decides x y).0 e)
name_case_at x y false e = other e (λ h. let f : same_name x y ≡ true = (name_decides x y).1 h in cc)

pub name_case : (x y : List ℕ) → NameCase x y
name_case x y = name_case_at x y (same_name x y) refl

pub same_name-refl : (x : List ℕ) → same_name x x ≡ true
same_name-refl x = (name_decides x x).1 refl

-- ---- what is cut from a path
-- what follows a front is cut off
pub cut-append : (d r : List (List ℕ)) → cut d (d ++ r) ≡ Some r
cut-append [] r = refl
cut-append (x ∷ d) r = rw (same_name-refl x) (cut-append d r)

append-cut_at : (x y : List ℕ) (d q r : List (List ℕ)) → NameCase x y → (cut d q ≡ Some r → q ≡ d ++ r) → cond (same_name x y) (cut d q) None ≡ Some r → y ∷ q ≡ x ∷ (d ++ r)
append-cut_at x y d q r (same e h) ih c = let k : q ≡ d ++ r = ih (sym (ap (λ b. cond b (cut d q) None) e) ∙ c) in cc
append-cut_at x y d q r (other e h) ih c = let k : cond (same_name x y) (cut d q) None ≡ None = ap (λ b. cond b (cut d q) None) e in cc

-- what is cut from a path, with the front before it, is the path
pub append-cut : (d q r : List (List ℕ)) → cut d q ≡ Some r → q ≡ d ++ r
append-cut [] q r e = cc
append-cut (x ∷ d) [] r e = cc
append-cut (x ∷ d) (y ∷ q) r e = append-cut_at x y d q r (name_case x y) (append-cut d q r) e

-- a name more at the end
pub cut_more : (d q r : List (List ℕ)) (x : List ℕ) → cut d q ≡ Some r → cut d (q ++ x ∷ []) ≡ Some (r ++ x ∷ [])
cut_more d q r x e = rw (append-cut d q r e, append_assoc) (cut-append d (r ++ x ∷ []))

-- a front that a name more does not make one, unless the path is that front now
cut_none_at : (z w : List ℕ) (d q : List (List ℕ)) (x : List ℕ) → NameCase z w → (cut d q ≡ None → (cut d (q ++ x ∷ []) ≡ None) ⊎ (d ≡ q ++ x ∷ [])) → cond (same_name z w) (cut d q) None ≡ None → (cond (same_name z w) (cut d (q ++ x ∷ [])) None ≡ None) ⊎ (z ∷ d ≡ w ∷ (q ++ x ∷ []))
cut_none_at z w d q x (same e h) ih c =
    elim (ih (sym (ap (λ b. cond b (cut d q) None) e) ∙ c)) [ inl k ↦ inl (ap (λ b. cond b (cut d (q ++ x ∷ [])) None) e ∙ k) | inr k ↦ inr (cc) ]
cut_none_at z w d q x (other e h) ih c = inl (ap (λ b. cond b (cut d (q ++ x ∷ [])) None) e)

cut_one : (z x : List ℕ) (d : List (List ℕ)) → NameCase z x → (cond (same_name z x) (cut d []) None ≡ None) ⊎ (z ∷ d ≡ x ∷ [])
cut_one z x [] (same e h) = inr (cc)
cut_one z x (y ∷ d) (same e h) = inl (ap (λ b. cond b None None) e)
cut_one z x d (other e h) = inl (ap (λ b. cond b (cut d []) None) e)

pub cut_none : (d q : List (List ℕ)) (x : List ℕ) → cut d q ≡ None → (cut d (q ++ x ∷ []) ≡ None) ⊎ (d ≡ q ++ x ∷ [])
cut_none [] q x e = cc
cut_none (z ∷ d) [] x e = cut_one z x d (name_case z x)
cut_none (z ∷ d) (w ∷ q) x e = cut_none_at z w d q x (name_case z w) (cut_none d q x) e

-- nothing is cut from the root but the root
pub cut_of_nil : (p : List (List ℕ)) (x : List ℕ) → cut (p ++ x ∷ []) [] ≡ None
cut_of_nil [] x = refl
cut_of_nil (y ∷ p) x = refl

-- ---- an induction by the last name
from_front : (P : List (List ℕ) → Type 0) → ((p : List (List ℕ)) (x : List ℕ) → P p → P (p ++ x ∷ [])) → (front rest : List (List ℕ)) → P front → P (front ++ rest)
from_front P more front [] h = rw (append-nil front) h
from_front P more front (x ∷ rest) h = subst P (append_assoc front (x ∷ []) rest) (from_front P more (front ++ x ∷ []) rest (more front x h))

pub by_last_name : (P : List (List ℕ) → Type 0) → P [] → ((p : List (List ℕ)) (x : List ℕ) → P p → P (p ++ x ∷ [])) → (p : List (List ℕ)) → P p
by_last_name P start more p = from_front P more [] p start

-- the root, or a path with a last name
pub data Last (p : List (List ℕ)) : Type 0 where
  empty : p ≡ [] → Last p
  ended : (front : List (List ℕ)) (x : List ℕ) → p ≡ front ++ x ∷ [] → Last p

pub last_case : (p : List (List ℕ)) → Last p
last_case = by_last_name Last (empty refl) (λ p x h. ended p x refl)

-- ---- paths by their last name
pub nil_is_no_end : (p : List (List ℕ)) (x : List ℕ) → [] ≡ p ++ x ∷ [] → ⊥
nil_is_no_end p x e = let k : length {A = List ℕ} [] ≡ length (p ++ x ∷ []) = ap length e in let l = length-append p (x ∷ []) in omega (arith, k, l)

pub same_ends : (p q : List (List ℕ)) (x y : List ℕ) → p ++ x ∷ [] ≡ q ++ y ∷ [] → (p ≡ q) × (x ≡ y)
same_ends [] [] x y e = let h : x ≡ y = cc in (refl, h)
same_ends [] (w ∷ q) x y e = let h : [] ≡ q ++ y ∷ [] = cc in absurd (nil_is_no_end q y h)
same_ends (z ∷ p) [] x y e = let h : [] ≡ p ++ x ∷ [] = cc in absurd (nil_is_no_end p x h)
same_ends (z ∷ p) (w ∷ q) x y e =
    let h : p ++ x ∷ [] ≡ q ++ y ∷ [] = cc in
    let ih = same_ends p q x y h in
    let k : p ≡ q = ih.0 in
    let l : z ∷ p ≡ w ∷ q = cc in
    (l, ih.1)

-- a rest under a front is cut off by what is added to the front
pub not_longer : (p : List (List ℕ)) (x : List ℕ) (r : List (List ℕ)) → p ≡ (p ++ x ∷ []) ++ r → ⊥
not_longer p x r e = let k : length p ≡ length ((p ++ x ∷ []) ++ r) = ap length e in let l = length-append (p ++ x ∷ []) r in let m = length-append p (x ∷ []) in omega (arith, k, l, m)

-- ---- the same path, under a front
pub same_path-refl : (p : Names) → same_path p p ≡ true
same_path-refl p = (path_decides p p).1 refl

pub same_path-true : (p q : Names) → same_path p q ≡ true → p ≡ q
same_path-true p q = (path_decides p q).0

pub same_path-below : (d r q : Names) → same_path (d ++ r) (d ++ q) ≡ same_path r q
same_path-below [] r q = refl
same_path-below (x ∷ d) r q = rw (same_name-refl x) (same_path-below d r q)

pub same_path-cut : (d r q s : Names) → cut d q ≡ Some s → same_path (d ++ r) q ≡ same_path r s
same_path-cut d r q s e = rw (append-cut d q s e) (same_path-below d r s)

no_cut : (b c : Bool) (o : Option Names) → (o ≡ None → c ≡ false) → cond b o None ≡ None → (b && c) ≡ false
no_cut true c o h e = h e
no_cut false c o h e = refl

pub same_path-not_below : (d r q : Names) → cut d q ≡ None → same_path (d ++ r) q ≡ false
same_path-not_below [] r q e = cc
same_path-not_below (x ∷ d) r [] e = refl
same_path-not_below (x ∷ d) r (y ∷ q) e = no_cut (same_name x y) (same_path (d ++ r) q) (cut d q) (same_path-not_below d r q) e

-- ---- the rest of a path, by whether it is empty
abbrev pub at_end : Option Names → Bool
at_end None = false
at_end (Some []) = true
at_end (Some (x ∷ r)) = false

end_at : (b : Bool) (c : Bool) (o : Option Names) → c ≡ at_end o → (b && c) ≡ at_end (cond b o None)
end_at true c o h = h
end_at false c o h = refl

pub same_path-by_cut : (front q : Names) → same_path front q ≡ at_end (cut front q)
same_path-by_cut [] [] = refl
same_path-by_cut [] (y ∷ q) = refl
same_path-by_cut (x ∷ front) [] = refl
same_path-by_cut (x ∷ front) (y ∷ q) = end_at (same_name x y) (same_path front q) (cut front q) (same_path-by_cut front q)

-- a name more in the front
abbrev pub then_cut : List ℕ → Option Names → Option Names
then_cut x None = None
then_cut x (Some []) = None
then_cut x (Some (y ∷ r)) = cond (same_name x y) (Some r) None

then_at : (b : Bool) (x : List ℕ) (o w : Option Names) → o ≡ then_cut x w → cond b o None ≡ then_cut x (cond b w None)
then_at true x o w h = h
then_at false x o w h = refl

-- what is cut where the front has one name more
pub cut-child : (front : Names) (x : List ℕ) (q : Names) → cut (front ++ x ∷ []) q ≡ then_cut x (cut front q)
cut-child [] x [] = refl
cut-child [] x (y ∷ q) = refl
cut-child (z ∷ front) x [] = refl
cut-child (z ∷ front) x (y ∷ q) = then_at (same_name z y) x (cut (front ++ x ∷ []) q) (cut front q) (cut-child front x q)

-- ---- being under a front, as std tests it
under_at : (b c : Bool) (o : Option Names) → is_some o ≡ c → is_some (cond b o None) ≡ (b && c)
under_at true c o e = e
under_at false c o e = refl

-- the test by what is cut is std's test
pub is_under-starts_with : (front path : Names) → is_under front path ≡ starts_with (pointwise nat_eq) path front
is_under-starts_with [] path = refl
is_under-starts_with (x ∷ front) [] = refl
is_under-starts_with (x ∷ front) (y ∷ path) = under_at (same_name x y) (starts_with (pointwise nat_eq) path front) (cut front path) (is_under-starts_with front path)

pub some_rest : (o : Option Names) → is_some o ≡ true → (r : Names) × (o ≡ Some r)
some_rest None e = cc
some_rest (Some r) e = (r, refl)

pub no_rest : (o : Option Names) → is_some o ≡ false → o ≡ None
no_rest None e = refl
no_rest (Some r) e = cc

drop_front : (d r : Names) → drop (length d) (d ++ r) ≡ r
drop_front [] r = refl
drop_front (x ∷ d) r = drop_front d r

-- what is cut where the path begins with the front, and where it does not
pub cut-starts_with : (front path : Names) → starts_with (pointwise nat_eq) path front ≡ true → cut front path ≡ Some (drop (length front) path)
cut-starts_with front path h =
    let r = some_rest (cut front path) (is_under-starts_with front path ∙ h) in
    r.1 ∙ ap Some (sym (ap (drop (length front)) (append-cut front path r.0 r.1) ∙ drop_front front r.0))

pub cut-apart : (front path : Names) → starts_with (pointwise nat_eq) path front ≡ false → cut front path ≡ None
cut-apart front path h = no_rest (cut front path) (is_under-starts_with front path ∙ h)

-- ---- the front and the last name
take_front : (p : Names) (x : List ℕ) → take (length p) (p ++ x ∷ []) ≡ p
take_front [] x = refl
take_front (y ∷ p) x = ap (λ (q : Names). y ∷ q) (take_front p x)

-- the names but the last
pub front_of-append : (p : Names) (x : List ℕ) → front_of (p ++ x ∷ []) ≡ p
front_of-append p x =
    let l = length-append p (x ∷ []) in
    let n : length (p ++ x ∷ []) - 1 ≡ length p = omega (arith, l) in
    ap (λ n. take n (p ++ x ∷ [])) n ∙ take_front p x

ends_at : (p : Names) (x : List ℕ) (n : ℕ) → suc n ≡ length p → slice_get p n ≡ Some x → p ≡ take n p ++ x ∷ []
ends_at [] x n l e = cc
ends_at (y ∷ []) x zero l e = let h : y ≡ x = cc in ap (λ (z : List ℕ). z ∷ []) h
ends_at (y ∷ z ∷ p) x zero l e = absurd (omega arith)
ends_at (y ∷ p) x (suc n) l e = ap (λ (q : Names). y ∷ q) (ends_at p x n (omega arith) e)

get_none : (n : ℕ) (x : List ℕ) → slice_get {X = List ℕ} [] n ≡ Some x → ⊥
get_none n x e = cc

-- a path is its front and its last name
pub ends_in : (p : Names) (x : List ℕ) → slice_get p (length p - 1) ≡ Some x → p ≡ front_of p ++ x ∷ []
ends_in [] x e = absurd (get_none 0 x e)
ends_in (y ∷ p) x e = ends_at (y ∷ p) x (length (y ∷ p) - 1) (omega arith) e

-- what std's test of a front says of the cut
pub ruleset fronts = (is_under-starts_with, cut-starts_with, cut-apart)

-- ---- the tests of sameness the other way round, and by the order

-- the test of two names is the same the other way round
-- names
pub same_name-flip : (x y : List ℕ) → same_name x y ≡ same_name y x
same_name-flip [] [] = refl
same_name-flip [] (b ∷ y) = refl
same_name-flip (a ∷ x) [] = refl
same_name-flip (a ∷ x) (b ∷ y) = let ih = same_name-flip x y in grind (arith, nat_tests, ih)

-- paths that tie are the same
pub ties_same : (p q : Names) → is_eq (path_cmp p q) ≡ same_path p q
ties_same p q = sym (lists_ties (slice_cmp nat_cmp) texts_ties p q)

flip_at : (p q : Names) (a b : Bool) → same_path p q ≡ a → same_path q p ≡ b → a ≡ b
flip_at p q true true e f = refl
flip_at p q false false e f = refl
flip_at p q true false e f = let k : same_path q p ≡ true = (path_decides q p).1 (sym ((path_decides p q).0 e)) in sym k ∙ f
flip_at p q false true e f = let k : same_path p q ≡ true = (path_decides p q).1 (sym ((path_decides q p).0 f)) in sym e ∙ k

pub same_path-flip : (p q : Names) → same_path p q ≡ same_path q p
same_path-flip p q = flip_at p q (same_path p q) (same_path q p) refl refl

pub same_key : (p q : Names) → is_eq (path_cmp p q) ≡ true → p ≡ q
same_key p q e = same_path-true p q (sym (ties_same p q) ∙ e)

-- ---- the parent, and the last name

pub parent_of-append : (p : Names) (x : List ℕ) → parent_of (p ++ x ∷ []) ≡ Some p
parent_of-append [] x = refl
parent_of-append (y ∷ p) x = ap Some (front_of-append (y ∷ p) x)

-- a path with a last name, taken apart
pub record Ended (p : Names) : Type 0 where
  pub front : Names
  pub name : List ℕ
  pub path : p ≡ front ++ name ∷ []

-- a path with a name has a last one
pub ended_cons : (x : List ℕ) (p : Names) → Ended (x ∷ p)
ended_cons x p = by_last (last_case (x ∷ p))
  where
    by_last : Last (x ∷ p) → Ended (x ∷ p)
    by_last (empty e) = absurd (cc)
    by_last (ended front name e) = record { front = front; name = name; path = e }

-- the path before the last name is the parent
pub ended_by : (p front : Names) → parent_of p ≡ Some front → (k : Ended p) × (k.front ≡ front)
ended_by p front h = by (last_case p)
  where
    by : Last p → (k : Ended p) × (k.front ≡ front)
    by (empty i) = let k : None ≡ Some front = rw i at h in absurd (cc)
    by (ended q x i) = let k : Some q ≡ Some front = sym (parent_of-append q x) ∙ rw i at h in let e : q ≡ front = cc in (record { front = q; name = x; path = i }, e)

-- ---- what is cut, further

-- a front of two parts is cut part by part
pub cut_under : (d p q : Names) → cut (d ++ p) q ≡ at_cut (cut d q) None (cut p)
cut_under [] p q = refl
cut_under (x ∷ d) p [] = refl
cut_under (x ∷ d) p (y ∷ q) = let ih = cut_under d p q in elim (same_name x y) as (λ b. cond b (cut (d ++ p) q) None ≡ at_cut (cond b (cut d q) None) None (cut p)) [ true ↦ ih | false ↦ refl ]

-- a path that is under something is not the root
pub below_root : (d p : Names) → cut p [] ≡ None → cut (d ++ p) [] ≡ None
below_root [] p e = e
below_root (x ∷ d) p e = refl

-- what is no front of one path is not the root
pub cut_root_from : (a b : Names) → cut a b ≡ None → cut a [] ≡ None
cut_root_from [] b e = absurd (cc)
cut_root_from (x ∷ a) b e = refl

cut_front_at : (d p s : Names) (o : Option Names) → cut d p ≡ o → cut d (p ++ s) ≡ None → o ≡ None
cut_front_at d p s None e h = refl
cut_front_at d p s (Some r) e h = let k : Some (r ++ s) ≡ None = sym (cut-append d (r ++ s)) ∙ ap (cut d) (sym (append_assoc d r s) ∙ ap (λ (q : Names). q ++ s) (sym (append-cut d p r e))) ∙ h in cc

-- what is no front of a path is none of the path's fronts
pub cut_front : (d p s : Names) → cut d (p ++ s) ≡ None → cut d p ≡ None
cut_front d p s h = cut_front_at d p s (cut d p) refl h

-- a rest that is there where a test holds
pub at_cond : {X : Type 0} (b : Bool) (r : Names) (u : X) (f : Names → X) → at_cut (cond b (Some r) None) u f ≡ cond b (f r) u
at_cond true r u f = refl
at_cond false r u f = refl

pub root_is : (d : Names) → is_root d ≡ true → d ≡ []
root_is [] e = refl
root_is (x ∷ d) e = absurd (cc)

-- a path is under none that is longer
pub not_under : (p : Names) (x : List ℕ) (s t : Names) → p ≡ (p ++ x ∷ s) ++ t → ⊥
not_under p x s t e =
    let k : length p ≡ length ((p ++ x ∷ s) ++ t) = ap length e in
    omega (arith, k, length-append (p ++ x ∷ s) t, length-append p (x ∷ s))
