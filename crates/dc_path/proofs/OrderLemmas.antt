-- The order of names and paths, and lists that ascend.
use Rattle.std.proofs.Common.{◌≡◌, ℕ, List, [], ◌∷◌, ◌++◌, true, false, ◌&&◌, ◌||◌, refl, sym, ◌∙◌, ap, arith}
use Rattle.std.proofs.lemmas.Bool.Decides.{nat_tests}
use Rattle.std.proofs.lemmas.Cmp.{same_from_slice_cmp}
use Rattle.std.specs.List.{list_all}
use Rattle.std.specs.Ordering.{is_lt, is_eq, nat_cmp, MatchOrdering}
use Rattle.std.specs.declared.cmp.Ordering.{Ordering}
use Rattle.std.specs.declared.cmp.Ordering.TheVariants.{Less, Equal, Greater}
use Rattle.std.proofs.lemmas.Map.Text.{is_eq-slice_cmp}
use Rattle.std.specs.Cmp.Lexicographic.{slice_cmp}
use Rattle.dc_path.specs.Names.{same_name}
use Rattle.dc_path.specs.Order.{name_lt, path_lt, is_after, all_below, is_ascending}
use Rattle.dc_path.specs.Paths.{Names, same_path, path_cmp}
use Rattle.dc_path.proofs.PathLemmas.{name_decides, same_name-refl}

-- ---- the order of names
pub name_lt-trans : (x y z : List ℕ) → name_lt x y ≡ true → name_lt y z ≡ true → name_lt x z ≡ true
name_lt-trans [] [] z h k = cc
name_lt-trans [] (b ∷ y) [] h k = cc
name_lt-trans [] (b ∷ y) (c ∷ z) h k = refl
name_lt-trans (a ∷ x) [] z h k = cc
name_lt-trans (a ∷ x) (b ∷ y) [] h k = cc
name_lt-trans (a ∷ x) (b ∷ y) (c ∷ z) h k = let ih = name_lt-trans x y z in grind (arith, nat_tests, ih)

pub name_lt-apart : (x y : List ℕ) → name_lt x y ≡ true → same_name y x ≡ false
name_lt-apart [] [] h = cc
name_lt-apart [] (b ∷ y) h = refl
name_lt-apart (a ∷ x) [] h = cc
name_lt-apart (a ∷ x) (b ∷ y) h = let ih = name_lt-apart x y in grind (arith, nat_tests, ih)

-- ---- the order of paths
same_true : (x y : List ℕ) → same_name x y ≡ true → x ≡ y
same_true x y = (name_decides x y).0

pub path_lt-trans : (a b c : Names) → path_lt a b ≡ true → path_lt b c ≡ true → path_lt a c ≡ true
path_lt-trans [] [] c h k = cc
path_lt-trans [] (y ∷ b) [] h k = cc
path_lt-trans [] (y ∷ b) (z ∷ c) h k = refl
path_lt-trans (x ∷ a) [] c h k = cc
path_lt-trans (x ∷ a) (y ∷ b) [] h k = cc
path_lt-trans (x ∷ a) (y ∷ b) (z ∷ c) h k =
    let ih = path_lt-trans a b c in
    let tr = name_lt-trans x y z in
    let e = same_true x y in
    let f = same_true y z in
    let r = same_name-refl x in
    grind (arith, ih, tr, e, f, r)

-- what comes before a path is another path
pub path_lt-apart : (p q : Names) → path_lt p q ≡ true → same_path q p ≡ false
path_lt-apart [] [] h = cc
path_lt-apart [] (y ∷ q) h = refl
path_lt-apart (x ∷ p) [] h = cc
path_lt-apart (x ∷ p) (y ∷ q) h = let ih = path_lt-apart p q in let no = name_lt-apart x y in grind (arith, ih, no)

-- ---- what comes after a whole part of a tree
pub path_lt-after : (p b : Names) → is_after p b ≡ true → path_lt p b ≡ true
path_lt-after [] b h = cc
path_lt-after (x ∷ p) [] h = cc
path_lt-after (x ∷ p) (y ∷ b) h = let ih = path_lt-after p b in grind (arith, ih)

pub is_after-child : (p b r : Names) → is_after p b ≡ true → is_after (p ++ r) b ≡ true
is_after-child [] b r h = cc
is_after-child (x ∷ p) [] r h = cc
is_after-child (x ∷ p) (y ∷ b) r h = let ih = is_after-child p b r in grind (arith, ih)

pub is_after-sibling : (p : Names) (x y : List ℕ) → name_lt x y ≡ true → is_after (p ++ x ∷ []) (p ++ y ∷ []) ≡ true
is_after-sibling [] x y h = grind arith
is_after-sibling (z ∷ p) x y h = let ih = is_after-sibling p x y h in let r = same_name-refl z in grind (arith, ih, r)

pub path_lt-child : (p : Names) (x : List ℕ) → path_lt p (p ++ x ∷ []) ≡ true
path_lt-child [] x = refl
path_lt-child (z ∷ p) x = let ih = path_lt-child p x in let r = same_name-refl z in grind (arith, ih, r)

-- ---- lists of paths
-- what is before a path is before all later ones
pub all_below-later : (paths : List Names) (p b : Names) → path_lt p b ≡ true → all_below paths p ≡ true → all_below paths b ≡ true
all_below-later [] p b h k = refl
all_below-later (x ∷ paths) p b h k = let ih = all_below-later paths p b h in let tr = path_lt-trans x p b in grind (arith, ih, tr)

-- a path more at the end of a list
pub all_below-push : (paths : List Names) (x b : Names) → all_below (paths ++ x ∷ []) b ≡ (all_below paths b && path_lt x b)
all_below-push [] x b = grind arith
all_below-push (y ∷ paths) x b = let ih = all_below-push paths x b in grind (arith, ih)

all_above-push : (paths : List Names) (p x : Names) → list_all (path_lt p) (paths ++ x ∷ []) ≡ (list_all (path_lt p) paths && path_lt p x)
all_above-push [] p x = grind arith
all_above-push (y ∷ paths) p x = let ih = all_above-push paths p x in grind (arith, ih)

pub is_ascending-push : (paths : List Names) (x : Names) → is_ascending paths ≡ true → all_below paths x ≡ true → is_ascending (paths ++ x ∷ []) ≡ true
is_ascending-push [] x h k = refl
is_ascending-push (y ∷ paths) x h k = let ih = is_ascending-push paths x in let e = all_above-push paths y x in grind (arith, ih, e)

-- what is before a path with all under it is so with that path at the end
pub all_below-push_after : (paths : List Names) (x b : Names) → is_after x b ≡ true → all_below paths b ≡ true → all_below (paths ++ x ∷ []) b ≡ true
all_below-push_after paths x b h k = let e = all_below-push paths x b in let f = path_lt-after x b h in grind (arith, e, f, k)

pub all_below-push_child : (paths : List Names) (x : Names) (n : List ℕ) → all_below paths x ≡ true → all_below (paths ++ x ∷ []) (x ++ n ∷ []) ≡ true
all_below-push_child paths x n h =
    let e = all_below-push paths x (x ++ n ∷ []) in
    let f = path_lt-child x n in
    let k = all_below-later paths x (x ++ n ∷ []) f h in
    grind (arith, e, f, k)

-- ---- the tests of the order are the order
pub name_lt-cmp : (x y : List ℕ) → name_lt x y ≡ is_lt (slice_cmp nat_cmp x y)
name_lt-cmp x y = sym (same_from_slice_cmp nat_cmp is_lt name_lt refl (λ _ _. refl) (λ _ _. refl) (λ a b xs ys o h. grind (arith, nat_tests)) x y (slice_cmp nat_cmp x y) refl)

-- names are the same where their comparison ties
same_name-cmp : (x y : List ℕ) → same_name x y ≡ is_eq (slice_cmp nat_cmp x y)
same_name-cmp x y = sym (is_eq-slice_cmp x y)

-- one step of the comparison of paths
more_names : (x y : List ℕ) (xs ys : Names) (o : Ordering) → o ≡ slice_cmp nat_cmp x y →
    MatchOrdering o ((name_lt x y || (same_name x y && path_lt xs ys)) ≡ true) ((name_lt x y || (same_name x y && path_lt xs ys)) ≡ path_lt xs ys) ((name_lt x y || (same_name x y && path_lt xs ys)) ≡ false)
more_names x y xs ys Less h =
    let a : name_lt x y ≡ true = name_lt-cmp x y ∙ ap is_lt (sym h) in grind (arith, a)
more_names x y xs ys Equal h =
    let a : name_lt x y ≡ false = name_lt-cmp x y ∙ ap is_lt (sym h) in
    let b : same_name x y ≡ true = same_name-cmp x y ∙ ap is_eq (sym h) in
    grind (arith, a, b)
more_names x y xs ys Greater h =
    let a : name_lt x y ≡ false = name_lt-cmp x y ∙ ap is_lt (sym h) in
    let b : same_name x y ≡ false = same_name-cmp x y ∙ ap is_eq (sym h) in
    grind (arith, a, b)

pub path_lt-cmp : (p q : Names) → path_lt p q ≡ is_lt (path_cmp p q)
path_lt-cmp p q = sym (same_from_slice_cmp (slice_cmp nat_cmp) is_lt path_lt refl (λ _ _. refl) (λ _ _. refl) more_names p q (path_cmp p q) refl)
