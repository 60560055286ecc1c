-- An ascending list is told by what is found in it, so what lands and which directories are copied is one answer.
use Rattle.std.proofs.Common.{◌≡◌, List, [], ◌∷◌, Bool, true, false, cond, ◌||◌, Option, Some, None, map, refl, sym, ap, ap₂, ◌∙◌, subst, arith}
use Rattle.std.proofs.lemmas.List.{map-id}
use Rattle.std.specs.Cmp.{first_so, second_so}
use Rattle.std.specs.List.{list_all}
use Rattle.dc_path.specs.Found.{found, has_path}
use Rattle.dc_path.specs.Order.{path_lt, is_ascending}
use Rattle.dc_path.specs.Paths.{Names, same_path}
use Rattle.dc_path.proofs.FoundLemmas.{found-before}
use Rattle.dc_path.proofs.PathOrder.{path_lt-asym}
use Rattle.dc_path.proofs.PathLemmas.{same_path-refl, same_path-true}
use Rattle.dc_fs.specs.declared.target.Landed.{Landed}
use Rattle.dc_plain.specs.Left.{counts_of}
use Rattle.dc_plain.specs.Laws.{CountsAreOne, FoldersAreOne, LandingsAreOne}

-- ---- an ascending list of what has a path
-- the first item is found at its path
found-first : {A : Type 0} (path_in : A → Names) (x : A) (xs : List A) → found path_in (x ∷ xs) (path_in x) ≡ Some x
found-first path_in x xs = ap (λ same. cond same (Some x) (found path_in xs (path_in x))) (same_path-refl (path_in x))

-- what is found in a list whose paths all come after one comes after it too
found-after : {A : Type 0} (path_in : A → Names) (xs : List A) (p q : Names) (y : A) → list_all (path_lt p) (map path_in xs) ≡ true → found path_in xs q ≡ Some y → path_lt p q ≡ true
found-after path_in [] p q y above e = cc
found-after path_in (x ∷ xs) p q y above e = let rest = found-after path_in xs p q y in let same = same_path-true (path_in x) q in grind (arith, rest, same)

module _ {A : Type 0} (path_in : A → Names) where
  -- the heads, where each is found in the other list: either it is the other's head, or each comes before the other
  same_heads : (x y : A) (xs ys : List A) (is is_back : Bool) → same_path (path_in y) (path_in x) ≡ is → same_path (path_in x) (path_in y) ≡ is_back →
      list_all (path_lt (path_in x)) (map path_in xs) ≡ true → list_all (path_lt (path_in y)) (map path_in ys) ≡ true →
      Some x ≡ cond is (Some y) (found path_in ys (path_in x)) → cond is_back (Some x) (found path_in xs (path_in y)) ≡ Some y → x ≡ y
  same_heads x y xs ys true is_back e f above above_back h k = cc
  same_heads x y xs ys false true e f above above_back h k = cc
  same_heads x y xs ys false false e f above above_back h k =
      absurd (path_lt-asym (path_in x) (path_in y) (found-after path_in xs (path_in x) (path_in y) y above k) (found-after path_in ys (path_in y) (path_in x) x above_back (sym h)))

  -- behind one head the same is found in both lists, at the head's path nothing
  same_behind : (x : A) (xs ys : List A) (q : Names) (is : Bool) → same_path (path_in x) q ≡ is →
      list_all (path_lt (path_in x)) (map path_in xs) ≡ true → list_all (path_lt (path_in x)) (map path_in ys) ≡ true →
      cond is (Some x) (found path_in xs q) ≡ cond is (Some x) (found path_in ys q) → found path_in xs q ≡ found path_in ys q
  same_behind x xs ys q true e above above_too h =
      subst (λ p. found path_in xs p ≡ found path_in ys p) (same_path-true (path_in x) q e) (found-before path_in xs (path_in x) above ∙ sym (found-before path_in ys (path_in x) above_too))
  same_behind x xs ys q false e above above_too h = h

  -- ascending lists in which the same is found at each path are one list
  pub ascending-unique : (xs ys : List A) → is_ascending (map path_in xs) ≡ true → is_ascending (map path_in ys) ≡ true → ((q : Names) → found path_in xs q ≡ found path_in ys q) → xs ≡ ys
  ascending-unique [] [] a b h = refl
  ascending-unique [] (y ∷ ys) a b h = let none : None ≡ Some y = h (path_in y) ∙ found-first path_in y ys in cc
  ascending-unique (x ∷ xs) [] a b h = let none : Some x ≡ None = sym (found-first path_in x xs) ∙ h (path_in x) in cc
  ascending-unique (x ∷ xs) (y ∷ ys) a b h =
      let above = first_so _ _ a in
      let above_back = first_so _ _ b in
      let same : x ≡ y = same_heads x y xs ys _ _ refl refl above above_back (sym (found-first path_in x xs) ∙ h (path_in x)) (h (path_in y) ∙ found-first path_in y ys) in
      let above_too : list_all (path_lt (path_in x)) (map path_in ys) ≡ true = subst (λ z. list_all (path_lt (path_in z)) (map path_in ys) ≡ true) (sym same) above_back in
      let again : (q : Names) → found path_in (x ∷ xs) q ≡ found path_in (x ∷ ys) q = λ q. h q ∙ ap (λ z. found path_in (z ∷ ys) q) (sym same) in
      let rest : xs ≡ ys = ascending-unique xs ys (second_so _ _ a) (second_so _ _ b) (λ q. same_behind x xs ys q _ refl above above_too (again q)) in
      ap (λ z. z ∷ xs) same ∙ ap (λ zs. y ∷ zs) rest

-- ---- an ascending list of paths
own_by : (x q : Names) (is other : Bool) (o : Option Names) → same_path x q ≡ is → o ≡ cond other (Some q) None → cond is (Some x) o ≡ cond (is || other) (Some q) None
own_by x q true other o e h = ap Some (same_path-true x q e)
own_by x q false other o e h = h

-- a path is found where it is in the list
found-own : (paths : List Names) (q : Names) → found (λ p. p) paths q ≡ cond (has_path paths q) (Some q) None
found-own [] q = refl
found-own (x ∷ paths) q = own_by x q (same_path x q) (has_path paths q) (found (λ p. p) paths q) refl (found-own paths q)

-- ---- the laws
pub landings_are_one : LandingsAreOne
landings_are_one s source target landings others h k = ascending-unique (λ (one : Landed). one.path) landings others h.ascending k.ascending (λ q. h.each q ∙ sym (k.each q))

pub folders_are_one : FoldersAreOne
folders_are_one s source folders others h k =
    ascending-unique (λ p. p) folders others (ap is_ascending (map-id folders) ∙ h.ascending) (ap is_ascending (map-id others) ∙ k.ascending)
    (λ q. found-own folders q ∙ ap (λ is. cond is (Some q) None) (h.each q ∙ sym (k.each q)) ∙ sym (found-own others q))

pub counts_are_one : CountsAreOne
counts_are_one s source target counts others h k =
    h.are ∙ ap₂ counts_of (landings_are_one s source target h.landings k.landings h.land k.land) (folders_are_one s source h.folders k.folders h.made k.made) ∙ sym k.are
