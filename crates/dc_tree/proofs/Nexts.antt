-- The names in a directory, one after the other, and a step to one of them in two parts.
use Rattle.std.proofs.Common.{◌≡◌, ◌≢◌, ℕ, List, [], ◌∷◌, ◌++◌, Bool, true, false, cond, ◌||◌, not, zero, suc, Option, Some, None, refl, sym, ◌∙◌, ap, subst, arith, slice_get}
use Rattle.std.proofs.lemmas.Bool.Decides.{nat_tests}
use Rattle.std.proofs.lemmas.Cmp.{same_from_slice_cmp}
use Rattle.std.specs.List.{AllByRecursion}
use Rattle.std.specs.Option.{IfSome, IsSome, is_some}
use Rattle.std.specs.Ordering.{nat_cmp, is_eq, is_lt, is_gt}
use Rattle.std.specs.Cmp.Lexicographic.{slice_cmp}
use Rattle.std.specs.BTreeMap.{BTreeMap, IsLowerBound}
use Rattle.std.specs.BTreeMap.Range.{IsRangeOf, IsEntryInRange, IsLeBy}
use Rattle.std.specs.declared.ops.Bound.TheVariants.{Excluded, Unbounded}
use Rattle.std.specs.declared.cmp.Ordering.TheVariants.{Less}
use Rattle.std.proofs.lemmas.Map.Text.{is_eq-slice_cmp}
use Rattle.dc_path.specs.Names.{same_name}
use Rattle.dc_path.specs.Order.{name_lt}
use Rattle.dc_attrs.specs.Trees.{snapshot}
use Rattle.dc_path.proofs.PathLemmas.{NameCase, same, other, name_case, name_decides, same_name-refl}
use Rattle.dc_path.proofs.OrderLemmas.{name_lt-cmp, name_lt-trans}
use Rattle.dc_tree.specs.Arena.{Cell, cell_at, links_of, find, link}
use Rattle.dc_tree.specs.Walking.{comes_after, is_next, IsFirst, NoneLeads, FitsFirst, AreKnown, IsUnknown}
use Rattle.dc_tree.proofs.Cells.{link_is}
use Rattle.dc_tree.proofs.Between.{NameOrder, before, equal, behind, name_order, name_lt-irrefl}
use Rattle.std.proofs.lemmas.Bool.{and_parts, and_from, not-true}
use Rattle.dc_path.proofs.PathOrder.{less_is}

-- ---- the first name of a map after another one

name_gt-cmp : (x y : List ℕ) → name_lt y x ≡ is_gt (slice_cmp nat_cmp x y)
name_gt-cmp x y = sym (same_from_slice_cmp nat_cmp is_gt (λ x y. name_lt y x) refl (λ _ _. refl) (λ _ _. refl) (λ a b xs ys o h. grind (arith, nat_tests)) x y (slice_cmp nat_cmp x y) refl)

lt_less : (x y : List ℕ) → name_lt x y ≡ true → slice_cmp nat_cmp x y ≡ Less
lt_less x y h = less_is (slice_cmp nat_cmp x y) (sym (name_lt-cmp x y) ∙ h)

-- a name that is not found, since it would be no less than the first
not_found : (x y : List ℕ) (o : Option ℕ) → name_lt y x ≡ true → (IsSome o → is_gt (slice_cmp nat_cmp x y) ≡ false) → o ≡ None
not_found x y None h least = refl
not_found x y (Some v) h least = let k = least refl in let l : is_gt (slice_cmp nat_cmp x y) ≡ true = sym (name_gt-cmp x y) ∙ h in cc

some_there : (o : Option ℕ) (v : ℕ) → o ≡ Some v → o ≢ None
some_there o v e n = cc

first_at : (P : List ℕ × ℕ → Type 0) (r rest : List (List ℕ × ℕ)) (e : List ℕ × ℕ) → r ≡ e ∷ rest → IfSome (slice_get r 0) P → P e
first_at P r rest e is h = subst (λ (r : List (List ℕ × ℕ)). IfSome (slice_get r 0) P) is h

pub first_in_range : (m : BTreeMap (List ℕ) ℕ) (x y : List ℕ) (v : ℕ) (r rest : List (List ℕ × ℕ)) → IsRangeOf (slice_cmp nat_cmp) (Excluded x) Unbounded m r → r ≡ (y, v) ∷ rest → IsFirst (λ z. find z m.entries) (comes_after (Some x)) y
first_in_range m x y v r rest w e =
    let here = first_at (IsEntryInRange (slice_cmp nat_cmp) (Excluded x) Unbounded m) r rest (y, v) e w.1 in
    record {
      passes = name_lt-cmp x y ∙ ap is_lt here.0.0;
      there = some_there (find y m.entries) v here.1;
      first = λ z t h. not_found y z (find z m.entries) h (λ s. first_at (λ e. IsLeBy (slice_cmp nat_cmp) e.0 z) r rest (y, v) e (w.2 z (lt_less x z t, tt) s));
    }

pub none_in_range : (m : BTreeMap (List ℕ) ℕ) (x : List ℕ) (r : List (List ℕ × ℕ)) → IsRangeOf (slice_cmp nat_cmp) (Excluded x) Unbounded m r → r ≡ [] → NoneLeads (λ z. find z m.entries) (comes_after (Some x))
none_in_range m x r w e z t = w.5 e z (lt_less x z t, tt)

pub first_of_all : (m : BTreeMap (List ℕ) ℕ) (y : List ℕ) (v : ℕ) → find y m.entries ≡ Some v → IsLowerBound (slice_cmp nat_cmp) m y → IsFirst (λ z. find z m.entries) (comes_after None) y
first_of_all m y v f least = record {
  passes = refl;
  there = some_there (find y m.entries) v f;
  first = λ z t h. not_found y z (find z m.entries) h (least z);
}

-- ---- without the hidden name

pub next_parts : (after : Option (List ℕ)) (y : List ℕ) → is_next after y ≡ true → (comes_after after y ≡ true) × (same_name snapshot y ≡ false)
next_parts after y h = let w = and_parts (comes_after after y) (not (same_name snapshot y)) h in (w.0, not-true (same_name snapshot y) w.1)

pub next_of : (after : Option (List ℕ)) (y : List ℕ) → comes_after after y ≡ true → same_name snapshot y ≡ false → is_next after y ≡ true
next_of after y h k = and_from (comes_after after y) (not (same_name snapshot y)) h (ap not k)

farther : (after : Option (List ℕ)) (x y : List ℕ) → comes_after after x ≡ true → name_lt x y ≡ true → comes_after after y ≡ true
farther None x y h k = refl
farther (Some w) x y h k = name_lt-trans w x y h k

name_differs_at : (x y : List ℕ) → NameCase x y → name_lt x y ≡ true → same_name x y ≡ false
name_differs_at x y (same t e) h = absurd (name_lt-irrefl x (ap (name_lt x) e ∙ h))
name_differs_at x y (other t e) h = t

name_lt-differs : (x y : List ℕ) → name_lt x y ≡ true → same_name x y ≡ false
name_lt-differs x y h = name_differs_at x y (name_case x y) h

hidden_is : (x : List ℕ) → same_name snapshot x ≡ true → x ≡ snapshot
hidden_is x h = sym ((name_decides snapshot x).0 h)

-- what is no hidden name and leads somewhere comes after the hidden one, if that is the first
skip_at : (g : List ℕ → Option ℕ) (after : Option (List ℕ)) (x y : List ℕ) → IsFirst g (comes_after after) x → same_name snapshot x ≡ true → is_next after y ≡ true → NameOrder x y → (name_lt x y ≡ true → g y ≡ None) → g y ≡ None
skip_at g after x y f hid t (before h) rest = rest h
skip_at g after x y f hid t (equal e) rest = let w = next_parts after y t in let k : same_name snapshot y ≡ true = ap (same_name snapshot) (sym e) ∙ hid in let l = w.1 in cc
skip_at g after x y f hid t (behind h) rest = f.first y (next_parts after y t).0 h

skip : (g : List ℕ → Option ℕ) (after : Option (List ℕ)) (x y : List ℕ) → IsFirst g (comes_after after) x → same_name snapshot x ≡ true → is_next after y ≡ true → (name_lt x y ≡ true → g y ≡ None) → g y ≡ None
skip g after x y f hid t = skip_at g after x y f hid t (name_order x y)

pub past_hidden : (g : List ℕ → Option ℕ) (after : Option (List ℕ)) (x : List ℕ) (o : Option (List ℕ)) → IsFirst g (comes_after after) x → same_name snapshot x ≡ true → FitsFirst g (comes_after (Some x)) o → FitsFirst g (is_next after) o
past_hidden g after x None f hid n = λ y t. skip g after x y f hid t (n y)
past_hidden g after x (Some z) f hid n = record {
  passes = next_of after z (farther after x z f.passes n.passes) (ap (λ (s : List ℕ). same_name s z) (sym (hidden_is x hid)) ∙ name_lt-differs x z n.passes);
  there = n.there;
  first = λ y t h. skip g after x y f hid t (λ k. n.first y k h);
}

-- ---- links

found_at : (P : List ℕ → ℕ → Type 0) (x : List ℕ) (e : List ℕ × ℕ) (b : Bool) (o : Option ℕ) (c : ℕ) → is_eq (slice_cmp nat_cmp x e.0) ≡ b → P e.0 e.1 → (o ≡ Some c → P x c) → cond b (Some e.1) o ≡ Some c → P x c
found_at P x e true o c t p rest f =
    let same : e.0 ≡ x = sym ((name_decides x e.0).0 (sym (is_eq-slice_cmp x e.0) ∙ t)) in
    let is : e.1 ≡ c = cc in
    subst (λ (k : ℕ). P x k) is (subst (λ (y : List ℕ). P y e.1) same p)
found_at P x e false o c t p rest f = rest f

-- what holds of each link holds of the one that is found
found_all : (P : List ℕ → ℕ → Type 0) (links : List (List ℕ × ℕ)) → AllByRecursion (λ (e : List ℕ × ℕ). P e.0 e.1) links → (x : List ℕ) (c : ℕ) → find x links ≡ Some c → P x c
found_all P [] a x c f = cc
found_all P (e ∷ links) a x c f = found_at P x e (is_eq (slice_cmp nat_cmp x e.0)) (find x links) c refl a.0 (found_all P links a.1 x c) f

pub link_found : (cells : List Cell) (at : ℕ) (x : List ℕ) (links : List (List ℕ × ℕ)) → links_of (cell_at cells at) ≡ links → link cells at x ≡ find x links
link_found cells at x links is = link_is cells at (cell_at cells at) x refl ∙ ap (find x) is

pub all_push : {X : Type 0} (P : X → Type 0) (xs : List X) (y : X) → AllByRecursion P xs → P y → AllByRecursion P (xs ++ y ∷ [])
all_push P [] y a p = (p, tt)
all_push P (x ∷ xs) y a p = (a.0, all_push P xs y a.1 p)

-- a name is hidden, or leads somewhere
abbrev pub is_known : List Cell → ℕ → List ℕ → Bool
is_known cells at x = same_name snapshot x || is_some (link cells at x)

not_known : (b : Bool) (o : Option ℕ) → (b || is_some o) ≡ true → b ≡ false → o ≡ None → ⊥
not_known true o h e f = cc
not_known false None h e f = cc
not_known false (Some d) h e f = cc

known_at : (a : List Cell) (i : ℕ) (x : List ℕ) (o : Option ℕ) → ((d : ℕ) → o ≡ Some d → is_known a i x ≡ true) → same_name snapshot x ≡ false → link a i x ≡ None → o ≡ None
known_at a i x None h s n = refl
known_at a i x (Some d) h s n = absurd (not_known (same_name snapshot x) (link a i x) (h d refl) s n)

-- each link of the second slot was looked up in the first
pub all_known : (a : List Cell) (i : ℕ) (b : List Cell) (j : ℕ) (links : List (List ℕ × ℕ)) → links_of (cell_at b j) ≡ links → AllByRecursion (λ (e : List ℕ × ℕ). is_known a i e.0 ≡ true) links → AreKnown a i b j
all_known a i b j links is all x shown none =
    known_at a i x (link b j x) (λ d e. found_all (λ y c. is_known a i y ≡ true) links all x d (sym (link_found b j x links is) ∙ e)) shown none

-- what stands among the links is found, at some slot
found_some_at : (x : List ℕ) (e : List ℕ × ℕ) (b : Bool) (o : Option ℕ) → ((d : ℕ) × (o ≡ Some d)) → (d : ℕ) × (cond b (Some e.1) o ≡ Some d)
found_some_at x e true o h = (e.1, refl)
found_some_at x e false o h = h

found_some : (links : List (List ℕ × ℕ)) (n : ℕ) (e : List ℕ × ℕ) → slice_get links n ≡ Some e → (d : ℕ) × (find e.0 links ≡ Some d)
found_some [] n e h = cc
found_some (f ∷ links) zero e h = let is : f ≡ e = cc in (e.1, ap (λ (g : List ℕ × ℕ). find e.0 (g ∷ links)) is ∙ ap (λ b. cond b (Some e.1) (find e.0 links)) (is_eq-slice_cmp e.0 e.0 ∙ same_name-refl e.0))
found_some (f ∷ links) (suc n) e h = found_some_at e.0 f (is_eq (slice_cmp nat_cmp e.0 f.0)) (find e.0 links) (found_some links n e h)

unknown_parts : (b : Bool) (o : Option ℕ) → (b || is_some o) ≡ false → (b ≡ false) × (o ≡ None)
unknown_parts true o h = cc
unknown_parts false None h = (refl, refl)
unknown_parts false (Some d) h = cc

pub unknown : (a : List Cell) (i : ℕ) (b : List Cell) (j : ℕ) (links : List (List ℕ × ℕ)) (n : ℕ) (x : List ℕ) (d : ℕ) → links_of (cell_at b j) ≡ links → slice_get links n ≡ Some (x, d) → is_known a i x ≡ false → IsUnknown a i b j
unknown a i b j links n x d is at h =
    let w = unknown_parts (same_name snapshot x) (link a i x) h in
    let f = found_some links n (x, d) at in
    record { name = x; slot = f.0; shown = w.0; absent = w.1; there = link_found b j x links is ∙ f.1 }

pub first_link : (cells : List Cell) (at : ℕ) (links : List (List ℕ × ℕ)) (after : Option (List ℕ)) (x : List ℕ) → links_of (cell_at cells at) ≡ links → IsFirst (λ z. find z links) (is_next after) x → IsFirst (link cells at) (is_next after) x
first_link cells at links after x is f = record {
  passes = f.passes;
  there = λ e. f.there (sym (link_found cells at x links is) ∙ e);
  first = λ y t h. link_found cells at y links is ∙ f.first y t h;
}

pub none_link : (cells : List Cell) (at : ℕ) (links : List (List ℕ × ℕ)) (after : Option (List ℕ)) → links_of (cell_at cells at) ≡ links → NoneLeads (λ z. find z links) (is_next after) → NoneLeads (link cells at) (is_next after)
none_link cells at links after is n y t = link_found cells at y links is ∙ n y t
