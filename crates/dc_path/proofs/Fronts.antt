-- Proper prefixes of paths.
use Rattle.std.proofs.Common.{◌≡◌, ℕ, ◌<◌, ◌≤◌, Bool, true, false, cond, ◌&&◌, ◌||◌, List, [], ◌∷◌, ◌++◌, length, Option, None, refl, ◌∙◌, ap, arith}
use Rattle.std.specs.Cmp.{first_so, second_so}
use Rattle.std.specs.Option.{is_some}
use Rattle.dc_path.specs.Names.{same_name}
use Rattle.dc_path.specs.Order.{name_lt, path_lt}
use Rattle.dc_path.specs.Paths.{Names, cut, is_above, is_under}
use Rattle.dc_path.proofs.OrderLemmas.{name_lt-apart, name_lt-trans}
use Rattle.dc_path.proofs.PathLemmas.{NameCase, name_case, name_decides, same, other, same_name-refl}
use Rattle.dc_path.proofs.PathOrder.{name_lt-irrefl}
use Rattle.std.proofs.lemmas.Bool.{and_right}

-- ---- by lengths
longer_at : (b c : Bool) (o : Option Names) → c ≡ is_some o → (b && c) ≡ is_some (cond b o None)
longer_at true c o e = e
longer_at false c o e = refl

-- a prefix of a longer path is a proper one
pub above_longer : (q t : Names) → length q < length t → is_above q t ≡ is_under q t
above_longer [] [] h = absurd (omega arith)
above_longer [] (y ∷ t) h = refl
above_longer (x ∷ q) [] h = absurd (omega arith)
above_longer (x ∷ q) (y ∷ t) h = longer_at (same_name x y) (is_above q t) (cut q t) (above_longer q t (omega arith))

-- a path is above none that is no longer
pub above_shorter : (q t : Names) → length t ≤ length q → is_above q t ≡ false
above_shorter [] [] h = refl
above_shorter [] (y ∷ t) h = absurd (omega arith)
above_shorter (x ∷ q) [] h = refl
above_shorter (x ∷ q) (y ∷ t) h = and_right (same_name x y) (is_above q t) (above_shorter q t (omega arith))

-- ---- between two paths below one path all are below it
-- a name that stands between a name and itself
record IsMiddle (x y : List ℕ) (a b : Bool) : Type 0 where
  name : same_name x y ≡ true
  up : a ≡ true
  down : b ≡ true

middle_at : (x y : List ℕ) (a b : Bool) → NameCase x y → (name_lt x y || (same_name x y && a)) ≡ true → (name_lt y x || (same_name y x && b)) ≡ true → IsMiddle x y a b
middle_at x y a b (same e f) h k =
    let l = name_lt-irrefl x in
    let r = same_name-refl x in
    record {
      name = e;
      up = rw (← f, l, r) at h;
      down = rw (← f, l, r) at k;
    }
middle_at x y a b (other e f) h k =
    let g = name_decides x y in
    let i = name_decides y x in
    let l : name_lt x y ≡ true = grind arith in
    let m : same_name y x ≡ false = name_lt-apart x y l in
    let n : name_lt y x ≡ true = grind arith in
    let t = name_lt-trans x y x l n in
    let z = name_lt-irrefl x in
    absurd (cc)

pub above_between : (q n m t : Names) → is_above q n ≡ true → is_above q t ≡ true → path_lt n m ≡ true → path_lt m t ≡ true → is_above q m ≡ true
above_between [] n [] t h k l r = no_less n l
  where
    no_less : (n : Names) → path_lt n [] ≡ true → is_above [] [] ≡ true
    no_less [] l = absurd (cc)
    no_less (x ∷ n) l = absurd (cc)
above_between [] n (y ∷ m) t h k l r = refl
above_between (x ∷ q) [] m t h k l r = absurd (cc)
above_between (x ∷ q) (z ∷ n) m [] h k l r = absurd (cc)
above_between (x ∷ q) (z ∷ n) [] (w ∷ t) h k l r = absurd (cc)
above_between (x ∷ q) (z ∷ n) (y ∷ m) (w ∷ t) h k l r =
    let e : x ≡ z = (name_decides x z).0 (first_so (same_name x z) (is_above q n) h) in
    let f : x ≡ w = (name_decides x w).0 (first_so (same_name x w) (is_above q t) k) in
    let i = middle_at x y (path_lt n m) (path_lt m t) (name_case x y) (rw (← e) at l) (rw (← f) at r) in
    rw i.name (above_between q n m t (second_so (same_name x z) (is_above q n) h) (second_so (same_name x w) (is_above q t) k) i.up i.down)

append_above : (q : Names) (x : List ℕ) (r : Names) → is_above q (q ++ x ∷ r) ≡ true
append_above [] x r = refl
append_above (y ∷ q) x r = rw (same_name-refl y) (append_above q x r)

-- what goes on with a name more is below
pub above_append : (q : Names) (x : List ℕ) (r t : Names) → t ≡ q ++ x ∷ r → is_above q t ≡ true
above_append q x r t e = ap (is_above q) e ∙ append_above q x r

pub is_above-nil : (u : Names) → is_above u [] ≡ false
is_above-nil [] = refl
is_above-nil (x ∷ u) = refl
