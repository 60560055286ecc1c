-- Numbers that rise, and how often each stands among them.
use Rattle.std.proofs.Common.{◌≡◌, ◌==◌, ℕ, zero, suc, ◌+◌, ◌<◌, ◌≤◌, Bool, true, false, nat_eq, ◌⊎◌, inl, inr, cond, List, [], ◌∷◌, length, get_or, map, refl, sym, ap, ap₂, ◌∙◌, arith, slice_get, count_by}
use Rattle.std.specs.List.{filter}
use Rattle.std.specs.Option.{option_map_or}
use Rattle.std.specs.List.Sorted.{IsNonDecreasing}
use Rattle.std.proofs.lemmas.Bool.{cases_Bool, cases_order, cond_both, cond-true, cond-false, le-leb, leb-true, eqb-true, eq-eqb, ne_eqb, and_from, and_parts, false≢true}
use Rattle.std.proofs.lemmas.List.Sums.{sum_by-cons}
use Rattle.dc_decide.specs.Plans.{Decision}
use Rattle.dc_commit.specs.Landing.{is_landing}
use Rattle.dc_pieces.specs.Parts.{number_of, numbers_from}
use Rattle.dc_pieces.specs.declared.piece.Piece.{Piece}
use Rattle.dc_pieces.specs.declared.parts.Part.{Part}
use Rattle.dc_pieces.proofs.SortedLemmas.{rise_cons}
use Rattle.dc_join.specs.Joining.{rises_from}
use Rattle.dc_join.specs.Leaving.{is_piece_of}
use Rattle.dc_join.specs.Whole.{is_own, landing_from}

-- ---- numbers that rise
rises_above : (least : ℕ) (xs : List ℕ) → rises_from least xs ≡ true → (k d : ℕ) → k < length xs → least ≤ get_or xs k d
rises_above least [] h k d l = absurd (omega (arith, l))
rises_above least (x ∷ xs) h zero d l = leb-true least x ((and_parts _ _ h).0)
rises_above least (x ∷ xs) h (suc k) d l = omega (arith, leb-true least x ((and_parts _ _ h).0), rises_above (x + 1) xs ((and_parts _ _ h).1) k d (omega (arith, l)))

pub rises_up : (least : ℕ) (xs : List ℕ) → rises_from least xs ≡ true → IsNonDecreasing xs
rises_up least [] h = λ i j d le l. absurd (omega (arith, l))
rises_up least (x ∷ xs) h =
    rise_cons x xs (λ k d l. omega (arith, rises_above (x + 1) xs ((and_parts _ _ h).1) k d l)) (rises_up (x + 1) xs ((and_parts _ _ h).1))

rises_later : (n : ℕ) (xs : List ℕ) → rises_from (n + 1) xs ≡ true → rises_from n xs ≡ true
rises_later n [] h = refl
rises_later n (x ∷ xs) h = and_from _ _ (le-leb n x (omega (arith, leb-true (n + 1) x ((and_parts _ _ h).0)))) ((and_parts _ _ h).1)

-- a number, if it is taken, and then later ones
taken_rises : (b : Bool) (n : ℕ) (xs : List ℕ) → rises_from (n + 1) xs ≡ true → rises_from n (cond b (n ∷ xs) xs) ≡ true
taken_rises b n xs h =
    cond_both b (n ∷ xs) xs (λ ns. rises_from n ns ≡ true)
    (λ _. and_from _ _ (le-leb n n (omega arith)) h)
    (λ _. rises_later n xs h)

pub numbers_rising : (item n : ℕ) (ps : List Piece) → rises_from n (numbers_from item n ps) ≡ true
numbers_rising item n [] = refl
numbers_rising item n (p ∷ ps) = taken_rises (nat_eq p.item item) n (numbers_from item (n + 1) ps) (numbers_rising item (n + 1) ps)

pub landing_rising : (n : ℕ) (ds : List Decision) → rises_from n (landing_from n ds) ≡ true
landing_rising n [] = refl
landing_rising n (d ∷ ds) = taken_rises (is_landing d) n (landing_from (n + 1) ds) (landing_rising (n + 1) ds)

-- ---- how often a number stands

none_later : (n : ℕ) (ys : List ℕ) → ((k : ℕ) → k < length ys → n < get_or ys k 0) → count_by (λ y. y == n) ys ≡ 0
none_later n [] h = refl
none_later n (y ∷ ys) h =
    let first : n < y = h 0 (omega arith) in
    let head : cond {A = ℕ} (y == n) 1 0 ≡ 0 = cond-false (y == n) 1 0 (ne_eqb y n (λ e. absurd (omega (arith, e, first)))) in
    omega (arith, sum_by-cons (λ (x : ℕ). cond {A = ℕ} (x == n) 1 0) y ys, head, none_later n ys (λ k l. h (suc k) (omega (arith, l))))

none_above : (n least : ℕ) (xs : List ℕ) → rises_from least xs ≡ true → n < least → count_by (λ y. y == n) xs ≡ 0
none_above n least xs h l = none_later n xs (λ k b. omega (arith, l, rises_above least xs h k 0 b))

some_first : (x : ℕ) (xs : List ℕ) → 1 ≤ count_by (λ y. y == x) (x ∷ xs)
some_first x xs =
    let head : cond {A = ℕ} (x == x) 1 0 ≡ 1 = cond-true (x == x) 1 0 (eq-eqb x x refl) in
    omega (arith, sum_by-cons (λ (y : ℕ). cond {A = ℕ} (y == x) 1 0) x xs, head)

abbrev SameCounts : List ℕ → List ℕ → Type 0
SameCounts xs ys = (n : ℕ) → count_by (λ x. x == n) xs ≡ count_by (λ x. x == n) ys

not_before : (x y : ℕ) (xs ys : List ℕ) → IsNonDecreasing (y ∷ ys) → SameCounts (x ∷ xs) (y ∷ ys) → x < y → ⊥
not_before x y xs ys up same l =
    omega (arith, some_first x xs, same x, none_later x (y ∷ ys) (λ k b. omega (arith, l, up 0 k 0 (omega arith) b)))

first_same : (x y : ℕ) (xs ys : List ℕ) → IsNonDecreasing (x ∷ xs) → IsNonDecreasing (y ∷ ys) → SameCounts (x ∷ xs) (y ∷ ys) → (x ≡ y) ⊎ ((x < y) ⊎ (y < x)) → x ≡ y
first_same x y xs ys a b same (inl e) = e
first_same x y xs ys a b same (inr (inl l)) = absurd (not_before x y xs ys b same l)
first_same x y xs ys a b same (inr (inr l)) = absurd (not_before y x ys xs a (λ n. sym (same n)) l)

-- two lists in order that have each number as often are the same
pub same_numbers : (xs ys : List ℕ) → IsNonDecreasing xs → IsNonDecreasing ys → SameCounts xs ys → xs ≡ ys
same_numbers [] [] a b same = refl
same_numbers [] (y ∷ ys) a b same = absurd (omega (arith, same y, some_first y ys))
same_numbers (x ∷ xs) [] a b same = absurd (omega (arith, same x, some_first x xs))
same_numbers (x ∷ xs) (y ∷ ys) a b same =
    let first : x ≡ y = first_same x y xs ys a b same (cases_order x y) in
    ap₂ (λ k ks. k ∷ ks) first
    (same_numbers xs ys (λ i j d le l. a (suc i) (suc j) d (omega arith) (omega arith)) (λ i j d le l. b (suc i) (suc j) d (omega arith) (omega arith))
    (λ n. omega (
      arith,
      same n,
      sum_by-cons (λ (z : ℕ). cond {A = ℕ} (z == n) 1 0) x xs,
      sum_by-cons (λ (z : ℕ). cond {A = ℕ} (z == n) 1 0) y ys,
      ap (λ (z : ℕ). cond {A = ℕ} (z == n) 1 0) first,
    )))

-- ---- a number that is taken once
taken_here : (b : Bool) (n : ℕ) (xs : List ℕ) → rises_from (n + 1) xs ≡ true → count_by (λ y. y == n) (cond b (n ∷ xs) xs) ≡ cond {A = ℕ} b 1 0
taken_here b n xs h = by (cases_Bool b)
  where
    none : count_by (λ y. y == n) xs ≡ 0
    none = none_above n (n + 1) xs h (omega arith)

    head : cond {A = ℕ} (n == n) 1 0 ≡ 1
    head = cond-true (n == n) 1 0 (eq-eqb n n refl)

    by : (b ≡ true) ⊎ (b ≡ false) → count_by (λ y. y == n) (cond b (n ∷ xs) xs) ≡ cond {A = ℕ} b 1 0
    by (inl t) =
        ap (count_by (λ y. y == n)) (cond-true b (n ∷ xs) xs t)
        ∙ omega (arith, sum_by-cons (λ (y : ℕ). cond {A = ℕ} (y == n) 1 0) n xs, head, none, cond-true {A = ℕ} b 1 0 t)
    by (inr f) = ap (count_by (λ y. y == n)) (cond-false b (n ∷ xs) xs f) ∙ none ∙ sym (cond-false {A = ℕ} b 1 0 f)

taken_later : (b : Bool) (n m : ℕ) (xs : List ℕ) → (n ≡ m → ⊥) → count_by (λ y. y == m) (cond b (n ∷ xs) xs) ≡ count_by (λ y. y == m) xs
taken_later b n m xs other =
    cond_both b (n ∷ xs) xs (λ ns. count_by (λ y. y == m) ns ≡ count_by (λ y. y == m) xs)
    (λ _. omega (arith, sum_by-cons (λ (y : ℕ). cond {A = ℕ} (y == m) 1 0) n xs, cond-false {A = ℕ} (n == m) 1 0 (ne_eqb n m other)))
    (λ _. refl)

-- the number of a piece stands once among those of its item, and among no others
pub count_numbers : (item n m k : ℕ) (ps : List Piece) → m ≡ n + k → count_by (λ y. y == m) (numbers_from item n ps) ≡ cond {A = ℕ} (is_piece_of ps item k) 1 0
count_numbers item n m k [] e = refl
count_numbers item n m zero (p ∷ ps) e =
    let same : m ≡ n = omega (arith, e) in
    ap (λ (j : ℕ). count_by (λ y. y == j) (numbers_from item n (p ∷ ps))) same
    ∙ taken_here (nat_eq p.item item) n (numbers_from item (n + 1) ps) (numbers_rising item (n + 1) ps)
count_numbers item n m (suc k) (p ∷ ps) e =
    taken_later (nat_eq p.item item) n m (numbers_from item (n + 1) ps) (λ s. absurd (omega (arith, e, s)))
    ∙ count_numbers item (n + 1) m k ps (omega (arith, e))

-- so does the place of an item that lands
pub count_landing : (n m k : ℕ) (ds : List Decision) → m ≡ n + k → count_by (λ y. y == m) (landing_from n ds) ≡ cond {A = ℕ} (option_map_or is_landing (slice_get ds k) false) 1 0
count_landing n m k [] e = refl
count_landing n m zero (d ∷ ds) e =
    let same : m ≡ n = omega (arith, e) in
    ap (λ (j : ℕ). count_by (λ y. y == j) (landing_from n (d ∷ ds))) same
    ∙ taken_here (is_landing d) n (landing_from (n + 1) ds) (landing_rising (n + 1) ds)
count_landing n m (suc k) (d ∷ ds) e =
    taken_later (is_landing d) n m (landing_from (n + 1) ds) (λ s. absurd (omega (arith, e, s)))
    ∙ count_landing (n + 1) m k ds (omega (arith, e))

-- in numbers that rise none stands twice
pub count_rising : (n least : ℕ) (xs : List ℕ) → rises_from least xs ≡ true → count_by (λ y. y == n) xs ≤ 1
count_rising n least [] h = omega arith
count_rising n least (x ∷ xs) h = by (count_rising n (x + 1) xs ((and_parts _ _ h).1)) (cases_Bool (x == n))
  where
    by : count_by (λ y. y == n) xs ≤ 1 → ((x == n) ≡ true) ⊎ ((x == n) ≡ false) → count_by (λ y. y == n) (x ∷ xs) ≤ 1
    by few (inl t) =
        let same : x ≡ n = eqb-true x n t in
        omega (
          arith,
          sum_by-cons (λ (y : ℕ). cond {A = ℕ} (y == n) 1 0) x xs,
          cond-true {A = ℕ} (x == n) 1 0 t,
          none_above n (x + 1) xs ((and_parts _ _ h).1) (omega (arith, same)),
        )
    by few (inr f) = omega (arith, sum_by-cons (λ (y : ℕ). cond {A = ℕ} (y == n) 1 0) x xs, cond-false {A = ℕ} (x == n) 1 0 f, few)

-- ---- the parts of an item
module _ {P : Type 0} (pieces : List Piece) (item number : ℕ) where
  pub own_none : is_piece_of pieces item number ≡ false → (xs : List (Part P)) → count_by (λ y. y == number) (map number_of (filter (is_own pieces item) xs)) ≡ 0
  own_none none [] = refl
  own_none none (x ∷ xs) =
      cond_both (is_own pieces item x) (x ∷ filter (is_own pieces item) xs) (filter (is_own pieces item) xs) (λ ys. count_by (λ y. y == number) (map number_of ys) ≡ 0)
      (λ t. omega (
        arith,
        sum_by-cons (λ (y : ℕ). cond {A = ℕ} (y == number) 1 0) x.piece (map number_of (filter (is_own pieces item) xs)),
        cond-false {A = ℕ} (x.piece == number) 1 0 (ne_eqb x.piece number (λ e. false≢true (sym none ∙ ap (is_piece_of pieces item) (sym e) ∙ t))),
        own_none none xs,
      ))
      (λ _. own_none none xs)

  pub own_all : is_piece_of pieces item number ≡ true → (xs : List (Part P)) →
      count_by (λ y. y == number) (map number_of (filter (is_own pieces item) xs)) ≡ count_by (λ (x : Part P). x.piece == number) xs
  own_all its [] = refl
  own_all its (x ∷ xs) =
      cond_both (is_own pieces item x) (x ∷ filter (is_own pieces item) xs) (filter (is_own pieces item) xs)
      (λ ys. count_by (λ y. y == number) (map number_of ys) ≡ count_by (λ (z : Part P). z.piece == number) (x ∷ xs))
      (λ _. omega (
        arith,
        sum_by-cons (λ (y : ℕ). cond {A = ℕ} (y == number) 1 0) x.piece (map number_of (filter (is_own pieces item) xs)),
        sum_by-cons (λ (z : Part P). cond {A = ℕ} (z.piece == number) 1 0) x xs,
        own_all its xs,
      ))
      (λ f. omega (
        arith,
        sum_by-cons (λ (z : Part P). cond {A = ℕ} (z.piece == number) 1 0) x xs,
        cond-false {A = ℕ} (x.piece == number) 1 0 (ne_eqb x.piece number (λ e. false≢true (sym f ∙ ap (is_piece_of pieces item) e ∙ its))),
        own_all its xs,
      ))
