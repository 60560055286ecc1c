-- Each file that is joined has the parts of its item, and each item that lands is one of them.
use Rattle.std.proofs.Common.{◌≡◌, ◌==◌, ℕ, ◌+◌, ◌≤◌, ◌<◌, true, false, nat_eq, ◌⊎◌, inl, inr, cond, Option, Some, None, List, [], ◌∷◌, ◌++◌, length, map, refl, sym, ap, ap₂, subst, ◌∙◌, arith, slice_get, count_by, append_assoc, append-nil}
use Rattle.std.specs.List.{All, filter, flat_map, list_all}
use Rattle.std.specs.Option.{option_map_or, option_and_then}
use Rattle.std.proofs.lemmas.Bool.{cases_Bool, cond_both, cond-true, cond-false, leb-true, eqb-true, eq-eqb, ne_eqb, and_parts, false≢true}
use Rattle.std.proofs.lemmas.List.{length-map}
use Rattle.std.proofs.lemmas.List.Elements.{All-nil, All-cons, All-head, All-tail}
use Rattle.std.proofs.lemmas.List.Kept.{IsNonDecreasingBy-filter}
use Rattle.std.proofs.lemmas.List.Sorted.{sum_by-IsPermutation}
use Rattle.std.proofs.lemmas.List.Sums.{sum_by-cons}
use Rattle.dc_decide.specs.Plans.{Decisions}
use Rattle.dc_commit.specs.Landing.{is_ready}
use Rattle.dc_commit.specs.declared.landing.Ready.{Ready}
use Rattle.dc_pieces.proofs.SortedLemmas.{keys_rise}
use Rattle.dc_pieces.specs.Parts.{number_of, numbers_of, part_of}
use Rattle.dc_pieces.specs.declared.parts.Part.{Part}
use Rattle.dc_pieces.specs.declared.piece.Piece.{Piece}
use Rattle.dc_join.specs.Joining.{AreJoined, Bit, bit_for, bit_of, bits_of, landing_item, lands_at, ready_item, rises_from}
use Rattle.dc_join.specs.Leaving.{is_piece_of}
use Rattle.dc_join.specs.Whole.{HasOwnParts, HavePartsOnce, HavePieces, is_own, landing_places}
use Rattle.dc_join.proofs.NumberLemmas.{count_landing, count_numbers, count_rising, landing_rising, numbers_rising, own_all, own_none, rises_up, same_numbers}

module _ {P : Type 0} (item : ℕ) where
  -- the parts of an item among bits
  abbrev pub parts_at : List (Bit P) → List P
  parts_at [] = []
  parts_at (b ∷ bits) = cond (nat_eq b.item item) (b.part ∷ parts_at bits) (parts_at bits)

  at_append : (xs ys : List (Bit P)) → parts_at (xs ++ ys) ≡ parts_at xs ++ parts_at ys
  at_append [] ys = refl
  at_append (x ∷ xs) ys = by (at_append xs ys) (cases_Bool (nat_eq x.item item))
    where
      by : parts_at (xs ++ ys) ≡ parts_at xs ++ parts_at ys → (nat_eq x.item item ≡ true) ⊎ (nat_eq x.item item ≡ false) → parts_at (x ∷ xs ++ ys) ≡ parts_at (x ∷ xs) ++ parts_at ys
      by rest (inl t) =
          cond-true (nat_eq x.item item) (x.part ∷ parts_at (xs ++ ys)) (parts_at (xs ++ ys)) t
          ∙ ap (λ ps. x.part ∷ ps) rest
          ∙ ap (λ ps. ps ++ parts_at ys) (sym (cond-true (nat_eq x.item item) (x.part ∷ parts_at xs) (parts_at xs) t))
      by rest (inr f) =
          cond-false (nat_eq x.item item) (x.part ∷ parts_at (xs ++ ys)) (parts_at (xs ++ ys)) f
          ∙ rest
          ∙ ap (λ ps. ps ++ parts_at ys) (sym (cond-false (nat_eq x.item item) (x.part ∷ parts_at xs) (parts_at xs) f))

  at_own : (parts : List P) → parts_at (map (bit_of item) parts) ≡ parts
  at_own [] = refl
  at_own (p ∷ parts) =
      cond-true (nat_eq item item) (p ∷ parts_at (map (bit_of item) parts)) (parts_at (map (bit_of item) parts)) (eq-eqb item item refl)
      ∙ ap (λ ps. p ∷ ps) (at_own parts)

  at_other : (other : ℕ) (parts : List P) → (other ≡ item → ⊥) → parts_at (map (bit_of other) parts) ≡ []
  at_other other [] h = refl
  at_other other (p ∷ parts) h =
      cond-false (nat_eq other item) (p ∷ parts_at (map (bit_of other) parts)) (parts_at (map (bit_of other) parts)) (ne_eqb other item h)
      ∙ at_other other parts h

  -- an item that no file is has no part
  at_absent : (fs : List (Ready P)) → count_by (λ y. y == item) (map ready_item fs) ≡ 0 → parts_at (flat_map bits_of fs) ≡ []
  at_absent [] h = refl
  at_absent (f ∷ fs) h =
      let counted = sum_by-cons (λ (y : ℕ). cond {A = ℕ} (y == item) 1 0) f.item (map ready_item fs) in
      let other : f.item ≡ item → ⊥ = λ e. absurd (omega (arith, h, counted, cond-true {A = ℕ} (f.item == item) 1 0 (eq-eqb f.item item e))) in
      at_append (bits_of f) (flat_map bits_of fs)
      ∙ ap (λ ps. ps ++ parts_at (flat_map bits_of fs)) (at_other f.item f.parts other)
      ∙ at_absent fs (omega (arith, h, counted))

  -- an item before all files has none
  at_before : (least : ℕ) (fs : List (Ready P)) → rises_from least (map ready_item fs) ≡ true → item < least → parts_at (flat_map bits_of fs) ≡ []
  at_before least [] r l = refl
  at_before least (f ∷ fs) r l =
      let from : least ≤ f.item = leb-true least f.item ((and_parts _ _ r).0) in
      at_append (bits_of f) (flat_map bits_of fs)
      ∙ ap (λ ps. ps ++ parts_at (flat_map bits_of fs)) (at_other f.item f.parts (λ e. absurd (omega (arith, e, from, l))))
      ∙ at_before (f.item + 1) fs ((and_parts _ _ r).1) (omega (arith, from, l))

  module _ (plan : Decisions) (lands : lands_at plan item ≡ true) (x : Part P) where
    -- a part that is given is a bit of the item exactly where its piece is the item's
    at_bit : (o : Option Piece) (bits : List (Bit P)) (ys : List (Part P)) → parts_at bits ≡ map part_of ys →
        parts_at (option_map_or (λ i. bit_of i x.part ∷ []) (option_and_then (landing_item plan) o) [] ++ bits)
        ≡ map part_of (cond (option_map_or (λ p. nat_eq p.item item) o false) (x ∷ ys) ys)
    at_bit None bits ys h = h
    at_bit (Some p) bits ys h = by (cases_Bool (nat_eq p.item item))
      where
        by : (nat_eq p.item item ≡ true) ⊎ (nat_eq p.item item ≡ false) →
            parts_at (option_map_or (λ i. bit_of i x.part ∷ []) (landing_item plan p) [] ++ bits) ≡ map part_of (cond (nat_eq p.item item) (x ∷ ys) ys)
        by (inl t) =
            let here : lands_at plan p.item ≡ true = ap (lands_at plan) (eqb-true p.item item t) ∙ lands in
            ap (λ o. parts_at (option_map_or (λ i. bit_of i x.part ∷ []) o [] ++ bits)) (cond-true (lands_at plan p.item) (Some p.item) None here)
            ∙ cond-true (nat_eq p.item item) (x.part ∷ parts_at bits) (parts_at bits) t
            ∙ ap (λ ps. x.part ∷ ps) h
            ∙ ap (map part_of) (sym (cond-true (nat_eq p.item item) (x ∷ ys) ys t))
        by (inr f) =
            cond_both (lands_at plan p.item) (Some p.item) None (λ o. parts_at (option_map_or (λ i. bit_of i x.part ∷ []) o [] ++ bits) ≡ map part_of ys)
            (λ _. cond-false (nat_eq p.item item) (x.part ∷ parts_at bits) (parts_at bits) f ∙ h)
            (λ _. h)
            ∙ ap (map part_of) (sym (cond-false (nat_eq p.item item) (x ∷ ys) ys f))

  at_bits : (plan : Decisions) (pieces : List Piece) → lands_at plan item ≡ true → (xs : List (Part P)) →
      parts_at (flat_map (bit_for plan pieces) xs) ≡ map part_of (filter (is_own pieces item) xs)
  at_bits plan pieces lands [] = refl
  at_bits plan pieces lands (x ∷ xs) =
      at_bit plan lands x (slice_get pieces x.piece) (flat_map (bit_for plan pieces) xs) (filter (is_own pieces item) xs) (at_bits plan pieces lands xs)

module _ {P : Type 0} where
  -- each file has all parts of its item
  at_each : (before : List (Bit P)) (least : ℕ) (fs : List (Ready P)) → rises_from least (map ready_item fs) ≡ true → ((item : ℕ) → least ≤ item → parts_at item before ≡ []) →
      All (λ (f : Ready P). parts_at f.item (before ++ flat_map bits_of fs) ≡ f.parts) fs
  at_each before least [] r h = All-nil (λ (f : Ready P). parts_at f.item (before ++ []) ≡ f.parts)
  at_each before least (f ∷ fs) r h =
      let from : least ≤ f.item = leb-true least f.item ((and_parts _ _ r).0) in
      let later : rises_from (f.item + 1) (map ready_item fs) ≡ true = (and_parts _ _ r).1 in
      let here : parts_at f.item (before ++ (bits_of f ++ flat_map bits_of fs)) ≡ f.parts =
      at_append f.item before (bits_of f ++ flat_map bits_of fs)
      ∙ ap (λ ps. ps ++ parts_at f.item (bits_of f ++ flat_map bits_of fs)) (h f.item from)
      ∙ at_append f.item (bits_of f) (flat_map bits_of fs)
      ∙ ap₂ (λ ps qs. ps ++ qs) (at_own f.item f.parts) (at_before f.item (f.item + 1) fs later (omega arith))
      ∙ append-nil f.parts in
      let gone : (item : ℕ) → f.item + 1 ≤ item → parts_at item (before ++ bits_of f) ≡ [] =
      λ item l.
      at_append item before (bits_of f)
      ∙ ap₂ (λ ps qs. ps ++ qs) (h item (omega (arith, from, l))) (at_other item f.item f.parts (λ e. absurd (omega (arith, e, l)))) in
      All-cons (λ (g : Ready P). parts_at g.item (before ++ (bits_of f ++ flat_map bits_of fs)) ≡ g.parts) f fs here
      (subst (λ (bits : List (Bit P)). All (λ (g : Ready P). parts_at g.item bits ≡ g.parts) fs) (append_assoc before (bits_of f) (flat_map bits_of fs))
      (at_each (before ++ bits_of f) (f.item + 1) fs later gone))

  file_lands : (plan : Decisions) (f : Ready P) → is_ready plan f ≡ true → lands_at plan f.item ≡ true
  file_lands plan f h = (and_parts (lands_at plan f.item) _ h).0

  -- what does not land is no file
  not_ready : (plan : Decisions) (item : ℕ) (fs : List (Ready P)) → list_all (is_ready plan) fs ≡ true → lands_at plan item ≡ false → count_by (λ y. y == item) (map ready_item fs) ≡ 0
  not_ready plan item [] h n = refl
  not_ready plan item (f ∷ fs) h n =
      let lands : lands_at plan f.item ≡ true = file_lands plan f ((and_parts _ _ h).0) in
      omega (
        arith,
        sum_by-cons (λ (y : ℕ). cond {A = ℕ} (y == item) 1 0) f.item (map ready_item fs),
        cond-false {A = ℕ} (f.item == item) 1 0 (ne_eqb f.item item (λ e. false≢true (sym n ∙ ap (lands_at plan) (sym e) ∙ lands))),
        not_ready plan item fs ((and_parts _ _ h).1) n,
      )

  module _ (plan : Decisions) (pieces : List Piece) (parts : List (Part P)) (files : List (Ready P)) (are : AreJoined plan pieces parts files) (ready : list_all (is_ready plan) files ≡ true)
      (once : HavePartsOnce plan pieces parts) where
    -- the parts of an item that lands are one of each piece, in the order of the pieces
    own_numbers : (item : ℕ) → lands_at plan item ≡ true → map number_of (filter (is_own pieces item) are.sorted) ≡ numbers_of pieces item
    own_numbers item lands =
        same_numbers (map number_of (filter (is_own pieces item) are.sorted)) (numbers_of pieces item)
        (keys_rise number_of (filter (is_own pieces item) are.sorted) (IsNonDecreasingBy-filter number_of (is_own pieces item) are.sorted are.ordered))
        (rises_up 0 (numbers_of pieces item) (numbers_rising item 0 pieces))
        (λ n. by n (cases_Bool (is_piece_of pieces item n)))
      where
        by : (n : ℕ) → (is_piece_of pieces item n ≡ true) ⊎ (is_piece_of pieces item n ≡ false) →
            count_by (λ y. y == n) (map number_of (filter (is_own pieces item) are.sorted)) ≡ count_by (λ y. y == n) (numbers_of pieces item)
        by n (inl t) = omega (
          arith,
          own_all pieces item n t are.sorted,
          sum_by-IsPermutation (λ (x : Part P). cond {A = ℕ} (x.piece == n) 1 0) parts are.sorted are.same,
          once item n lands t,
          count_numbers item 0 n n pieces (omega arith),
          cond-true {A = ℕ} (is_piece_of pieces item n) 1 0 t,
        )
        by n (inr f) = omega (
          arith,
          own_none pieces item n f are.sorted,
          count_numbers item 0 n n pieces (omega arith),
          cond-false {A = ℕ} (is_piece_of pieces item n) 1 0 f,
        )

    at_joined : (item : ℕ) → lands_at plan item ≡ true → parts_at item (flat_map bits_of files) ≡ map part_of (filter (is_own pieces item) are.sorted)
    at_joined item lands = ap (parts_at item) are.joined ∙ at_bits item plan pieces lands are.sorted

    own_each : (fs : List (Ready P)) → list_all (is_ready plan) fs ≡ true → All (λ (f : Ready P). parts_at f.item (flat_map bits_of files) ≡ f.parts) fs → All (HasOwnParts pieces are.sorted) fs
    own_each [] h a = All-nil (HasOwnParts pieces are.sorted)
    own_each (f ∷ fs) h a =
        let lands : lands_at plan f.item ≡ true = file_lands plan f ((and_parts _ _ h).0) in
        let its : parts_at f.item (flat_map bits_of files) ≡ f.parts = All-head (λ (g : Ready P). parts_at g.item (flat_map bits_of files) ≡ g.parts) f fs a in
        All-cons (HasOwnParts pieces are.sorted) f fs
        (record { parts = sym its ∙ at_joined f.item lands; numbers = own_numbers f.item lands })
        (own_each fs ((and_parts _ _ h).1) (All-tail (λ (g : Ready P). parts_at g.item (flat_map bits_of files) ≡ g.parts) f fs a))

    -- each file has one part of each piece of its item, in the order of the pieces
    pub files_have_own : All (HasOwnParts pieces are.sorted) files
    files_have_own = own_each files ready (at_each [] 0 files are.apart (λ item l. refl))

    -- the files are the items that land, each once, in the order of the plan
    pub files_are_landing : HavePieces plan pieces → map ready_item files ≡ landing_places plan
    files_are_landing have =
        same_numbers (map ready_item files) (landing_places plan) (rises_up 0 (map ready_item files) are.apart) (rises_up 0 (landing_places plan) (landing_rising 0 plan.items))
        (λ n. by n (cases_Bool (lands_at plan n)))
      where
        absent : (n : ℕ) → lands_at plan n ≡ true → count_by (λ y. y == n) (map ready_item files) ≡ 0 → ⊥
        absent n lands none =
            let gone : map part_of (filter (is_own pieces n) are.sorted) ≡ [] = sym (at_joined n lands) ∙ at_absent n files none in
            omega (
              arith,
              ap length gone,
              length-map (filter (is_own pieces n) are.sorted) part_of,
              ap length (own_numbers n lands),
              length-map (filter (is_own pieces n) are.sorted) number_of,
              have n lands,
            )

        by : (n : ℕ) → (lands_at plan n ≡ true) ⊎ (lands_at plan n ≡ false) → count_by (λ y. y == n) (map ready_item files) ≡ count_by (λ y. y == n) (landing_places plan)
        by n (inl t) =
            let placed : count_by (λ y. y == n) (landing_places plan) ≡ cond {A = ℕ} (lands_at plan n) 1 0 = count_landing 0 n n plan.items (omega arith) in
            let one : count_by (λ y. y == n) (landing_places plan) ≡ 1 = placed ∙ cond-true {A = ℕ} (lands_at plan n) 1 0 t in
            omega (arith, one, count_rising n 0 (map ready_item files) are.apart, absent n t)
        by n (inr f) =
            let placed : count_by (λ y. y == n) (landing_places plan) ≡ cond {A = ℕ} (lands_at plan n) 1 0 = count_landing 0 n n plan.items (omega arith) in
            not_ready plan n files ready f ∙ sym (placed ∙ cond-false {A = ℕ} (lands_at plan n) 1 0 f)
