-- What files hold to which parts are added: all parts in a row, and items that rise.
use Rattle.std.proofs.Common.{◌≡◌, ℕ, zero, suc, ◌+◌, ◌-◌, ◌≤◌, true, false, get_or, set, slice_get, nat_eq, List, [], ◌∷◌, ◌++◌, length, map, refl, sym, ap, ◌∙◌, arith}
use Rattle.std.specs.List.{flat_map}
use Rattle.std.proofs.lemmas.Bool.{cond_both, le-leb, eqb-true, eq-eqb, and_from, false≢true}
use Rattle.std.proofs.lemmas.List.{map-append, append_assoc, append-nil}
use Rattle.std.specs.Option.{option_map_or}
use Rattle.std.proofs.lemmas.Grind.{flat_map-append}
use Rattle.dc_commit.specs.declared.landing.Ready.{Ready}
use Rattle.dc_join.specs.Joining.{Bit, bit_of, bits_of, ready_item, rises_from}
use Rattle.dc_join.specs.Adding.{is_last, begun, longer, with_more, added, grouped}

module _ {P : Type 0} where
  -- ---- the parts in a row
  longer_bits : (part : P) (f : Ready P) → bits_of (longer part f) ≡ bits_of f ++ bit_of f.item part ∷ []
  longer_bits part f = map-append (bit_of f.item) f.parts (part ∷ [])

  last_bits : (item : ℕ) (part : P) (fs : List (Ready P)) → is_last item fs ≡ true → flat_map bits_of (with_more part fs) ≡ flat_map bits_of fs ++ bit_of item part ∷ []
  last_bits item part [] h = absurd (false≢true h)
  last_bits item part (f ∷ []) h =
      ap (λ xs. xs ++ []) (longer_bits part f ∙ ap (λ i. bits_of f ++ bit_of i part ∷ []) (eqb-true f.item item h))
      ∙ append-nil (bits_of f ++ bit_of item part ∷ [])
      ∙ ap (λ xs. xs ++ bit_of item part ∷ []) (sym (append-nil (bits_of f)))
  last_bits item part (f ∷ g ∷ fs) h =
      ap (λ xs. bits_of f ++ xs) (last_bits item part (g ∷ fs) h)
      ∙ sym (append_assoc (bits_of f) (flat_map bits_of (g ∷ fs)) (bit_of item part ∷ []))

  added_bits : (item : ℕ) (part : P) (fs : List (Ready P)) → flat_map bits_of (added item part fs) ≡ flat_map bits_of fs ++ bit_of item part ∷ []
  added_bits item part fs =
      cond_both (is_last item fs) (with_more part fs) (fs ++ begun item part ∷ []) (λ files. flat_map bits_of files ≡ flat_map bits_of fs ++ bit_of item part ∷ [])
      (λ h. last_bits item part fs h)
      (λ _. flat_map-append bits_of fs (begun item part ∷ []))

  pub grouped_bits : (fs : List (Ready P)) (bits : List (Bit P)) → flat_map bits_of (grouped fs bits) ≡ flat_map bits_of fs ++ bits
  grouped_bits fs [] = sym (append-nil (flat_map bits_of fs))
  grouped_bits fs (b ∷ bits) =
      grouped_bits (added b.item b.part fs) bits
      ∙ ap (λ xs. xs ++ bits) (added_bits b.item b.part fs)
      ∙ append_assoc (flat_map bits_of fs) (b ∷ []) bits

  pub grouped_more : (fs : List (Ready P)) (one two : List (Bit P)) → grouped (grouped fs one) two ≡ grouped fs (one ++ two)
  grouped_more fs [] two = refl
  grouped_more fs (b ∷ one) two = grouped_more (added b.item b.part fs) one two

  -- ---- the items rise
  -- from a number on, and no further than another
  abbrev pub Within : (least most : ℕ) → List (Ready P) → Type 0
  Within least most [] = Unit {0}
  Within least most (f ∷ fs) = (least ≤ f.item) × (f.item ≤ most) × Within (f.item + 1) most fs

  -- bits whose items do not fall, from a number on
  abbrev pub NoFall : ℕ → List (Bit P) → Type 0
  NoFall least [] = Unit {0}
  NoFall least (b ∷ bits) = (least ≤ b.item) × NoFall b.item bits

  within_rises : (least most : ℕ) (fs : List (Ready P)) → Within least most fs → rises_from least (map ready_item fs) ≡ true
  within_rises least most [] w = refl
  within_rises least most (f ∷ fs) w = and_from _ _ (le-leb least f.item (w.0)) (within_rises (f.item + 1) most fs (w.2))

  more_within : (least most item : ℕ) (part : P) (fs : List (Ready P)) → Within least most fs → most ≤ item → Within least item (with_more part fs)
  more_within least most item part [] w h = tt
  more_within least most item part (f ∷ []) w h = (w.0, omega (arith, w.1, h), tt)
  more_within least most item part (f ∷ g ∷ fs) w h = (w.0, omega (arith, w.1, h), more_within (f.item + 1) most item part (g ∷ fs) (w.2) h)

  begun_within : (least most item : ℕ) (part : P) (fs : List (Ready P)) → Within least most fs → most ≤ item → least ≤ item → is_last item fs ≡ false → Within least item (fs ++ begun item part ∷ [])
  begun_within least most item part [] w h l e = (l, omega arith, tt)
  begun_within least most item part (f ∷ []) w h l e =
      let other : f.item ≡ item → ⊥ = λ same. false≢true (sym e ∙ eq-eqb f.item item same) in
      (w.0, omega (arith, w.1, h), (omega (arith, w.1, h, other), omega arith, tt))
  begun_within least most item part (f ∷ g ∷ fs) w h l e =
      (w.0, omega (arith, w.1, h), begun_within (f.item + 1) most item part (g ∷ fs) (w.2) h (omega (arith, w.2.0, w.2.1, h)) e)

  added_within : (least most item : ℕ) (part : P) (fs : List (Ready P)) → Within least most fs → most ≤ item → least ≤ item → Within least item (added item part fs)
  added_within least most item part fs w h l =
      cond_both (is_last item fs) (with_more part fs) (fs ++ begun item part ∷ []) (Within least item)
      (λ _. more_within least most item part fs w h)
      (λ e. begun_within least most item part fs w h l e)

  grouped_rises : (least most : ℕ) (fs : List (Ready P)) (bits : List (Bit P)) → Within least most fs → least ≤ most → NoFall most bits → rises_from least (map ready_item (grouped fs bits)) ≡ true
  grouped_rises least most fs [] w l n = within_rises least most fs w
  grouped_rises least most fs (b ∷ bits) w l n =
      grouped_rises least b.item (added b.item b.part fs) bits (added_within least most b.item b.part fs w (n.0) (omega (arith, l, n.0))) (omega (arith, l, n.0)) (n.1)

  pub all_rise : (bits : List (Bit P)) → NoFall 0 bits → rises_from 0 (map ready_item (grouped [] bits)) ≡ true
  all_rise bits n = grouped_rises 0 0 [] bits tt (omega arith) n

  -- one part more, which is some bits
  pub grouped_part : {X : Type 0} (bits : X → List (Bit P)) (xs : List X) (x : X) → grouped (grouped [] (flat_map bits xs)) (bits x) ≡ grouped [] (flat_map bits (xs ++ x ∷ []))
  grouped_part bits xs x =
      grouped_more [] (flat_map bits xs) (bits x)
      ∙ ap (grouped []) (sym (flat_map-append bits xs (x ∷ []) ∙ ap (λ ys. flat_map bits xs ++ ys) (append-nil (bits x))))

  -- ---- the last file, by its place
  pub last_at : (item : ℕ) (fs : List (Ready P)) → option_map_or (λ f. nat_eq f.item item) (slice_get fs (length fs - 1)) false ≡ is_last item fs
  last_at item [] = refl
  last_at item (f ∷ []) = refl
  last_at item (f ∷ g ∷ fs) =
      let next : length (f ∷ g ∷ fs) - 1 ≡ suc (length (g ∷ fs) - 1) = omega arith in
      ap (λ k. option_map_or (λ (x : Ready P). nat_eq x.item item) (slice_get (f ∷ g ∷ fs) k) false) next ∙ last_at item (g ∷ fs)

  pub set_last : (part : P) (fs : List (Ready P)) (d : Ready P) (place : ℕ) → suc place ≡ length fs → set fs place (longer part (get_or fs place d)) ≡ with_more part fs
  set_last part [] d place h = absurd (omega (arith, h))
  set_last part (f ∷ []) d zero h = refl
  set_last part (f ∷ []) d (suc place) h = absurd (omega (arith, h))
  set_last part (f ∷ g ∷ fs) d zero h = absurd (omega (arith, h))
  set_last part (f ∷ g ∷ fs) d (suc place) h = ap (λ ys. f ∷ ys) (set_last part (g ∷ fs) d place (omega (arith, h)))
