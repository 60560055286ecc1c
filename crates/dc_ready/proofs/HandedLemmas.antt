-- What is handed in for an item that lands.
use Rattle.std.proofs.Common.{◌≡◌, ◌==◌, ℕ, ◌+◌, Bool, true, false, not, nat_lt, cond, Option, Some, None, List, [], ◌∷◌, length, map, refl, sym, ap, subst, ◌∙◌, arith, slice_get}
use Rattle.std.specs.List.{filter}
use Rattle.std.specs.Option.{option_map, option_map_or}
use Rattle.std.proofs.lemmas.Bool.{cond-true, cond-false, and_parts, ne_eqb, or_left, or_parts, lt-ltb, false≢true}
use Rattle.std.proofs.lemmas.List.{length-map}
use Rattle.std.proofs.lemmas.List.Elements.{All-filter, All-get_or}
use Rattle.std.proofs.lemmas.List.Sorted.{All-permutation}
use Rattle.std.proofs.lemmas.List.Sums.{sum_by-cons}
use Rattle.std.proofs.lemmas.Option.{get_or_from_slice_get, none-some, same_Some, slice_get_within}
use Rattle.std.proofs.lemmas.Simd.{map-map}
use Rattle.dc_attrs.specs.Trees.{Tree}
use Rattle.dc_decide.specs.Plans.{Decision, Decisions, left_out}
use Rattle.dc_commit.specs.Landing.{is_landing, is_written}
use Rattle.dc_commit.specs.declared.landing.Ready.{Ready}
use Rattle.dc_pieces.specs.Cutting.{pieces_of, plan_pieces}
use Rattle.dc_pieces.specs.Parts.{number_of, numbers_of}
use Rattle.dc_pieces.specs.declared.parts.Part.{Part}
use Rattle.dc_pieces.specs.declared.piece.Piece.{Piece}
use Rattle.dc_split.specs.Bundles.{once_below, times}
use Rattle.dc_crew.specs.Advances.{AreRight, IsRight}
use Rattle.dc_crew.specs.Jobs.{job_of, piece_at}
use Rattle.dc_join.specs.Leaving.{is_piece_of, lacks_piece, left_out_if}
use Rattle.dc_join.specs.Whole.{HasOwnParts, HavePartsOnce, HavePieces, is_own}
use Rattle.dc_ready.specs.Laws.{AreHandedIn, IsKept}
use Rattle.dc_ready.proofs.CutLemmas.{at_numbers, its_from, some_pieces}

-- ---- an item that lands is as it was
landing_there : (o : Option Decision) → option_map_or is_landing o false ≡ true → (d : Decision) × (o ≡ Some d) × (is_landing d ≡ true)
landing_there None h = absurd (false≢true h)
landing_there (Some d) h = (d, refl, h)

landing_kept : (b : Bool) (o : Option Decision) (d : Decision) → is_landing d ≡ true → Some d ≡ option_map (left_out_if b) o → (o ≡ Some d) × (b ≡ false)
landing_kept b None d l e = absurd (none-some d (sym e))
landing_kept true (Some x) d l e = absurd (false≢true (sym (ap is_landing (same_Some d (left_out x) e)) ∙ l))
landing_kept false (Some x) d l e = (sym e, refl)

pub landing_on : (d : Decision) → is_landing d ≡ true → d.out ≡ false
landing_on d l = by d.out refl
  where
    by : (b : Bool) → d.out ≡ b → d.out ≡ false
    by true e = absurd (false≢true (sym (ap not e) ∙ (and_parts _ _ l).0))
    by false e = e

pub landing_written : (d : Decision) → is_landing d ≡ true → is_written d.action ≡ true
landing_written d l = (and_parts _ _ l).1

-- ---- none of its pieces was given up
not_given : (pieces : List Piece) (item number : ℕ) → is_piece_of pieces item number ≡ true → (given : List ℕ) → lacks_piece pieces item given ≡ false → times number given ≡ 0
not_given pieces item number own [] none = refl
not_given pieces item number own (m ∷ given) none =
    let other : m ≡ number → ⊥ = λ e. false≢true (sym none ∙ or_left _ _ (ap (is_piece_of pieces item) e ∙ own)) in
    omega (
      arith,
      sum_by-cons (λ (y : ℕ). cond {A = ℕ} (y == number) 1 0) m given,
      cond-false {A = ℕ} (m == number) 1 0 (ne_eqb m number other),
      not_given pieces item number own given ((or_parts (is_piece_of pieces item m) (lacks_piece pieces item given) none).1),
    )

there_at : {X : Type 0} (f : X → Bool) (o : Option X) → option_map_or f o false ≡ true → (x : X) × (o ≡ Some x)
there_at f None h = absurd (false≢true h)
there_at f (Some x) h = (x, refl)

module _ {P : Type 0} (content : P → Option (List ℕ)) (size : P → ℕ) (tree : Option Tree) (tells : Bool) (blocks : ℕ) (old new : Decisions) (parts : List (Part P)) (given_up : List ℕ) (files : List (Ready P))
    (h : AreHandedIn content size tree tells blocks old new parts given_up files) where
  -- an item that lands, as it was when pieces were cut
  pub landing_old : (item : ℕ) (d : Decision) → slice_get new.items item ≡ Some d → is_landing d ≡ true → (slice_get old.items item ≡ Some d) × (lacks_piece (plan_pieces blocks old) item given_up ≡ false)
  landing_old item d at l = landing_kept (lacks_piece (plan_pieces blocks old) item given_up) (slice_get old.items item) d l (sym at ∙ h.left item)

  pub kept_at : (item : ℕ) (d : Decision) → slice_get old.items item ≡ Some d → IsKept d
  kept_at item d at = subst IsKept (get_or_from_slice_get old.items item d d at) (All-get_or IsKept old.items item d (slice_get_within old.items item d at) h.kept)

  -- each of its pieces has one part
  pub parts_once : HavePartsOnce new (plan_pieces blocks old) parts
  parts_once item number lands own =
      let w = landing_there (slice_get new.items item) lands in
      let k = landing_old item w.0 w.1 w.2 in
      let p = there_at _ (slice_get (plan_pieces blocks old) number) own in
      let below : once_below (length (plan_pieces blocks old)) number ≡ 1 =
      cond-true {A = ℕ} (nat_lt number (length (plan_pieces blocks old))) 1 0 (lt-ltb number (length (plan_pieces blocks old)) (slice_get_within (plan_pieces blocks old) number p.0 p.1)) in
      omega (arith, h.once number, not_given (plan_pieces blocks old) item number own given_up k.1, below)

  -- its pieces, by their numbers
  pub its_pieces : (item : ℕ) (d : Decision) → slice_get old.items item ≡ Some d → map (piece_at (plan_pieces blocks old)) (numbers_of (plan_pieces blocks old) item) ≡ pieces_of blocks item d
  its_pieces item d at =
      at_numbers (plan_pieces blocks old) item 0 (plan_pieces blocks old) (λ k. let e : 0 + k ≡ k = omega arith in ap (piece_at (plan_pieces blocks old)) e)
      ∙ its_from item blocks 0 item old.items (omega arith)
      ∙ ap (λ o. option_map_or (pieces_of blocks item) o []) at

  pub have_pieces : HavePieces new (plan_pieces blocks old)
  have_pieces item lands =
      let w = landing_there (slice_get new.items item) lands in
      let at : slice_get old.items item ≡ Some w.0 = (landing_old item w.0 w.1 w.2).0 in
      omega (
        arith,
        ap length (its_pieces item w.0 at),
        length-map (numbers_of (plan_pieces blocks old) item) (piece_at (plan_pieces blocks old)),
        some_pieces blocks item w.0 (kept_at item w.0 at) (landing_on w.0 w.2) (landing_written w.0 w.2),
      )

  -- ---- the parts of its file
  pub own_right : (item : ℕ) → AreRight (job_of tree tells old.items (plan_pieces blocks old)) content size (filter (is_own (plan_pieces blocks old) item) h.joined.sorted)
  own_right item =
      All-filter (is_own (plan_pieces blocks old) item) (IsRight (job_of tree tells old.items (plan_pieces blocks old)) content size) h.joined.sorted
      (All-permutation (IsRight (job_of tree tells old.items (plan_pieces blocks old)) content size) parts h.joined.sorted h.joined.same h.right)

  pub own_pieces : (f : Ready P) (d : Decision) → HasOwnParts (plan_pieces blocks old) h.joined.sorted f → slice_get old.items f.item ≡ Some d →
      map (λ (x : Part P). piece_at (plan_pieces blocks old) x.piece) (filter (is_own (plan_pieces blocks old) f.item) h.joined.sorted) ≡ pieces_of blocks f.item d
  own_pieces f d own at =
      sym (map-map (piece_at (plan_pieces blocks old)) number_of (filter (is_own (plan_pieces blocks old) f.item) h.joined.sorted))
      ∙ ap (map (piece_at (plan_pieces blocks old))) own.numbers
      ∙ its_pieces f.item d at
