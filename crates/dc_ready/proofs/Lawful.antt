-- The laws of files that are ready.
use Rattle.std.proofs.Common.{◌≡◌, ℕ, ◌+◌, Bool, true, Option, Some, None, List, [], ◌∷◌, length, map, drop, refl, sym, ap, subst, ◌∙◌, arith, slice_get}
use Rattle.std.specs.List.{All, AllZip, filter, list_all, sum_by}
use Rattle.std.specs.Option.{option_map}
use Rattle.std.proofs.lemmas.List.Elements.{All-get_or}
use Rattle.std.proofs.lemmas.Option.{get_or_from_slice_get, none-some, same_Some, slice_get-map, slice_get_within}
use Rattle.dc_attrs.specs.Trees.{Tree, bytes_of}
use Rattle.dc_fs.specs.Temporaries.{all_told}
use Rattle.dc_decide.specs.Plans.{Decision, Decisions}
use Rattle.dc_commit.specs.Landing.{is_landing}
use Rattle.dc_commit.specs.declared.landing.Ready.{Ready}
use Rattle.dc_crew.specs.Jobs.{job_of, path_at, source_path}
use Rattle.dc_join.proofs.OwnLemmas.{files_are_landing, files_have_own}
use Rattle.dc_join.specs.Whole.{HasOwnParts, is_own}
use Rattle.dc_pieces.proofs.LawProofs.{cover_total}
use Rattle.dc_pieces.specs.Cutting.{pieces_of, plan_pieces}
use Rattle.dc_pieces.specs.Laws.{Cover, bytes_of as piece_bytes}
use Rattle.dc_pieces.specs.declared.parts.Part.{Part}
use Rattle.dc_pieces.specs.declared.piece.Piece.{Piece}
use Rattle.dc_result.proofs.ReadyLemmas.{AllFill, Fills, ready_files_land}
use Rattle.dc_result.specs.Effects.{first_byte}
use Rattle.dc_ready.specs.Laws.{AreHandedIn, JoinedFilesAreLanding, JoinedFilesAreSized, JoinedFilesLand, StandsIn, copied_bytes, size_with}
use Rattle.dc_ready.proofs.CutLemmas.{covered, is_of, of_item}
use Rattle.dc_ready.proofs.HandedLemmas.{have_pieces, kept_at, landing_old, landing_on, landing_written, own_pieces, own_right, parts_once}
use Rattle.dc_ready.proofs.PairLemmas.{paired, paired_same}
use Rattle.dc_ready.proofs.RowLemmas.{sized_row, told_row}

-- the files are the items that land
pub joined_landing : {P : Type 0} → JoinedFilesAreLanding P
joined_landing content size tree tells blocks old new parts given_up files h =
    files_are_landing new (plan_pieces blocks old) parts files h.joined h.ready
    (parts_once content size tree tells blocks old new parts given_up files h)
    (have_pieces content size tree tells blocks old new parts given_up files h)

module _ {P : Type 0} (content : P → Option (List ℕ)) (size : P → ℕ) (tree : Option Tree) (tells : Bool) (blocks : ℕ) (old new : Decisions) (parts : List (Part P)) (given_up : List ℕ) (files : List (Ready P))
    (h : AreHandedIn content size tree tells blocks old new parts given_up files) where
  -- each file with its item
  pub all_paired : (R : Ready P → Decision → Type 0) →
      ((f : Ready P) (d : Decision) → HasOwnParts (plan_pieces blocks old) h.joined.sorted f → slice_get new.items f.item ≡ Some d → is_landing d ≡ true → R f d) →
      AllZip R files (filter is_landing new.items)
  all_paired R each =
      paired (HasOwnParts (plan_pieces blocks old) h.joined.sorted) R new.items each 0 new.items files
      (λ k. let e : 0 + k ≡ k = omega arith in ap (slice_get new.items) e)
      (joined_landing content size tree tells blocks old new parts given_up files h)
      (files_have_own new (plan_pieces blocks old) parts files h.joined h.ready (parts_once content size tree tells blocks old new parts given_up files h))

  -- the pieces of its item lie in a row
  pub own_cover : (f : Ready P) (d : Decision) → slice_get old.items f.item ≡ Some d → is_landing d ≡ true → Cover (first_byte d.action) d.item.length (pieces_of blocks f.item d)
  own_cover f d at l = covered blocks f.item d (kept_at content size tree tells blocks old new parts given_up files h f.item d at) (landing_on d l) (landing_written d l)

  pub own_sized : (f : Ready P) (d : Decision) → HasOwnParts (plan_pieces blocks old) h.joined.sorted f → slice_get new.items f.item ≡ Some d → is_landing d ≡ true → size_with size f ≡ copied_bytes d
  own_sized f d own there l =
      let at : slice_get old.items f.item ≡ Some d = (landing_old content size tree tells blocks old new parts given_up files h f.item d there l).0 in
      let sum : size_with size f ≡ sum_by piece_bytes (pieces_of blocks f.item d) =
      ap (sum_by size) own.parts
      ∙ sized_row content size (job_of tree tells old.items (plan_pieces blocks old)) (filter (is_own (plan_pieces blocks old) f.item) h.joined.sorted)
      (own_right content size tree tells blocks old new parts given_up files h f.item)
      ∙ ap (sum_by piece_bytes) (own_pieces content size tree tells blocks old new parts given_up files h f d own at) in
      sum ∙ omega (arith, cover_total (first_byte d.action) d.item.length (pieces_of blocks f.item d) (own_cover f d at l))

-- the parts of each have as many bytes as are copied of the item
pub joined_sized : {P : Type 0} → JoinedFilesAreSized P
joined_sized content size tree tells blocks old new parts given_up files h =
    paired_same (size_with size) copied_bytes files (filter is_landing new.items)
    (all_paired content size tree tells blocks old new parts given_up files h (λ f d. size_with size f ≡ copied_bytes d)
    (own_sized content size tree tells blocks old new parts given_up files h))

-- ---- the bytes
told_of_length : (o : Option (List ℕ)) (n : ℕ) → option_map length o ≡ Some n → (b : List ℕ) × (o ≡ Some b) × (length b ≡ n)
told_of_length None n e = absurd (none-some n e)
told_of_length (Some b) n e = (b, refl, same_Some (length b) n e)

fill_all : {P : Type 0} (content : P → Option (List ℕ)) (size : P → ℕ) (s : Tree) (plan : Decisions) (fs : List (Ready P)) (ds : List Decision) → AllZip (Fills content size s plan) fs ds → AllFill content size s plan fs ds
fill_all content size s plan [] [] h = tt
fill_all content size s plan [] (d ∷ ds) h = absurd h
fill_all content size s plan (f ∷ fs) [] h = absurd h
fill_all content size s plan (f ∷ fs) (d ∷ ds) h = (h.0, fill_all content size s plan fs ds h.1)

module _ {P : Type 0} (content : P → Option (List ℕ)) (size : P → ℕ) (s : Tree) (blocks : ℕ) (old new : Decisions) (parts : List (Part P)) (given_up : List ℕ) (files : List (Ready P))
    (h : AreHandedIn content size (Some s) true blocks old new parts given_up files) (stand : All (StandsIn s) old.items) where
  own_fills : (f : Ready P) (d : Decision) → HasOwnParts (plan_pieces blocks old) h.joined.sorted f → slice_get new.items f.item ≡ Some d → is_landing d ≡ true → Fills content size s new f d
  own_fills f d own there l =
      let at : slice_get old.items f.item ≡ Some d = (landing_old content size (Some s) true blocks old new parts given_up files h f.item d there l).0 in
      let xs = filter (is_own (plan_pieces blocks old) f.item) h.joined.sorted in
      let stands : StandsIn s d = subst (StandsIn s) (get_or_from_slice_get old.items f.item d d at) (All-get_or (StandsIn s) old.items f.item d (slice_get_within old.items f.item d at) stand) in
      let b = told_of_length (bytes_of (s d.item.from)) d.item.length (stands (landing_written d l)) in
      let path : path_at (map source_path old.items) f.item ≡ d.item.from =
      get_or_from_slice_get (map source_path old.items) f.item d.item.from [] (slice_get-map source_path old.items f.item ∙ ap (option_map source_path) at) in
      let rows = own_pieces content size (Some s) true blocks old new parts given_up files h f d own at in
      let cover : Cover (first_byte d.action) (length b.0) (pieces_of blocks f.item d) =
      subst (λ n. Cover (first_byte d.action) n (pieces_of blocks f.item d)) (sym b.2) (own_cover content size (Some s) true blocks old new parts given_up files h f d at l) in
      record {
        item = there;
        told =
            ap (λ ps. all_told (map content ps)) own.parts
            ∙ told_row content size s old.items (plan_pieces blocks old) f.item b.0 (ap (λ p. bytes_of (s p)) path ∙ b.1) (first_byte d.action) xs
            (own_right content size (Some s) true blocks old new parts given_up files h f.item)
            (ap (list_all (is_of f.item)) rows ∙ of_item blocks f.item d)
            (subst (λ (qs : List Piece). Cover (first_byte d.action) (length b.0) qs) (sym rows) cover)
            ∙ sym (ap (option_map (drop (first_byte d.action))) b.1);
        sized = own_sized content size (Some s) true blocks old new parts given_up files h f d own there l;
      }

  pub fills : AllFill content size s new files (filter is_landing new.items)
  fills =
      fill_all content size s new files (filter is_landing new.items)
      (all_paired content size (Some s) true blocks old new parts given_up files h (Fills content size s new) own_fills)

-- each lands with the bytes of the source
pub joined_land : {P : Type 0} → JoinedFilesLand P
joined_land content size s blocks old new parts given_up files h stand =
    ready_files_land content size s new files (fills content size s blocks old new parts given_up files h stand)
