-- What a copy leaves of a plan and makes ready, and why it may end.
use Rattle.std.proofs.Common.{◌≡◌, ◌≢◌, ◌∙◌, ◌⊎◌, inl, inr, ⊎_elim, ℕ, zero, suc, ◌+◌, ◌-◌, ◌*◌, ◌<◌, ◌≤◌, ◌==◌, min, Bool, true, false, cond, not, ◌||◌, nat_eq, if◌then◌else◌, List, [], ◌∷◌, length, map, take, drop, count_by, All, Contains, slice_get, Option, Some, None, IfSome, IsSomeAnd, option_map, option_and_then, is_some, refl, sym, ap, ap₂, subst, arith}
use Rattle.std.specs.Int.{div_ceil}
use Rattle.std.specs.List.{range_with_len}
use Rattle.std.specs.Option.{option_map_or}
use Rattle.std.proofs.lemmas.Bool.{and_from, and_parts, cases_Bool, cond-true, cond-false, or_cases, le-leb, eqb-true, ltb-true, true≢false}
use Rattle.std.proofs.lemmas.Bool.Decides.{nat_tests}
use Rattle.std.proofs.lemmas.List.{get_or-map}
use Rattle.std.proofs.lemmas.List.Elements.{All-nil, All-cons, All-append, All-weaker, All-same}
use Rattle.std.proofs.lemmas.List.Sums.{sum_by-cons, length-filter}
use Rattle.std.proofs.lemmas.Option.{slice_get_within, get_or_from_slice_get, same_Some, none-some}
use Rattle.dc_path.specs.Paths.{Names}
use Rattle.dc_attrs.specs.Attributes.{Attributes}
use Rattle.dc_attrs.specs.Trees.{Node, Dir, File, Tree, IsTree, bytes_of}
use Rattle.dc_attrs.specs.declared.shown.Seen.{Seen}
use Rattle.dc_attrs.proofs.TreeLemmas.{seen_from-there}
use Rattle.dc_listing.specs.Entries.{Entry, entry_of}
use Rattle.dc_listing.specs.Walks.{IsShown}
use Rattle.dc_decide.specs.Looking.{once_if}
use Rattle.dc_decide.specs.Plans.{Decision, Decisions, IsDecision, is_folder, extends_within}
use Rattle.dc_decide.specs.declared.action.Action.{Action}
use Rattle.dc_decide.specs.declared.action.Action.TheVariants as action
use Rattle.dc_pieces.specs.Cutting.{is_cut, chunk_size, chunk_at, chunks, piece_to_end, file_pieces, pieces_by, pieces_of, pieces_from, plan_pieces}
use Rattle.dc_pieces.specs.declared.piece.Piece.{Piece}
use Rattle.dc_pieces.proofs.CutLemmas.{chunk_begins}
use Rattle.dc_split.specs.Bundles.{once_below, numbers}
use Rattle.dc_split.proofs.Counting.{times-numbers}
use Rattle.dc_attempt.specs.Ranges.{range_in, is_file, lies_in}
use Rattle.dc_commit.specs.Landing.{is_landing, is_written}
use Rattle.dc_join.specs.Leaving.{is_piece_of, lacks_piece, left_out_if, AreLeftOut}
use Rattle.dc_crew.specs.Ends.{EndsCopy, is_failure}
use Rattle.dc_crew.specs.Jobs.{job_of, source_path, no_piece, piece_at, path_at, has_range}
use Rattle.dc_crew.specs.declared.copy.CopyError.{CopyError}
use Rattle.dc_crew.specs.declared.copy.CopyError.TheVariants.{Fault, Halted}
use Rattle.dc_crew.specs.declared.halts.Halt.TheVariants as halts
use Rattle.dc_crew.proofs.SumLemmas.{count_le}
use Rattle.dc_engine.specs.Counting.{is_out, failed_of}
use Rattle.dc_engine.specs.Copying.{IsKeptOrLeft, LeavesFiles, decision_of, IsPlaceOf, IsOriginOf, IsOutcomeOf, IsToWrite, IsToRead, AreShown, is_of_copy, IfCopyFailed, IfDiffers, IfChanged}
use Rattle.dc_engine.specs.Outcomes.{is_target_fault}
use Rattle.dc_engine.specs.declared.outcome.Outcome.{Outcome}
use Rattle.dc_engine.specs.declared.outcome.Outcome.TheVariants as outcome
use Rattle.dc_engine.specs.declared.outcome.Phase.TheVariants as phase_of

-- ---- the pieces of a plan
-- a piece is one of a file that is written, and ends in it
pub record IsOf (d : Decision) (p : Piece) : Type 0 where
  pub written : is_landing d ≡ true
  pub within : IsDecision d → p.from + p.length ≤ d.item.length

-- each piece is one of its item
abbrev pub AreOf : Decisions → List Piece → Type 0
AreOf plan pieces = All (λ p. IsSomeAnd (slice_get plan.items p.item) (λ d. IsOf d p)) pieces

chunk_ends : (size long a : ℕ) → a < div_ceil long size → a * size + min size (long - a * size) ≤ long
chunk_ends zero long a l = omega arith
chunk_ends (suc n) long a l = omega (arith, chunk_begins a (suc n) long (omega arith) l)

chunks_end : (item size long a n : ℕ) → a + n ≤ div_ceil long size → All (λ (p : Piece). (p.item ≡ item) × (p.from + p.length ≤ long)) (map (chunk_at item size long) (range_with_len a n))
chunks_end item size long a zero l = All-nil (λ (p : Piece). (p.item ≡ item) × (p.from + p.length ≤ long))
chunks_end item size long a (suc n) l =
    All-cons (λ (p : Piece). (p.item ≡ item) × (p.from + p.length ≤ long)) (chunk_at item size long a) (map (chunk_at item size long) (range_with_len (a + 1) n))
    (refl, chunk_ends size long a (omega arith)) (chunks_end item size long (a + 1) n (omega arith))

one_piece : (P : Piece → Type 0) (p : Piece) → P p → All P (p ∷ [])
one_piece P p h = All-cons P p [] h (All-nil P)

file_ends : (blocks item block long : ℕ) → (is_cut blocks block long ≡ true) ⊎ (is_cut blocks block long ≡ false) → All (λ (p : Piece). (p.item ≡ item) × (p.from + p.length ≤ long)) (file_pieces blocks item block long)
file_ends blocks item block long (inl cut) =
    subst (All (λ (p : Piece). (p.item ≡ item) × (p.from + p.length ≤ long))) (sym (cond-true (is_cut blocks block long) (chunks item (chunk_size blocks block) long) (piece_to_end item 0 long ∷ []) cut))
    (chunks_end item (chunk_size blocks block) long 0 (div_ceil long (chunk_size blocks block)) (omega arith))
file_ends blocks item block long (inr whole) =
    subst (All (λ (p : Piece). (p.item ≡ item) × (p.from + p.length ≤ long))) (sym (cond-false (is_cut blocks block long) (chunks item (chunk_size blocks block) long) (piece_to_end item 0 long ∷ []) whole))
    (one_piece (λ (p : Piece). (p.item ≡ item) × (p.from + p.length ≤ long)) (piece_to_end item 0 long) (refl, omega arith))

-- the pieces by an action are of the item, and end in it where the action fits its length; such an action writes
record IsBy (item : ℕ) (entry : Entry) (act : Action) (p : Piece) : Type 0 where
  is : p.item ≡ item
  written : is_written act ≡ true
  within : extends_within act entry.length ≡ true → p.from + p.length ≤ entry.length

pieces_are : (blocks item : ℕ) (entry : Entry) (act : Action) → All (IsBy item entry act) (pieces_by blocks item entry act)
pieces_are blocks item entry action.Folder = All-nil (IsBy item entry action.Folder)
pieces_are blocks item entry action.Skip = All-nil (IsBy item entry action.Skip)
pieces_are blocks item entry action.Replace =
    All-weaker (λ (p : Piece). (p.item ≡ item) × (p.from + p.length ≤ entry.length)) (IsBy item entry action.Replace) (λ p h. record { is = h.0; written = refl; within = λ _. h.1 })
    (file_pieces blocks item entry.attrs.block_size entry.length) (file_ends blocks item entry.attrs.block_size entry.length (cases_Bool (is_cut blocks entry.attrs.block_size entry.length)))
pieces_are blocks item entry (action.Extend from) =
    one_piece (IsBy item entry (action.Extend from)) (piece_to_end item from entry.length)
    (record { is = refl; written = refl; within = λ (h : extends_within (action.Extend from) entry.length ≡ true). let l = ltb-true from entry.length h in omega arith })

item_pieces : (blocks item : ℕ) (d : Decision) → (d.out ≡ true) ⊎ (d.out ≡ false) → All (λ (p : Piece). (p.item ≡ item) × IsOf d p) (pieces_of blocks item d)
item_pieces blocks item d (inl out) =
    subst (All (λ (p : Piece). (p.item ≡ item) × IsOf d p)) (sym (cond-true d.out [] (pieces_by blocks item d.item d.action) out)) (All-nil (λ (p : Piece). (p.item ≡ item) × IsOf d p))
item_pieces blocks item d (inr on) =
    subst (All (λ (p : Piece). (p.item ≡ item) × IsOf d p)) (sym (cond-false d.out [] (pieces_by blocks item d.item d.action) on))
    (All-weaker (IsBy item d.item d.action) (λ (p : Piece). (p.item ≡ item) × IsOf d p)
    (λ p h. (h.is, record { written = and_from (not d.out) (is_written d.action) (ap not on) h.written; within = λ (k : IsDecision d). h.within k.extends }))
    (pieces_by blocks item d.item d.action) (pieces_are blocks item d.item d.action))

-- a piece of an item at a place after so many others
abbrev IsAmong : ℕ → List Decision → Piece → Type 0
IsAmong first ds p = (n : ℕ) × (p.item ≡ first + n) × IsSomeAnd (slice_get ds n) (λ d. IsOf d p)

items_pieces : (blocks first : ℕ) (ds : List Decision) → All (IsAmong first ds) (pieces_from blocks first ds)
items_pieces blocks first [] = All-nil (IsAmong first [])
items_pieces blocks first (d ∷ ds) =
    All-append (IsAmong first (d ∷ ds)) (pieces_of blocks first d) (pieces_from blocks (first + 1) ds)
    (All-weaker (λ (p : Piece). (p.item ≡ first) × IsOf d p) (IsAmong first (d ∷ ds)) (λ p h. (0, omega (arith, h.0), h.1)) (pieces_of blocks first d) (item_pieces blocks first d (cases_Bool d.out)))
    (All-weaker (IsAmong (first + 1) ds) (IsAmong first (d ∷ ds)) (λ p h. (suc h.0, omega (arith, h.1), h.2)) (pieces_from blocks (first + 1) ds) (items_pieces blocks (first + 1) ds))

pub pieces_belong : (blocks : ℕ) (plan : Decisions) (pieces : List Piece) → pieces ≡ plan_pieces blocks plan → AreOf plan pieces
pieces_belong blocks plan pieces e =
    All-same (λ (p : Piece). IsSomeAnd (slice_get plan.items p.item) (λ d. IsOf d p)) pieces (plan_pieces blocks plan) e
    (All-weaker (IsAmong 0 plan.items) (λ (p : Piece). IsSomeAnd (slice_get plan.items p.item) (λ d. IsOf d p))
    (λ p h. let same : h.0 ≡ p.item = omega (arith, h.1) in subst (λ (n : ℕ). IsSomeAnd (slice_get plan.items n) (λ d. IsOf d p)) same h.2)
    (plan_pieces blocks plan) (items_pieces blocks 0 plan.items))

-- what is found has a place
found_below : {A : Type 0} (P : A → Type 0) (xs : List A) (n : ℕ) (o : Option A) → slice_get xs n ≡ o → IsSomeAnd o P → n < length xs
found_below P xs n None e h = absurd h
found_below P xs n (Some x) e h = slice_get_within xs n x e

pub pieces_inside : (plan : Decisions) (pieces : List Piece) → AreOf plan pieces → All (λ (p : Piece). p.item < length plan.items) pieces
pieces_inside plan pieces all =
    All-weaker (λ (p : Piece). IsSomeAnd (slice_get plan.items p.item) (λ d. IsOf d p)) (λ (p : Piece). p.item < length plan.items)
    (λ p h. found_below (λ (d : Decision). IsOf d p) plan.items p.item (slice_get plan.items p.item) refl h) pieces all

-- what holds of all holds of the one at a place
all_at : {A : Type 0} (P : A → Type 0) (xs : List A) (n : ℕ) (x : A) → slice_get xs n ≡ Some x → All P xs → P x
all_at P xs n x e all = subst P (get_or_from_slice_get xs n x x e) (all n x (slice_get_within xs n x e))

-- ---- the file of a piece
record IsFound (plan : Decisions) (pieces : List Piece) (p : ℕ) (Q : Decision → Type 0) : Type 0 where
  piece : Piece
  decision : Decision
  there : slice_get pieces p ≡ Some piece
  listed : slice_get plan.items piece.item ≡ Some decision
  belongs : IsOf decision piece
  fact : Q decision

module _ (plan : Decisions) (pieces : List Piece) (all : AreOf plan pieces) (p : ℕ) (Q : Decision → Type 0) where
  found_item : (piece : Piece) → slice_get pieces p ≡ Some piece → (o : Option Decision) → slice_get plan.items piece.item ≡ o → IsSomeAnd o (λ d. IsOf d piece) → IsSomeAnd o Q → IsFound plan pieces p Q
  found_item piece there None e h q = absurd q
  found_item piece there (Some d) e h q = record { piece = piece; decision = d; there = there; listed = e; belongs = h; fact = q }

  found_piece : (o : Option Piece) → slice_get pieces p ≡ o → IsSomeAnd (option_and_then (λ piece. slice_get plan.items piece.item) o) Q → IsFound plan pieces p Q
  found_piece None e q = absurd q
  found_piece (Some piece) e q =
      found_item piece e (slice_get plan.items piece.item) refl (all_at (λ (x : Piece). IsSomeAnd (slice_get plan.items x.item) (λ d. IsOf d x)) pieces p piece e all) q

  found : IsSomeAnd (decision_of plan pieces p) Q → IsFound plan pieces p Q
  found q = found_piece (slice_get pieces p) refl q

contains_at : {A : Type 0} (xs : List A) (n : ℕ) (x : A) → slice_get xs n ≡ Some x → Contains xs x
contains_at xs n x e = (n, slice_get_within xs n x e, get_or_from_slice_get xs n x x e)

pub to_write : (plan : Decisions) (pieces : List Piece) (p : ℕ) (path : Names) → AreOf plan pieces → IsPlaceOf plan pieces p path → IsToWrite plan path
to_write plan pieces p path all h =
    let f = found plan pieces all p (λ (d : Decision). path ≡ d.item.rel) h in
    record { decision = f.decision; listed = contains_at plan.items f.piece.item f.decision f.listed; written = f.belongs.written; named = f.fact }

pub to_read : (plan : Decisions) (pieces : List Piece) (p : ℕ) (path : Names) → AreOf plan pieces → IsOriginOf plan pieces p path → IsToRead plan path
to_read plan pieces p path all h =
    let f = found plan pieces all p (λ (d : Decision). IsDecision d × (path ≡ d.item.from)) h in
    record { decision = f.decision; listed = contains_at plan.items f.piece.item f.decision f.listed; written = f.belongs.written; named = f.fact.1 }

-- ---- a file that stands as it is listed has the bytes of its pieces
range_there : (b : List ℕ) (from count : ℕ) → from + count ≤ length b → is_some (range_in (Some b) from count) ≡ true
range_there b from count l = ap (λ (c : Bool). is_some (if c then Some (take count (drop from b)) else None)) (le-leb (from + count) (length b) l)

lies : (s : Tree) (path : Names) (b : List ℕ) (a : Attributes) (from count : ℕ) → IsTree s → s path ≡ Some (File b a) → from + count ≤ length b → lies_in (Some s) path from count ≡ true
lies s path b a from count tree there l =
    ap (λ (z : Seen). is_some (if is_file z then range_in (bytes_of (s path)) from count else None)) (seen_from-there s [] path (File b a) tree there)
    ∙ ap (λ (o : Option Node). is_some (range_in (bytes_of o) from count)) there
    ∙ range_there b from count l

-- a file is listed, so a file stands there
shown_lies : (s : Tree) (d : Decision) (from count : ℕ) (node : Node) → IsTree s → d.item.dir ≡ false → s d.item.from ≡ Some node → d.item ≡ entry_of d.item.rel d.item.from node → from + count ≤ d.item.length → lies_in (Some s) d.item.from from count ≡ true
shown_lies s d from count (Dir a) tree file there is l = let dir : d.item.dir ≡ true = ap (λ (e : Entry). e.dir) is in absurd (true≢false (sym dir ∙ file))
shown_lies s d from count (File b a) tree file there is l =
    let long : d.item.length ≡ length b = ap (λ (e : Entry). e.length) is in lies s d.item.from b a from count tree there (omega arith)

written_file : (act : Action) → is_written act ≡ true → is_folder act ≡ false
written_file action.Folder h = absurd (true≢false (sym h))
written_file action.Skip h = absurd (true≢false (sym h))
written_file action.Replace h = refl
written_file (action.Extend from) h = refl

landing_file : (d : Decision) → IsDecision d → is_landing d ≡ true → d.item.dir ≡ false
landing_file d k h = sym k.kind ∙ written_file d.action ((and_parts (not d.out) (is_written d.action) h).1)

module _ (tells : Bool) (plan : Decisions) (pieces : List Piece) (all : AreOf plan pieces) (p : ℕ) (path : Names) (at : IsOriginOf plan pieces p path) where
  lies_there : (s : Tree) → IsTree s → AreShown s plan.items → has_range (job_of (Some s) tells plan.items pieces) p ≡ true
  lies_there s tree shown =
      let f = found plan pieces all p (λ (d : Decision). IsDecision d × (path ≡ d.item.from)) at in
      let one : piece_at pieces p ≡ f.piece = get_or_from_slice_get pieces p f.piece no_piece f.there in
      let is : IsShown s f.decision.item = all_at (λ (d : Decision). IsShown s d.item) plan.items f.piece.item f.decision f.listed shown in
      let named : path_at (map source_path plan.items) f.piece.item ≡ f.decision.item.from =
      get_or-map source_path plan.items f.piece.item f.decision [] (slice_get_within plan.items f.piece.item f.decision f.listed) ∙ ap source_path (get_or_from_slice_get plan.items f.piece.item f.decision f.decision f.listed) in
      ap (λ (x : Piece). lies_in (Some s) (path_at (map source_path plan.items) x.item) x.from x.length) one
      ∙ ap (λ (q : Names). lies_in (Some s) q f.piece.from f.piece.length) named
      ∙ shown_lies s f.decision f.piece.from f.piece.length is.node tree (landing_file f.decision f.fact.0 f.belongs.written) is.stands is.is (f.belongs.within f.fact.0)

  pub not_changed : (told : Option Tree) → has_range (job_of told tells plan.items pieces) p ≡ false → IfSome told (λ s. IsTree s → AreShown s plan.items → ⊥)
  not_changed None h = tt
  not_changed (Some s) h = λ tree shown. true≢false (sym (lies_there s tree shown) ∙ h)

-- ---- why a copy ends
module _ (plan : Decisions) (pieces : List Piece) (F : Outcome → Type 0) (memory : F outcome.Memory) where
  -- what holds of each outcome that a copy may have, as it ended
  by_end : (e : CopyError) (o : Outcome) → IsOutcomeOf plan pieces e o → (e ≡ Fault → F (outcome.TargetFault phase_of.Copy 0))
      → ((p : ℕ) (x y : List ℕ) (path : Names) → e ≡ Halted (halts.Differs p x y) → IsPlaceOf plan pieces p path → F (outcome.Differs path x y))
      → ((p : ℕ) (path : Names) → e ≡ Halted (halts.Changed p) → IsOriginOf plan pieces p path → F (outcome.Changed path))
      → ((p : ℕ) (path : Names) → e ≡ Halted (halts.Failed p) → IsPlaceOf plan pieces p path → F (outcome.CopyFailed path)) → F o
  by_end Fault o h fault differs changed failed = subst F (sym h) (fault refl)
  by_end (Halted halts.Memory) o h fault differs changed failed = subst F (sym h) memory
  by_end (Halted (halts.Differs p x y)) o h fault differs changed failed =
      ⊎_elim (λ (m : o ≡ outcome.Memory). subst F (sym m) memory)
      (λ (w : (path : Names) × (o ≡ outcome.Differs path x y) × IsPlaceOf plan pieces p path). subst F (sym w.1) (differs p x y w.0 refl w.2)) h
  by_end (Halted (halts.Changed p)) o h fault differs changed failed =
      ⊎_elim (λ (m : o ≡ outcome.Memory). subst F (sym m) memory)
      (λ (w : (path : Names) × (o ≡ outcome.Changed path) × IsOriginOf plan pieces p path). subst F (sym w.1) (changed p w.0 refl w.2)) h
  by_end (Halted (halts.Failed p)) o h fault differs changed failed =
      ⊎_elim (λ (m : o ≡ outcome.Memory). subst F (sym m) memory)
      (λ (w : (path : Names) × (o ≡ outcome.CopyFailed path) × IsPlaceOf plan pieces p path). subst F (sym w.1) (failed p w.0 refl w.2)) h

-- each kind of outcome with its cause
pub record HasCauses (told : Option Tree) (tells : Bool) (plan : Decisions) (refused alone four calm_source calm_target : Type 0) (o : Outcome) : Type 0 where
  pub kind : is_of_copy o ≡ true
  pub cause : is_target_fault o ≡ true → refused
  pub given_up : IfCopyFailed o (λ _. alone)
  pub four_failed : IfCopyFailed o (λ _. four)
  pub named : IfCopyFailed o (IsToWrite plan)
  pub differ : IfDiffers o (λ path x y. x ≢ y)
  pub untold : IfDiffers o (λ path x y. tells ≡ false)
  pub differs_at : IfDiffers o (λ path x y. IsToWrite plan path)
  pub changed : IfChanged o (λ _. IfSome told (λ s. IsTree s → AreShown s plan.items → ⊥))
  pub changed_at : IfChanged o (IsToRead plan)
  pub unfailed : calm_source → calm_target → IfCopyFailed o (λ _. ⊥)
  pub steady : calm_source → calm_target → is_target_fault o ≡ false

module _ (told : Option Tree) (tells : Bool) (plan : Decisions) (pieces : List Piece) (all : AreOf plan pieces) (refused alone four calm_source calm_target : Type 0) (e : CopyError)
    (ends : EndsCopy (job_of told tells plan.items pieces) refused (alone × four) e) (never : calm_source → calm_target → is_failure e ≡ false) where
  refused_by : e ≡ Fault → refused
  refused_by is = subst (EndsCopy (job_of told tells plan.items pieces) refused (alone × four)) is ends

  failed_by : (p : ℕ) → e ≡ Halted (halts.Failed p) → alone × four
  failed_by p is = (subst (EndsCopy (job_of told tells plan.items pieces) refused (alone × four)) is ends).1

  differs_by : (p : ℕ) (x y : List ℕ) → e ≡ Halted (halts.Differs p x y) → (x ≢ y) × (tells ≡ false)
  differs_by p x y is = subst (EndsCopy (job_of told tells plan.items pieces) refused (alone × four)) is ends

  changed_by : (p : ℕ) → e ≡ Halted (halts.Changed p) → has_range (job_of told tells plan.items pieces) p ≡ false
  changed_by p is = subst (EndsCopy (job_of told tells plan.items pieces) refused (alone × four)) is ends

  unlike : (f : CopyError) → e ≡ f → is_failure f ≡ true → calm_source → calm_target → ⊥
  unlike f is fails a b = true≢false (sym fails ∙ sym (ap is_failure is) ∙ never a b)

  pub has_causes : (o : Outcome) → IsOutcomeOf plan pieces e o → HasCauses told tells plan refused alone four calm_source calm_target o
  has_causes o h = by_end plan pieces (HasCauses told tells plan refused alone four calm_source calm_target)
      (record { kind = refl; cause = λ (x : false ≡ true). absurd (true≢false (sym x)); given_up = tt; four_failed = tt; named = tt; differ = tt; untold = tt; differs_at = tt; changed = tt; changed_at = tt; unfailed = λ _ _. tt; steady = λ _ _. refl })
      e o h
      (λ is. record { kind = refl; cause = λ _. refused_by is; given_up = tt; four_failed = tt; named = tt; differ = tt; untold = tt; differs_at = tt; changed = tt; changed_at = tt; unfailed = λ _ _. tt; steady = λ a b. absurd (unlike Fault is refl a b) })
      (λ p x y path is at. record { kind = refl; cause = λ (z : false ≡ true). absurd (true≢false (sym z)); given_up = tt; four_failed = tt; named = tt; differ = (differs_by p x y is).0; untold = (differs_by p x y is).1; differs_at = to_write plan pieces p path all at; changed = tt; changed_at = tt; unfailed = λ _ _. tt; steady = λ _ _. refl })
      (λ p path is at. record { kind = refl; cause = λ (z : false ≡ true). absurd (true≢false (sym z)); given_up = tt; four_failed = tt; named = tt; differ = tt; untold = tt; differs_at = tt; changed = not_changed tells plan pieces all p path at told (changed_by p is); changed_at = to_read plan pieces p path all at; unfailed = λ _ _. tt; steady = λ _ _. refl })
      (λ p path is at. record { kind = refl; cause = λ (z : false ≡ true). absurd (true≢false (sym z)); given_up = (failed_by p is).0; four_failed = (failed_by p is).1; named = to_write plan pieces p path all at; differ = tt; untold = tt; differs_at = tt; changed = tt; changed_at = tt; unfailed = λ a b. unlike (Halted (halts.Failed p)) is refl a b; steady = λ _ _. refl })

-- ---- what is left out
-- a piece of the item was given up
lacked : (pieces : List Piece) (n : ℕ) (numbers : List ℕ) → lacks_piece pieces n numbers ≡ true → (p : ℕ) × IsSomeAnd (slice_get pieces p) (λ x. x.item ≡ n)
lacked pieces n [] h = absurd (true≢false (sym h))
lacked pieces n (number ∷ numbers) h =
    ⊎_elim (λ (here : is_piece_of pieces n number ≡ true). (number, here_is (slice_get pieces number) here)) (λ (later : lacks_piece pieces n numbers ≡ true). lacked pieces n numbers later)
    (or_cases (is_piece_of pieces n number) (lacks_piece pieces n numbers) h)
  where
    here_is : (o : Option Piece) → option_map_or (λ x. nat_eq x.item n) o false ≡ true → IsSomeAnd o (λ x. x.item ≡ n)
    here_is None e = absurd (true≢false (sym e))
    here_is (Some x) e = eqb-true x.item n e

module _ (plan : Decisions) (pieces : List Piece) (all : AreOf plan pieces) where
  piece_lands : (n : ℕ) (d : Decision) → slice_get plan.items n ≡ Some d → (p : ℕ) (o : Option Piece) → slice_get pieces p ≡ o → IsSomeAnd o (λ x. x.item ≡ n) → is_landing d ≡ true
  piece_lands n d e p None is h = absurd h
  piece_lands n d e p (Some x) is h =
      let one : IsSomeAnd (slice_get plan.items x.item) (λ d. IsOf d x) = all_at (λ (y : Piece). IsSomeAnd (slice_get plan.items y.item) (λ d. IsOf d y)) pieces p x is all in
      let there : slice_get plan.items x.item ≡ Some d = ap (slice_get plan.items) h ∙ e in
      (subst (λ (o : Option Decision). IsSomeAnd o (λ d. IsOf d x)) there one).written

  lacking_lands : (numbers : List ℕ) (n : ℕ) (d : Decision) → slice_get plan.items n ≡ Some d → lacks_piece pieces n numbers ≡ true → is_landing d ≡ true
  lacking_lands numbers n d e h = let w = lacked pieces n numbers h in piece_lands n d e w.0 (slice_get pieces w.0) refl w.1

  left_or_kept : (numbers : List ℕ) (n : ℕ) (d : Decision) → slice_get plan.items n ≡ Some d → (b : Bool) → lacks_piece pieces n numbers ≡ b → IsKeptOrLeft d (left_out_if b d)
  left_or_kept numbers n d e true h = inr (lacking_lands numbers n d e h, refl)
  left_or_kept numbers n d e false h = inl refl

  pub leaves_files : (numbers : List ℕ) (new : Decisions) → new.base ≡ plan.base → length new.items ≡ length plan.items → AreLeftOut pieces numbers plan.items new.items → LeavesFiles plan new
  leaves_files numbers new base len left = record {
    base = base;
    len = len;
    each = λ n d e. subst (λ (o : Option Decision). IsSomeAnd o (IsKeptOrLeft d)) (sym (left n ∙ ap (option_map (left_out_if (lacks_piece pieces n numbers))) e)) (left_or_kept numbers n d e (lacks_piece pieces n numbers) refl);
  }

-- where no piece was given up, all is as it was
same_items : (old new : List Decision) → ((n : ℕ) → slice_get new n ≡ option_map (left_out_if false) (slice_get old n)) → new ≡ old
same_items [] [] h = refl
same_items [] (e ∷ es) h = absurd (none-some e (sym (h 0)))
same_items (d ∷ ds) [] h = absurd (none-some d (h 0))
same_items (d ∷ ds) (e ∷ es) h = ap₂ (λ (x : Decision) (xs : List Decision). x ∷ xs) (same_Some e d (h 0)) (same_items ds es (λ n. h (suc n)))

pub all_kept : (pieces : List Piece) (numbers : List ℕ) (old new : Decisions) → numbers ≡ [] → new.base ≡ old.base → AreLeftOut pieces numbers old.items new.items → new ≡ old
all_kept pieces numbers old new none base left =
    ap₂ (λ (b : Names) (ds : List Decision). decisions_of b ds) base (same_items old.items new.items (subst (λ (ns : List ℕ). AreLeftOut pieces ns old.items new.items) none left))
  where
    decisions_of : Names → List Decision → Decisions
    decisions_of b ds = record { base = b; items = ds }

-- ---- how many are left out
left_more : (b : Bool) (d : Decision) → once_if (is_out (left_out_if b d)) ≤ once_if (is_out d) + once_if b
left_more true d = omega arith
left_more false d = omega arith

outs_more : (f : ℕ → Bool) (k : ℕ) (old new : List Decision) → ((n : ℕ) → slice_get new n ≡ option_map (left_out_if (f (k + n))) (slice_get old n)) → count_by is_out new ≤ count_by is_out old + count_by f (range_with_len k (length old))
outs_more f k [] [] h = omega arith
outs_more f k [] (e ∷ es) h = absurd (none-some e (sym (h 0)))
outs_more f k (d ∷ ds) [] h = absurd (none-some (left_out_if (f (k + 0)) d) (h 0))
outs_more f k (d ∷ ds) (e ∷ es) h =
    let at : k + 0 ≡ k = omega arith in
    let one : e ≡ left_out_if (f k) d = same_Some e (left_out_if (f k) d) (h 0 ∙ ap (λ (m : ℕ). Some (left_out_if (f m) d)) at) in
    let out : once_if (is_out e) ≡ once_if (is_out (left_out_if (f k) d)) = ap (λ (x : Decision). once_if (is_out x)) one in
    let more = left_more (f k) d in
    let rest = outs_more f (k + 1) ds es (λ n. let next : k + suc n ≡ k + 1 + n = omega arith in h (suc n) ∙ ap (λ (m : ℕ). option_map (left_out_if (f m)) (slice_get ds n)) next) in
    let a = sum_by-cons (λ (x : Decision). cond {A = ℕ} (is_out x) 1 0) e es in
    let b = sum_by-cons (λ (x : Decision). cond {A = ℕ} (is_out x) 1 0) d ds in
    let c = sum_by-cons (λ (x : ℕ). cond {A = ℕ} (f x) 1 0) k (range_with_len (k + 1) (length ds)) in
    omega arith

count_none : (ns : List ℕ) → count_by (λ (n : ℕ). false) ns ≡ 0
count_none [] = refl
count_none (n ∷ ns) = let a = sum_by-cons (λ (x : ℕ). cond {A = ℕ} false 1 0) n ns in let i = count_none ns in omega arith

or_more : (x y : Bool) → once_if (x || y) ≤ once_if x + once_if y
or_more true y = omega arith
or_more false y = omega arith

count_or : (f g : ℕ → Bool) (ns : List ℕ) → count_by (λ (n : ℕ). f n || g n) ns ≤ count_by f ns + count_by g ns
count_or f g [] = omega arith
count_or f g (n ∷ ns) =
    let a = sum_by-cons (λ (x : ℕ). cond {A = ℕ} (f x || g x) 1 0) n ns in
    let b = sum_by-cons (λ (x : ℕ). cond {A = ℕ} (f x) 1 0) n ns in
    let c = sum_by-cons (λ (x : ℕ). cond {A = ℕ} (g x) 1 0) n ns in
    let m = or_more (f n) (g n) in
    let i = count_or f g ns in
    omega arith

eq_back : (a b : ℕ) → once_if (nat_eq a b) ≤ once_if (b == a)
eq_back a b = grind (arith, nat_tests)

below_one : (n x : ℕ) → once_below n x ≤ 1
below_one n x = grind (arith, nat_tests)

-- a piece is one of one item
of_one : (o : Option Piece) (n : ℕ) → count_by (λ (k : ℕ). option_map_or (λ p. nat_eq p.item k) o false) (range_with_len 0 n) ≤ 1
of_one None n = let z = count_none (range_with_len 0 n) in omega arith
of_one (Some p) n =
    let a = count_le (λ (k : ℕ). nat_eq p.item k) (λ (k : ℕ). k == p.item) (range_with_len 0 n) (λ (k : ℕ). eq_back p.item k) in
    let b : count_by (λ (k : ℕ). k == p.item) (range_with_len 0 n) ≡ once_below n p.item = times-numbers p.item n in
    let c = below_one n p.item in
    omega arith

few_lack : (pieces : List Piece) (n : ℕ) (numbers : List ℕ) → count_by (λ (k : ℕ). lacks_piece pieces k numbers) (range_with_len 0 n) ≤ length numbers
few_lack pieces n [] = let z = count_none (range_with_len 0 n) in omega arith
few_lack pieces n (number ∷ numbers) =
    let a = count_or (λ (k : ℕ). is_piece_of pieces k number) (λ (k : ℕ). lacks_piece pieces k numbers) (range_with_len 0 n) in
    let b = of_one (slice_get pieces number) n in
    let i = few_lack pieces n numbers in
    omega arith

-- no more items are left out than pieces were given up
pub few_left : (pieces : List Piece) (numbers : List ℕ) (old new : List Decision) → AreLeftOut pieces numbers old new → failed_of new ≤ failed_of old + length numbers
few_left pieces numbers old new left =
    let a = length-filter is_out new in
    let b = length-filter is_out old in
    let c = outs_more (λ (k : ℕ). lacks_piece pieces k numbers) 0 old new (λ n. let at : n ≡ 0 + n = omega arith in left n ∙ ap (λ (m : ℕ). option_map (left_out_if (lacks_piece pieces m numbers)) (slice_get old n)) at) in
    let d = few_lack pieces (length old) numbers in
    omega arith
