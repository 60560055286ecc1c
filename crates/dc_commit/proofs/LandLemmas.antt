-- Files that land, one after the other.
use Rattle.std.proofs.Common.{◌≡◌, ℕ, ◌+◌, ◌-◌, ◌<◌, ◌≤◌, Bool, true, false, ◌&&◌, nat_le, List, [], ◌∷◌, ◌++◌, length, map, get_or, slice_get, zero, suc, Option, Some, None, Err, IfSome, refl, sym, ap, ◌∙◌, subst, arith, append_assoc}
use Rattle.std.proofs.lemmas.Bool.Decides.{nat_tests}
use Rattle.std.proofs.lemmas.List.{map-append, append-nil, length-map}
use Rattle.std.proofs.lemmas.List.Folds.{list_all-append}
use Rattle.std.proofs.lemmas.List.Sums.{sum_by-append, sum_by-cons}
use Rattle.std.specs.Cmp.{first_so, second_so}
use Rattle.std.specs.Iterator.{Yields}
use Rattle.std.specs.List.{list_all, sum_by}
use Rattle.std.specs.Option.{is_some, option_map, option_map_or}
use Rattle.dc_path.specs.Paths.{Names}
use Rattle.dc_attrs.specs.Trees.{Tree, updated}
use Rattle.dc_fs.specs.Answers.{WriteAnswers, refused_land}
use Rattle.dc_fs.specs.Rest.{Rest, Lands}
use Rattle.dc_fs.specs.Temporaries.{all_told, landed_by}
use Rattle.dc_fs.specs.Views.{View}
use Rattle.dc_fs.specs.declared.errors.WriteError.{WriteError}
use Rattle.dc_fs.specs.declared.target.Mode.{Mode}
use Rattle.dc_decide.specs.Plans.{Decision, Decisions, item_rel}
use Rattle.dc_decide.specs.declared.action.Action.TheVariants as action
use Rattle.dc_commit.specs.Landing.{Landing, HaveLanded, LandStops, StaysOff, StopsBefore, all_landed, is_landing, is_ready, is_told, land_step, landed_as, landed_of, landing_mode, landing_of, part_count, parts_of}
use Rattle.dc_commit.specs.Settings.{place_of}
use Rattle.dc_commit.specs.Steps.{Answers, after}
use Rattle.dc_commit.specs.declared.landing.Ready.{Ready}
use Rattle.dc_commit.specs.declared.steps.StepError.{StepError}
use Rattle.dc_commit.specs.declared.steps.StepError.TheVariants as step_error
use Rattle.dc_commit.proofs.StepLemmas.{after-append, told_then, tree_refuses}

-- ---- one file
stands_as : (told : Option (List ℕ)) (mode : Mode) (p : Names) (old new : Option Tree) → IfSome told (λ bytes. new ≡ option_map (λ t. updated t p (landed_by mode bytes)) old) → is_some told ≡ true → new ≡ option_map (λ t. updated t p (landed_as mode told)) old
stands_as None mode p old new h k = absurd (cc)
stands_as (Some bytes) mode p old new h k = h

one_part : (l : Landing) → sum_by part_count (l ∷ []) ≡ length l.parts
one_part l = omega arith

pub one_landed : (l : Landing) (old new : View) → Lands l.parts l.bytes l.place l.mode old.rest new.rest → IfSome (all_told l.parts) (λ bytes. new.tree ≡ option_map (λ t. updated t l.place (landed_by l.mode bytes)) old.tree) → HaveLanded (l ∷ []) old new
one_landed l old new r h = record {
  rest = r.landed ∙ ap (λ n. record old.rest { landed = old.rest.landed ++ landed_of l ∷ []; scratch = old.rest.scratch - n }) (sym (one_part l));
  tree = λ k. stands_as (all_told l.parts) l.mode l.place old.tree new.tree h (first_so (is_told l) true k);
}

pub stays_off : (count : ℕ) (l : Landing) (old new : View) (error : WriteError) (r : StepError) → Answers error l.place count r → new.tree ≡ old.tree → new.rest ≡ old.rest
    → IfSome old.tree (λ t. WriteAnswers {X = Unit {0}} (refused_land l.mode t l.place) (Err error)) → StaysOff count l old new r
stays_off count l old new error (step_error.Fault done) a t k w = record { tree = t; rest = k; stop = a.0 }
stays_off count l old new error (step_error.Memory done) a t k w = record { tree = t; rest = k; stop = a.0 }
stays_off count l old new error (step_error.Changed path) a t k w = record {
  tree = t;
  rest = k;
  stop = (a.0, subst (λ (o : Option Tree). IfSome o (λ t. (land_step l).may t ≡ false)) (sym t) (tree_refuses old.tree (λ t. refused_land l.mode t l.place) error a.1 w));
}

-- ---- files in a row
all_landed-append : (ls ms : List Landing) (r : Rest) → all_landed (ls ++ ms) r ≡ all_landed ms (all_landed ls r)
all_landed-append ls ms r =
    let e : r.scratch - sum_by part_count (ls ++ ms) ≡ (r.scratch - sum_by part_count ls) - sum_by part_count ms = omega (arith, sum_by-append part_count ls ms) in
    ap (λ xs. record r { landed = r.landed ++ xs; scratch = r.scratch - sum_by part_count (ls ++ ms) }) (map-append landed_of ls ms)
    ∙ ap (λ xs. record r { landed = xs; scratch = r.scratch - sum_by part_count (ls ++ ms) }) (sym (append_assoc r.landed (map landed_of ls) (map landed_of ms)))
    ∙ ap (λ n. record r { landed = (r.landed ++ map landed_of ls) ++ map landed_of ms; scratch = n }) e

pub none_landed : (v : View) → HaveLanded [] v v
none_landed v = record {
  rest = ap (λ xs. record v.rest { landed = xs }) (sym (append-nil v.rest.landed))
      ∙ ap (λ n. record v.rest { landed = v.rest.landed ++ []; scratch = n }) (less v.rest.scratch);
  tree = λ k. same v.tree;
}
  where
    less : (n : ℕ) → n ≡ n - 0
    less n = omega arith

    same : (o : Option Tree) → o ≡ option_map (λ (t : Tree). t) o
    same None = refl
    same (Some t) = refl

pub more_landed : (ls ms : List Landing) (l : Landing) (u v w : View) → ms ≡ ls ++ l ∷ [] → HaveLanded ls u v → HaveLanded (l ∷ []) v w → HaveLanded ms u w
more_landed ls ms l u v w m a b = subst (λ (xs : List Landing). HaveLanded xs u w) (sym m) (record {
  rest = b.rest ∙ ap (all_landed (l ∷ [])) a.rest ∙ sym (all_landed-append ls (l ∷ []) u.rest);
  tree = λ k.
      let both : (list_all is_told ls && list_all is_told (l ∷ [])) ≡ true = sym (list_all-append is_told ls (l ∷ [])) ∙ k in
      told_then (after (map land_step ls)) (after (map land_step (l ∷ []))) (after (map land_step (ls ++ l ∷ []))) u.tree v.tree w.tree
      (a.tree (first_so (list_all is_told ls) (list_all is_told (l ∷ [])) both)) (b.tree (second_so (list_all is_told ls) (list_all is_told (l ∷ [])) both))
      (λ t. ap (λ steps. after steps t) (map-append land_step ls (l ∷ [])) ∙ after-append (map land_step ls) (map land_step (l ∷ [])) t);
})

pub lands_in : (all ls : List Landing) (l : Landing) (behind : List Landing) (u v w : View) (count : ℕ) (e : StepError) → all ≡ ls ++ l ∷ behind → HaveLanded ls u v → count ≡ length ls → StaysOff count l v w e → LandStops all u w e
lands_in all ls l behind u v w count e a h k s = record {
  before = ls;
  landing = l;
  behind = behind;
  all = a;
  landed = record { rest = s.rest ∙ h.rest; tree = λ told. s.tree ∙ h.tree told };
  stop = subst (λ (n : ℕ). StopsBefore n l w.tree e) k s.stop;
}

-- what an iterator has given and what it still has are what it began with
pub given_so_far : {S A : Type 0} (steps : S → Option A → S → Type 0) (items : S → List A) → ((s : S) (x : A) (t : S) → steps s (Some x) t → items s ≡ x ∷ items t) → (xs : List A) (s t : S) → Yields steps s xs t → items s ≡ xs ++ items t
given_so_far steps items first [] s t y = ap items y
given_so_far steps items first (x ∷ xs) s t y = first s x y.0 y.1 ∙ ap (λ rest. x ∷ rest) (given_so_far steps items first xs y.0 t y.2)

-- ---- the item of a file
pub slice_at : {A : Type 0} (items : List A) (i : ℕ) (x : A) → x ≡ get_or items i x → i < length items → slice_get items i ≡ Some x
slice_at [] i x is h = absurd (omega arith)
slice_at (y ∷ items) zero x is h = ap Some (sym is)
slice_at (y ∷ items) (suc i) x is h = slice_at items i x is (omega arith)

inside : {A : Type 0} (test : A → Bool) (items : List A) (i : ℕ) → option_map_or test (slice_get items i) false ≡ true → i < length items
inside test [] i h = absurd (cc)
inside test (y ∷ items) zero h = omega arith
inside test (y ∷ items) (suc i) h = let ih = inside test items i h in omega (arith, ih)

pub ready_inside : {P : Type 0} (plan : Decisions) (file : Ready P) → is_ready plan file ≡ true → file.item < length plan.items
ready_inside plan file h = inside is_landing plan.items file.item (first_so (option_map_or is_landing (slice_get plan.items file.item) false) (nat_le 1 (length file.parts)) h)

pub ready_some : {P : Type 0} (plan : Decisions) (file : Ready P) → is_ready plan file ≡ true → 1 ≤ length file.parts
ready_some plan file h = let a = second_so (option_map_or is_landing (slice_get plan.items file.item) false) (nat_le 1 (length file.parts)) h in grind (arith, nat_tests, a)

-- a file lands as its item
pub lands_as : {P : Type 0} (content : P → Option (List ℕ)) (size : P → ℕ) (plan : Decisions) (file : Ready P) (d : Decision) → slice_get plan.items file.item ≡ Some d
    → landing_of content size plan file ≡ record { place = place_of plan.base d; mode = landing_mode d.action; parts = map content file.parts; bytes = sum_by size file.parts }
lands_as content size plan file d e =
    ap (λ (o : Option Decision). record { place = plan.base ++ option_map_or item_rel o []; mode = landing_mode (option_map_or (λ d. d.action) o action.Skip); parts = map content file.parts; bytes = sum_by size file.parts }) e

-- ---- what the files in a row ask for
pub ready_here : {A : Type 0} (test : A → Bool) (xs : List A) (x : A) (ys all : List A) → all ≡ xs ++ x ∷ ys → list_all test all ≡ true → test x ≡ true
ready_here test xs x ys all e h =
    let k : list_all test (xs ++ x ∷ ys) ≡ true = subst (λ zs. list_all test zs ≡ true) e h in
    first_so (test x) (list_all test ys) (second_so (list_all test xs) (list_all test (x ∷ ys)) (sym (list_all-append test xs (x ∷ ys)) ∙ k))

-- as many temporaries as a list of files has
pub parts-map : {P : Type 0} (content : P → Option (List ℕ)) (size : P → ℕ) (plan : Decisions) (files : List (Ready P)) → sum_by part_count (map (landing_of content size plan) files) ≡ sum_by parts_of files
parts-map content size plan [] = refl
parts-map content size plan (file ∷ files) =
    let a = sum_by-cons part_count (landing_of content size plan file) (map (landing_of content size plan) files) in
    let b = sum_by-cons parts_of file files in
    let c = length-map file.parts content in
    let ih = parts-map content size plan files in
    omega (arith, a, b, c, ih)

-- the temporaries of a file are left where all those of the files before it have landed
pub parts_left : {P : Type 0} (content : P → Option (List ℕ)) (size : P → ℕ) (plan : Decisions) (xs : List (Ready P)) (x : Ready P) (ys all : List (Ready P)) (old now : Rest) → all ≡ xs ++ x ∷ ys
    → sum_by parts_of all ≤ old.scratch → now ≡ all_landed (map (landing_of content size plan) xs) old → parts_of x ≤ now.scratch
parts_left content size plan xs x ys all old now e h k =
    let a : sum_by parts_of all ≡ sum_by parts_of xs + (parts_of x + sum_by parts_of ys) = ap (sum_by parts_of) e ∙ sum_by-append parts_of xs (x ∷ ys) ∙ ap (λ n. sum_by parts_of xs + n) (sum_by-cons parts_of x ys) in
    let b : now.scratch ≡ old.scratch - sum_by parts_of xs = ap (λ (r : Rest). r.scratch) k ∙ ap (λ n. old.scratch - n) (parts-map content size plan xs) in
    omega (arith, a, b, h)

pub lands_item : {P : Type 0} (content : P → Option (List ℕ)) (size : P → ℕ) (plan : Decisions) (file : Ready P) (d : Decision) (place : Names) (mode : Mode) → slice_get plan.items file.item ≡ Some d → place ≡ place_of plan.base d → mode ≡ landing_mode d.action
    → record { place = place; mode = mode; parts = map content file.parts; bytes = sum_by size file.parts } ≡ landing_of content size plan file
lands_item content size plan file d place mode e p m =
    ap (λ (q : Names). record { place = q; mode = mode; parts = map content file.parts; bytes = sum_by size file.parts }) p
    ∙ ap (λ (n : Mode). record { place = place_of plan.base d; mode = n; parts = map content file.parts; bytes = sum_by size file.parts }) m
    ∙ sym (lands_as content size plan file d e)
