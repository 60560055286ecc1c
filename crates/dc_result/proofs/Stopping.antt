-- Where a phase stops, its first steps are done.
use Rattle.std.proofs.Common.{◌≡◌, inl, inr, ⊎_elim, ℕ, ◌+◌, ◌<◌, List, [], ◌∷◌, ◌++◌, length, length-append, take, true, false, Option, Some, IfSome, map, refl, sym, ◌∙◌, ap, subst, arith, append_assoc}
use Rattle.std.proofs.lemmas.List.{take-append-le, take_all, take-map, map-append}
use Rattle.std.specs.Cmp.{first_so}
use Rattle.std.proofs.lemmas.List.Folds.{list_all-append}
use Rattle.std.specs.List.{list_all}
use Rattle.dc_path.specs.Paths.{Names}
use Rattle.std.specs.Option.{option_map}
use Rattle.dc_attrs.specs.Trees.{Tree}
use Rattle.dc_fs.specs.Views.{View}
use Rattle.dc_commit.specs.Landing.{LandStops, Landing, all_landed, is_told, land_step}
use Rattle.dc_commit.specs.Steps.{Step, Stops, after, allows}
use Rattle.dc_commit.specs.declared.steps.StepError.{StepError}
use Rattle.dc_commit.specs.declared.steps.StepError.TheVariants as step_error
use Rattle.dc_commit.proofs.StepLemmas.{after-append, stops_denied}
use Rattle.dc_result.specs.Stops.{LandStopsAt, LandsFirst, StopsAt}

-- the first elements of a list that is cut in two
front_is : {A : Type 0} (xs ys zs : List A) (k : ℕ) → zs ≡ xs ++ ys → k ≡ length xs → take k zs ≡ xs
front_is xs ys zs k e l = ap (take k) e ∙ take-append-le k xs ys (omega (arith, l)) ∙ take_all k xs (omega (arith, l))

next_is : {A : Type 0} (xs : List A) (x : A) (ys zs : List A) (k : ℕ) → zs ≡ xs ++ x ∷ ys → k ≡ length xs → take (k + 1) zs ≡ xs ++ x ∷ []
next_is xs x ys zs k e l = front_is (xs ++ x ∷ []) ys zs (k + 1) (e ∙ sym (append_assoc xs (x ∷ []) ys)) (let n = length-append xs (x ∷ []) in omega (arith, n, l))

inside_is : {A : Type 0} (xs : List A) (x : A) (ys zs : List A) (k : ℕ) → zs ≡ xs ++ x ∷ ys → k ≡ length xs → k < length zs
inside_is xs x ys zs k e l = let n = length-append xs (x ∷ ys) in let m : length zs ≡ length (xs ++ x ∷ ys) = ap length e in omega (arith, n, m, l)

counted : (k n : ℕ) → k ≡ 0 + n → k ≡ n
counted k n h = omega (arith, h)

pub stops_at : (steps : List Step) (t : Tree) (now : Option Tree) (e : StepError) → Stops steps (Some t) now e → StopsAt steps t now e
stops_at steps t now (step_error.Fault k) s =
    let l = counted k (length s.before) s.stop.0 in
    let front = front_is s.before (s.step ∷ s.behind) steps k s.all l in (
      inside_is s.before s.step s.behind steps k s.all l,
      ⊎_elim
          (λ w. inl (w ∙ ap (λ (done : List Step). Some (after done t)) (sym front)))
          (λ w. inr (w ∙ ap Some (sym (after-append s.before (s.step ∷ []) t)) ∙ ap (λ (done : List Step). Some (after done t)) (sym (next_is s.before s.step s.behind steps k s.all l))))
          s.stop.1,
    )
stops_at steps t now (step_error.Memory k) s =
    let l = counted k (length s.before) s.stop.0 in
    (inside_is s.before s.step s.behind steps k s.all l, s.stop.1 ∙ ap (λ (done : List Step). Some (after done t)) (sym (front_is s.before (s.step ∷ s.behind) steps k s.all l)))
stops_at steps t now (step_error.Changed path) s = stops_denied steps (Some t) now (step_error.Changed path) s refl

-- ---- files that land
-- the files before the one at which a phase stops have landed in the told tree
lands_told : (landings : List Landing) (t : Tree) (old new : View) (e : StepError) (s : LandStops landings old new e) → old.tree ≡ Some t → list_all is_told landings ≡ true → new.tree ≡ Some (after (map land_step s.before) t)
lands_told landings t old new e s told all =
    s.landed.tree (first_so (list_all is_told s.before) (list_all is_told (s.landing ∷ s.behind)) (sym (list_all-append is_told s.before (s.landing ∷ s.behind)) ∙ ap (list_all is_told) (sym s.all) ∙ all))
    ∙ ap (option_map (after (map land_step s.before))) told

lands_first : (landings : List Landing) (t : Tree) (old new : View) (e : StepError) (k : ℕ) (s : LandStops landings old new e) → old.tree ≡ Some t → list_all is_told landings ≡ true → k ≡ length s.before → LandsFirst k landings t old new
lands_first landings t old new e k s told all l =
    let front = front_is s.before (s.landing ∷ s.behind) landings k s.all l in
    record {
      inside = inside_is s.before s.landing s.behind landings k s.all l;
      tree = lands_told landings t old new e s told all ∙ ap (λ (steps : List Step). Some (after steps t)) (sym (take-map land_step k landings ∙ ap (map land_step) front));
      rest = s.landed.rest ∙ ap (λ (ls : List Landing). all_landed ls old.rest) (sym front);
    }

-- the tree that the files before it leave denies the one at which the phase stops
lands_denied : (landings : List Landing) (t : Tree) (old new : View) (path : Names) → LandStops landings old new (step_error.Changed path) → old.tree ≡ Some t → list_all is_told landings ≡ true → allows (map land_step landings) t ≡ false
lands_denied landings t old new path s told all =
    let tree = lands_told landings t old new (step_error.Changed path) s told all in
    stops_denied (map land_step landings) (Some t) new.tree (step_error.Changed path) (record {
      before = map land_step s.before;
      step = land_step s.landing;
      behind = map land_step s.behind;
      all = ap (map land_step) s.all ∙ map-append land_step s.before (s.landing ∷ s.behind);
      stop = record {
        place = s.stop.0;
        denied = subst (λ (o : Option Tree). IfSome o (λ u. (land_step s.landing).may u ≡ false)) tree s.stop.1;
        tree = tree;
      };
    }) refl

pub land_stops_at : (landings : List Landing) (t : Tree) (old new : View) (e : StepError) → old.tree ≡ Some t → list_all is_told landings ≡ true → LandStops landings old new e → LandStopsAt landings t old new e
land_stops_at landings t old new (step_error.Fault k) told all s = lands_first landings t old new (step_error.Fault k) k s told all s.stop
land_stops_at landings t old new (step_error.Memory k) told all s = lands_first landings t old new (step_error.Memory k) k s told all s.stop
land_stops_at landings t old new (step_error.Changed path) told all s = lands_denied landings t old new path s told all
