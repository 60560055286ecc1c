-- Where the tests of the target pass, a copy has room: on the way to the target, above the base, and with `-atomic` at both.
use Rattle.std.proofs.Common.{◌≡◌, ◌⊎◌, inl, inr, ℕ, Bool, true, false, not, ◌&&◌, ◌||◌, if◌then◌else◌, List, [], ◌∷◌, ◌++◌, length, nat_lt, Option, Some, None, unwrap_or, Result, Ok, Err, refl, sym, ◌∙◌, ap, subst}
use Rattle.dc_path.specs.Paths.{Names, cut, fits, front_of, is_above, is_under}
use Rattle.dc_path.proofs.Fronts.{above_append}
use Rattle.dc_path.proofs.PathLemmas.{append-cut, ended_cons, front_of-append, same_ends}
use Rattle.dc_path.proofs.PathOrder.{is_rest, is_above-by_cut}
use Rattle.dc_attrs.specs.Trees.{Node, Dir, File, Tree, IsDirAt, IsTree, seen}
use Rattle.dc_attrs.specs.declared.shown.Seen.{Seen}
use Rattle.dc_attrs.specs.declared.shown.Seen.TheVariants as seen_as
use Rattle.dc_attrs.proofs.TreeLemmas.{dir_at, nothing_below, seen_from-Dir, seen_from-there}
use Rattle.dc_options.specs.Settings.{Settings}
use Rattle.dc_listing.specs.Roots.{and_then, is_absent, is_file, roots_of}
use Rattle.dc_listing.specs.declared.item.Root.{Root}
use Rattle.dc_decide.specs.Deciding.{clashes}
use Rattle.dc_result.specs.Atomic.{IsEmptyAt}
use Rattle.dc_result.specs.Begins.{is_no_file}
use Rattle.dc_result.specs.Jobs.{IsBaseFor}
use Rattle.dc_result.proofs.ListedAbove.{below_file}
use Rattle.dc_result.proofs.RootPlaces.{then_ok}
use Rattle.dc_engine.specs.Inputs.{inputs_in}
use Rattle.dc_engine.specs.Refusals.{refused_as}
use Rattle.dc_engine.specs.Surveys.{Asked, asked_of, asks_report, before_listing, outcome_of_input, outcome_of_list, outcome_of_target, placed_in}
use Rattle.dc_engine.specs.Targets.{base_in, base_of, is_folder, is_in_snapshot, is_under_file, lacks_given, overlap, place_in, test_free, test_shown, test_source, test_tmp, work_folder, work_in, work_name, work_path}
use Rattle.dc_engine.specs.declared.outcome.BadTarget.TheVariants as bad_target
use Rattle.dc_engine.specs.declared.outcome.Outcome.TheVariants as outcome
use Rattle.dc_engine.specs.declared.surveying.Placed.{Placed}
use Rattle.dc_engine.specs.declared.targets.TargetError.TheVariants as target_error

-- ---- answers in a row
-- what is not refused passes the test, and goes on
passed : {A E : Type 0} (b : Bool) (e : E) (r : Result A E) (x : A) → (if b then Err e else r) ≡ Ok x → (b ≡ false) × (r ≡ Ok x)
passed true e r x h = absurd (cc)
passed false e r x h = (refl, h)

named_ok : {A E F : Type 0} (name : E → F) (r : Result A E) (x : A) → refused_as name r ≡ Ok x → r ≡ Ok x
named_ok name (Ok y) x h = let k : y ≡ x = cc in ap Ok k
named_ok name (Err e) x h = absurd (cc)

no_not : (b : Bool) → not b ≡ false → b ≡ true
no_not true h = refl
no_not false h = absurd (cc)

-- ---- what no test refuses
-- nothing is a file above the target; with `-atomic` nothing stands there, the folder of `-tmp` is there, and the base is free
pub record TargetPasses (o : Settings) (t : Tree) : Type 0 where
  pub under : is_under_file (seen t o.target) ≡ false
  pub free : (o.atomic && not (is_absent (seen t o.target))) ≡ false
  pub tmp : lacks_given t o.tmp ≡ false
  pub base : Names
  pub place : place_in o t ≡ Ok base

shown_passes : (o : Settings) (shown : Seen) (roots : List Root) → test_shown o shown roots ≡ Ok tt → is_under_file shown ≡ false
shown_passes o shown roots h =
    let a = passed (is_in_snapshot o roots) (target_error.Bad bad_target.InSnapshot)
    (if is_under_file shown then Err (target_error.Bad bad_target.UnderFile) else if is_file shown && nat_lt 1 (length roots) then Err (target_error.Bad bad_target.ManyOntoFile) else Ok tt) tt h in
    (passed (is_under_file shown) (target_error.Bad bad_target.UnderFile) (if is_file shown && nat_lt 1 (length roots) then Err (target_error.Bad bad_target.ManyOntoFile) else Ok tt) tt a.1).0

passes : (o : Settings) (s t : Tree) (roots : List Root) (base : Names) → base_in o s t (seen t o.target) roots ≡ Ok base → TargetPasses o t
passes o s t roots base h =
    let shown = seen t o.target in
    let a = then_ok (test_shown o shown roots) (λ _. and_then (test_source s shown roots) (λ _. and_then (test_free o shown) (λ _. and_then (test_tmp o t) (λ _. place_in o t)))) base h in
    let b = then_ok (test_source s shown roots) (λ _. and_then (test_free o shown) (λ _. and_then (test_tmp o t) (λ _. place_in o t))) base a.2 in
    let c = then_ok (test_free o shown) (λ _. and_then (test_tmp o t) (λ _. place_in o t)) base b.2 in
    let d = then_ok (test_tmp o t) (λ _. place_in o t) base c.2 in
    record {
      under = shown_passes o shown roots a.1;
      free = (passed (o.atomic && not (is_absent shown)) (target_error.Bad bad_target.AtomicExists) (Ok tt) c.0 c.1).0;
      tmp = (passed (lacks_given t o.tmp) (target_error.Bad bad_target.NoTmp) (Ok tt) d.0 d.1).0;
      base = base;
      place = d.2;
    }

-- what is asked for, where nothing is refused: its roots are those of the options, and the target passes
pub record IsAsked (o : Settings) (s t : Tree) (asked : Asked) : Type 0 where
  pub sources : List Names
  pub roots : roots_of o (seen t o.target) s sources ≡ Ok asked.roots
  pub target : TargetPasses o t

placed_passes : (o : Settings) (s t : Tree) (sources : List Names) (placed : Placed) → placed_in o s t sources ≡ Ok placed → (roots_of o (seen t o.target) s sources ≡ Ok placed.roots) × TargetPasses o t
placed_passes o s t sources placed h =
    let a = then_ok (refused_as outcome_of_list (roots_of o (seen t o.target) s sources))
    (λ roots. and_then (refused_as outcome_of_target (base_in o s t (seen t o.target) roots)) (λ base. Ok (record { roots = roots; base = base }))) placed h in
    let b = then_ok (refused_as outcome_of_target (base_in o s t (seen t o.target) a.0)) (λ base. Ok (record { roots = a.0; base = base })) placed a.2 in
    let same : record { roots = a.0; base = b.0 } ≡ placed = cc in (
      named_ok outcome_of_list (roots_of o (seen t o.target) s sources) a.0 a.1 ∙ ap (λ (p : Placed). Ok p.roots) same,
      passes o s t a.0 b.0 (named_ok outcome_of_target (base_in o s t (seen t o.target) a.0) b.0 b.1),
    )

pub asked_passes : (o : Settings) (s t : Tree) (asked : Asked) → before_listing o s t ≡ Ok asked → IsAsked o s t asked
asked_passes o s t asked h =
    let a = passed (asks_report o.sync) outcome.Unbuilt (and_then (refused_as outcome_of_input (inputs_in o s)) (λ held. and_then (placed_in o s t held.sources) (λ placed. Ok (asked_of held placed)))) asked h in
    let b = then_ok (refused_as outcome_of_input (inputs_in o s)) (λ held. and_then (placed_in o s t held.sources) (λ placed. Ok (asked_of held placed))) asked a.1 in
    let c = then_ok (placed_in o s t b.0.sources) (λ placed. Ok (asked_of b.0 placed)) asked b.2 in
    let same : asked_of b.0 c.0 ≡ asked = cc in
    let p = placed_passes o s t b.0.sources c.0 c.1 in
    record { sources = b.0.sources; roots = p.0 ∙ ap (λ (x : Asked). Ok x.roots) same; target = p.1 }

-- ---- what is seen of a tree
-- a path above another, and what is between
above_rest : (q p : Names) → is_above q p ≡ true → (x : List ℕ) × (r : Names) × (p ≡ q ++ x ∷ r)
above_rest q p h = by (cut q p) refl (sym (is_above-by_cut q p) ∙ h)
  where
    by : (o : Option Names) → cut q p ≡ o → is_rest o ≡ true → (x : List ℕ) × (r : Names) × (p ≡ q ++ x ∷ r)
    by None e k = absurd (cc)
    by (Some []) e k = absurd (cc)
    by (Some (x ∷ r)) e k = (x, r, append-cut q p (x ∷ r) e)

-- above what is not under a file no file stands
way_open : (t : Tree) (target q : Names) → IsTree t → is_under_file (seen t target) ≡ false → is_above q target ≡ true → is_no_file (t q) ≡ true
way_open t target q v under up = by (t q) refl
  where
    by : (o : Option Node) → t q ≡ o → is_no_file o ≡ true
    by None e = refl
    by (Some (Dir a)) e = refl
    by (Some (File b a)) e =
        let k = above_rest q target up in
        let no = below_file t [] q k.0 k.1 (ap (clashes true) (seen_from-there t [] q (File b a) v e)) in
        let f : true ≡ false = sym (ap is_under_file (ap (seen t) k.2 ∙ no)) ∙ under in absurd (cc)

-- where nothing is seen, nothing stands
absent_none : (t : Tree) (p : Names) → IsTree t → is_absent (seen t p) ≡ true → t p ≡ None
absent_none t p v h = by (t p) refl
  where
    by : (o : Option Node) → t p ≡ o → o ≡ None
    by None e = refl
    by (Some (Dir a)) e = let f : false ≡ true = sym (ap is_absent (seen_from-there t [] p (Dir a) v e)) ∙ h in absurd (cc)
    by (Some (File b a)) e = let f : false ≡ true = sym (ap is_absent (seen_from-there t [] p (File b a) v e)) ∙ h in absurd (cc)

empty_at : (t : Tree) (p : Names) → IsTree t → is_absent (seen t p) ≡ true → IsEmptyAt t p
empty_at t p v h rest = nothing_below t p rest v (absent_none t p v h)

folder_dir : (t : Tree) (p : Names) (shown : Seen) → seen t p ≡ shown → is_folder shown ≡ true → IsDirAt t p
folder_dir t p seen_as.Dir e h = dir_at (t p) (seen_from-Dir t [] p e)
folder_dir t p (seen_as.File n) e h = absurd (cc)
folder_dir t p seen_as.Missing e h = absurd (cc)
folder_dir t p seen_as.NotDir e h = absurd (cc)

-- ---- the target and the base
module _ (o : Settings) (t : Tree) (v : IsTree t) (target : TargetPasses o t) where
  pub target_way : (q : Names) → is_above q o.target ≡ true → is_no_file (t q) ≡ true
  target_way q up = way_open t o.target q v target.under up

  target_absent : o.atomic ≡ true → is_absent (seen t o.target) ≡ true
  target_absent e = no_not (is_absent (seen t o.target)) (sym (ap (λ b. b && not (is_absent (seen t o.target))) e) ∙ target.free)

  pub target_empty : o.atomic ≡ true → IsEmptyAt t o.target
  target_empty e = empty_at t o.target v (target_absent e)

  base_work : o.atomic ≡ true → base_of o ≡ work_path (work_folder o)
  base_work e = ap (λ (b : Bool). if b then work_path (work_folder o) else o.target) e

  pub base_target : o.atomic ≡ false → base_of o ≡ o.target
  base_target e = ap (λ (b : Bool). if b then work_path (work_folder o) else o.target) e

  -- with `-atomic` the work path is apart from the target, and free
  work_passes : o.atomic ≡ true → (overlap (work_path (work_folder o)) o.target ≡ false) × (is_absent (seen t (work_path (work_folder o))) ≡ true)
  work_passes e =
      let work = work_path (work_folder o) in
      let is : work_in t o.target (work_folder o) ≡ Ok target.base = sym (ap (λ (b : Bool). if b then work_in t o.target (work_folder o) else Ok o.target) e) ∙ target.place in
      let a = passed (not (fits work)) (target_error.TooLong (work_folder o) work_name)
      (if overlap work o.target then Err (target_error.Bad bad_target.TmpInside) else if not (is_absent (seen t work)) then Err (target_error.WorkExists work) else Ok work) target.base is in
      let b = passed (overlap work o.target) (target_error.Bad bad_target.TmpInside) (if not (is_absent (seen t work)) then Err (target_error.WorkExists work) else Ok work) target.base a.1 in
      let c = passed (not (is_absent (seen t work))) (target_error.WorkExists work) (Ok work) target.base b.1 in
      (b.0, no_not (is_absent (seen t work)) c.0)

  pub base_empty : o.atomic ≡ true → IsEmptyAt t (base_of o)
  base_empty e = subst (IsEmptyAt t) (sym (base_work e)) (empty_at t (work_path (work_folder o)) v (work_passes e).1)

  first_of : (a b : Bool) → (a || b) ≡ false → a ≡ false
  first_of true b h = absurd (cc)
  first_of false b h = refl

  pub base_apart : o.atomic ≡ true → is_under (base_of o) o.target ≡ false
  base_apart e = ap (λ (p : Names). is_under p o.target) (base_work e) ∙ first_of (is_under (work_path (work_folder o)) o.target) (is_under o.target (work_path (work_folder o))) (work_passes e).0

  pub base_for : IsBaseFor o.target (base_of o)
  base_for = by o.atomic refl
    where
      by : (b : Bool) → o.atomic ≡ b → IsBaseFor o.target (base_of o)
      by true e = inr (base_apart e)
      by false e = inl (sym (base_target e))

  -- the folder of the work path is that of `-tmp`, or above the target
  folder_above : (given : Option Names) → o.tmp ≡ given → o.atomic ≡ true → (is_above (work_folder o) o.target ≡ true) ⊎ IsDirAt t (work_folder o)
  folder_above (Some tmp) e a =
      let folder : work_folder o ≡ tmp = ap (λ (g : Option Names). unwrap_or g (front_of o.target)) e in
      let there : is_folder (seen t tmp) ≡ true = no_not (is_folder (seen t tmp)) (sym (ap (lacks_given t) e) ∙ target.tmp) in
      inr (subst (IsDirAt t) (sym folder) (folder_dir t tmp (seen t tmp) refl there))
  folder_above None e a = by o.target refl
    where
      folder : work_folder o ≡ front_of o.target
      folder = ap (λ (g : Option Names). unwrap_or g (front_of o.target)) e

      by : (p : Names) → o.target ≡ p → (is_above (work_folder o) o.target ≡ true) ⊎ IsDirAt t (work_folder o)
      by [] k = let f : None ≡ Some (Dir v.root.0) = sym (absent_none t o.target v (target_absent a)) ∙ ap t k ∙ v.root.1 in absurd (cc)
      by (x ∷ p) k =
          let n = ended_cons x p in
          let front : work_folder o ≡ n.front = folder ∙ ap front_of (k ∙ n.path) ∙ front_of-append n.front n.name in
          inl (ap (λ (q : Names). is_above q o.target) front ∙ above_append n.front n.name [] o.target (k ∙ n.path))

  -- the parent of the base is on the way to the target, or a directory
  pub base_above : (q : Names) (x : List ℕ) → base_of o ≡ q ++ x ∷ [] → (is_above q o.target ≡ true) ⊎ IsDirAt t q
  base_above q x at = by o.atomic refl
    where
      by : (b : Bool) → o.atomic ≡ b → (is_above q o.target ≡ true) ⊎ IsDirAt t q
      by false e = inl (above_append q x [] o.target (sym (base_target e) ∙ at))
      by true e =
          let same = (same_ends (work_folder o) q work_name x (sym (base_work e) ∙ at)).0 in
          subst (λ (p : Names). (is_above p o.target ≡ true) ⊎ IsDirAt t p) same (folder_above o.tmp refl e)
