-- The steps of a phase at one path.
use Rattle.std.proofs.Common.{◌≡◌, List, [], ◌∷◌, ◌++◌, Bool, true, false, cond, not, ◌&&◌, ◌||◌, Option, Some, None, map, filter, reverse, is_some, refl, sym, ◌∙◌, ap}
use Rattle.std.proofs.lemmas.List.{reverse-append}
use Rattle.std.specs.Cmp.{second_so}
use Rattle.std.specs.List.{list_all}
use Rattle.dc_path.specs.Found.{found, has_path}
use Rattle.dc_path.specs.Order.{path_lt, is_ascending}
use Rattle.dc_path.specs.Paths.{Names, cut, at_cut, same_path}
use Rattle.dc_path.proofs.FoundLemmas.{ascending-filter, found-filter, found-once, kept}
use Rattle.dc_path.proofs.PathLemmas.{same_path-cut, same_path-not_below}
use Rattle.dc_path.proofs.PathOrder.{path_lt-below}
use Rattle.dc_attrs.specs.Trees.{Node, Tree, updated, made, without}
use Rattle.dc_decide.specs.Plans.{Decision, item_rel}
use Rattle.dc_commit.specs.Making.{make_step}
use Rattle.dc_commit.specs.Removals.{remove_steps}
use Rattle.dc_commit.specs.Settings.{place_of}
use Rattle.dc_commit.specs.Steps.{Step, after}
use Rattle.dc_commit.proofs.StepLemmas.{after-append}
use Rattle.dc_result.specs.Commits.{is_in}
use Rattle.dc_missing.specs.Missing.{covers}

-- ---- steps that change what stands at their places
-- what an item makes of what stands at its place, if there is one
abbrev pub applied : {A : Type 0} → (A → Option Node → Option Node) → Option A → Option Node → Option Node
applied act None old = old
applied act (Some x) old = act x old

module _ {A : Type 0} (place : A → Names) (f : A → Step) (act : A → Option Node → Option Node) (does : (x : A) (t : Tree) → (f x).change t ≡ updated t (place x) (act x)) where
  one_first : (x : A) (xs : List A) (q : Names) (old : Option Node) (b : Bool) → same_path (place x) q ≡ b → is_ascending (map place (x ∷ xs)) ≡ true → applied act (found place xs q) (cond b (act x old) old) ≡ applied act (cond b (Some x) (found place xs q)) old
  one_first x xs q old true e a = ap (λ o. applied act o (act x old)) (found-once place x xs q a e)
  one_first x xs q old false e a = refl

  -- one after the other: the one with this place, if there is one, changes what stands there
  pub steps_at : (xs : List A) (t : Tree) (q : Names) → is_ascending (map place xs) ≡ true → after (map f xs) t q ≡ applied act (found place xs q) (t q)
  steps_at [] t q a = refl
  steps_at (x ∷ xs) t q a =
      steps_at xs ((f x).change t) q (second_so _ _ a)
      ∙ ap (λ (u : Tree). applied act (found place xs q) (u q)) (does x t)
      ∙ one_first x xs q (t q) (same_path (place x) q) refl a

  one_last : (x : A) (xs : List A) (q : Names) (old : Option Node) (b : Bool) → same_path (place x) q ≡ b → is_ascending (map place (x ∷ xs)) ≡ true
      → cond b (act x (applied act (found place xs q) old)) (applied act (found place xs q) old) ≡ applied act (cond b (Some x) (found place xs q)) old
  one_last x xs q old true e a = ap (λ o. act x (applied act o old)) (found-once place x xs q a e)
  one_last x xs q old false e a = refl

  last_step : (x : A) (xs : List A) (t : Tree) → after (reverse (map f (x ∷ xs))) t ≡ (f x).change (after (reverse (map f xs)) t)
  last_step x xs t = ap (λ (steps : List Step). after steps t) (reverse-append (f x ∷ []) (map f xs)) ∙ after-append (reverse (map f xs)) (f x ∷ []) t

  -- and so from the last one on
  pub back_at : (xs : List A) (t : Tree) (q : Names) → is_ascending (map place xs) ≡ true → after (reverse (map f xs)) t q ≡ applied act (found place xs q) (t q)
  back_at [] t q a = refl
  back_at (x ∷ xs) t q a =
      ap (λ (u : Tree). u q) (last_step x xs t ∙ does x (after (reverse (map f xs)) t))
      ∙ ap (λ o. cond (same_path (place x) q) (act x o) o) (back_at xs t q (second_so _ _ a))
      ∙ one_last x xs q (t q) (same_path (place x) q) refl a

-- ---- directories that are made, and paths that are removed
made_again : (b c : Bool) (o : Option Node) → cond b (made (cond c (made o) o)) (cond c (made o) o) ≡ cond (c || b) (made o) o
made_again true true None = refl
made_again true true (Some n) = refl
made_again true false o = refl
made_again false true o = refl
made_again false false o = refl

pub makes_at : (ps : List Names) (t : Tree) (q : Names) → after (map make_step ps) t q ≡ cond (has_path ps q) (made (t q)) (t q)
makes_at [] t q = refl
makes_at (p ∷ ps) t q = makes_at ps (updated t p made) q ∙ made_again (has_path ps q) (same_path p q) (t q)

gone_again : (b : Bool) (c : Option Names) (o : Option Node) → cond b None (at_cut c o (λ rest. None)) ≡ cond (is_some c || b) None o
gone_again true None o = refl
gone_again true (Some r) o = refl
gone_again false None o = refl
gone_again false (Some r) o = refl

pub removes_at : (ps : List Names) (t : Tree) (q : Names) → after (remove_steps ps) t q ≡ cond (covers ps q) None (t q)
removes_at [] t q = refl
removes_at (p ∷ ps) t q = removes_at ps (without t p) q ∙ gone_again (covers ps q) (cut p q) (t q)

-- ---- the places of items
pub found_place : (base : Names) (ds : List Decision) (q r : Names) → cut base q ≡ Some r → found (place_of base) ds q ≡ found item_rel ds r
found_place base [] q r e = refl
found_place base (d ∷ ds) q r e =
    ap (λ b. cond b (Some d) (found (place_of base) ds q)) (same_path-cut base (item_rel d) q r e)
    ∙ ap (λ o. cond (same_path (item_rel d) r) (Some d) o) (found_place base ds q r e)

pub found_off : (base : Names) (ds : List Decision) (q : Names) → cut base q ≡ None → found (place_of base) ds q ≡ None
found_off base [] q e = refl
found_off base (d ∷ ds) q e = ap (λ b. cond b (Some d) (found (place_of base) ds q)) (same_path-not_below base (item_rel d) q e) ∙ found_off base ds q e

after_place : (base p : Names) (ds : List Decision) → list_all (path_lt (base ++ p)) (map (place_of base) ds) ≡ list_all (path_lt p) (map item_rel ds)
after_place base p [] = refl
after_place base p (d ∷ ds) =
    ap (λ b. b && list_all (path_lt (base ++ p)) (map (place_of base) ds)) (path_lt-below base p (item_rel d))
    ∙ ap (λ b. path_lt p (item_rel d) && b) (after_place base p ds)

-- the places ascend as the items do
pub places_ascend : (base : Names) (ds : List Decision) → is_ascending (map (place_of base) ds) ≡ is_ascending (map item_rel ds)
places_ascend base [] = refl
places_ascend base (d ∷ ds) =
    ap (λ b. b && is_ascending (map (place_of base) ds)) (after_place base (item_rel d) ds)
    ∙ ap (λ b. list_all (path_lt (item_rel d)) (map item_rel ds) && b) (places_ascend base ds)

pub part_ascends : (base : Names) (test : Decision → Bool) (ds : List Decision) → is_ascending (map item_rel ds) ≡ true → is_ascending (map (place_of base) (filter test ds)) ≡ true
part_ascends base test ds a = places_ascend base (filter test ds) ∙ ascending-filter item_rel test ds a

pub has_one : {A : Type 0} (x : A) (o : Option A) (b c : Bool) → c ≡ is_some o → (b || c) ≡ is_some (cond b (Some x) o)
has_one x o true c e = refl
has_one x o false c e = e

pub has_found : {A : Type 0} (place : A → Names) (xs : List A) (q : Names) → has_path (map place xs) q ≡ is_some (found place xs q)
has_found place [] q = refl
has_found place (x ∷ xs) q = has_one x (found place xs q) (same_path (place x) q) (has_path (map place xs) q) (has_found place xs q)

-- ---- a part of what the copy goes on with
kept_in : (test : Decision → Bool) (d : Decision) (out : Bool) → cond (not out && test d) (Some d) None ≡ kept test (cond (not out) (Some d) None)
kept_in test d true = refl
kept_in test d false = refl

kept_part : (test : Decision → Bool) (o : Option Decision) → kept (λ d. not d.out && test d) o ≡ kept test (kept is_in o)
kept_part test None = refl
kept_part test (Some d) = kept_in test d d.out

pub found_part : (test : Decision → Bool) (ds : List Decision) (r : Names) → is_ascending (map item_rel ds) ≡ true → found item_rel (filter (λ d. not d.out && test d) ds) r ≡ kept test (found item_rel (filter is_in ds) r)
found_part test ds r a = found-filter item_rel (λ d. not d.out && test d) ds r a ∙ kept_part test (found item_rel ds r) ∙ ap (kept test) (sym (found-filter item_rel is_in ds r a))
