-- The places of what is created, as a set of paths within the limits.
use Rattle.std.proofs.Common.{◌≡◌, ℕ, ◌+◌, Bool, true, false, cond, ◌||◌, List, [], ◌∷◌, ◌++◌, take, slice_get, Option, Some, None, Result, Ok, Err, refl, sym, ◌∙◌, ap}
use Rattle.std.proofs.lemmas.List.Folds.{list_any-append}
use Rattle.std.specs.List.{list_any, filter_map}
use Rattle.std.specs.Ordering.{is_eq}
use Rattle.dc_path.specs.Paths.{Names, IsPath, path_cmp, same_path}
use Rattle.dc_path.specs.Reading.{some_path, within_limits}
use Rattle.dc_path.specs.declared.path.PathError.{PathError}
use Rattle.dc_path.proofs.PathLemmas.{same_path-true, same_path-flip}
use Rattle.dc_report.specs.Carrying.{limited}
use Rattle.dc_report.specs.Landings.{is_at}
use Rattle.dc_report.proofs.KnownLemmas.{entered}
use Rattle.dc_path.proofs.LimitLemmas.{path_within, within_is, within_same}
use Rattle.dc_report.proofs.Lists.{take_get}

-- ---- what a place with limits tells of the place
pub limited_some : (o : Option Names) (q : Names) → limited o ≡ Ok (Some q) → o ≡ Some q
limited_some None q e = absurd (cc)
limited_some (Some p) q e = by (within_limits p) refl e
  where
    by : (r : Result Names PathError) → within_limits p ≡ r → some_path r ≡ Ok (Some q) → Some p ≡ Some q
    by (Ok n) k h = let l : n ≡ q = cc in ap (λ (r : Names). Some r) (within_same p n k ∙ l)
    by (Err x) k h = absurd (cc)

other_at : (p q : Names) (b : Bool) (e : PathError) → some_path (within_limits p) ≡ Err e → IsPath q → same_path p q ≡ b → b ≡ false
other_at p q false e h is k = refl
other_at p q true e h is k =
    let s = same_path-true p q k in
    let w : within_limits p ≡ Ok q = ap within_limits s ∙ within_is q (path_within q is) in
    let f : some_path (within_limits p) ≡ Ok (Some q) = ap some_path w in
    absurd (cc)

pub limited_other : (o : Option Names) (q : Names) (e : PathError) → limited o ≡ Err e → IsPath q → is_at o q ≡ false
limited_other None q e h is = absurd (cc)
limited_other (Some p) q e h is = other_at p q (same_path p q) e h is refl

or_false : (a b : Bool) → b ≡ false → a ≡ (a || b)
or_false true b e = refl
or_false false b e = sym e

-- a place more
pub place_added : (old : Bool) (found q : Names) (new : Bool) (o : Option Names) → new ≡ cond (is_eq (path_cmp found q)) true old → o ≡ Some found → new ≡ (old || is_at o q)
place_added old found q new o e f = rw f (e ∙ entered found q old ∙ ap (λ (b : Bool). old || b) (same_path-flip q found))

-- a place outside the limits
pub place_outside : (old : Bool) (q : Names) (o : Option Names) (e : PathError) → limited o ≡ Err e → IsPath q → old ≡ (old || is_at o q)
place_outside old q o e h is = or_false old (is_at o q) (limited_other o q e h is)

-- ---- an item more
filter_one : {X : Type 0} (f : X → Option Names) (e : X) (o : Option Names) (q : Names) → f e ≡ o → list_any (λ c. same_path c q) (filter_map f (e ∷ [])) ≡ is_at o q
filter_one f e None q h = rw h refl
filter_one f e (Some p) q h = rw h (or_none (same_path p q))
  where
    or_none : (a : Bool) → (a || false) ≡ a
    or_none true = refl
    or_none false = refl

filter_more_at : {X : Type 0} (f : X → Option Names) (e : X) (es ds : List X) (o : Option Names) → f e ≡ o → filter_map f (es ++ ds) ≡ filter_map f es ++ filter_map f ds → filter_map f ((e ∷ es) ++ ds) ≡ filter_map f (e ∷ es) ++ filter_map f ds
filter_more_at f e es ds None h ih = rw h ih
filter_more_at f e es ds (Some p) h ih = rw h (ap (λ (ps : List Names). p ∷ ps) ih)

filter_more : {X : Type 0} (f : X → Option Names) (es ds : List X) → filter_map f (es ++ ds) ≡ filter_map f es ++ filter_map f ds
filter_more f [] ds = refl
filter_more f (e ∷ es) ds = filter_more_at f e es ds (f e) refl (filter_more f es ds)

pub places_more : {X : Type 0} (f : X → Option Names) (es : List X) (i : ℕ) (e : X) (q : Names) (old new : Bool) → slice_get es i ≡ Some e
    → old ≡ list_any (λ c. same_path c q) (filter_map f (take i es)) → new ≡ (old || is_at (f e) q) → new ≡ list_any (λ c. same_path c q) (filter_map f (take (i + 1) es))
places_more f es i e q old new g h k =
    k ∙ ap (λ (b : Bool). b || is_at (f e) q) h ∙ ap (λ (b : Bool). list_any (λ c. same_path c q) (filter_map f (take i es)) || b) (sym (filter_one f e (f e) q refl))
    ∙ sym (list_any-append (λ c. same_path c q) (filter_map f (take i es)) (filter_map f (e ∷ [])))
    ∙ ap (list_any (λ c. same_path c q)) (sym (filter_more f (take i es) (e ∷ [])))
    ∙ ap (λ ds. list_any (λ c. same_path c q) (filter_map f ds)) (sym (take_get es i e g))
