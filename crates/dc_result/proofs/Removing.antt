-- The paths that cover what is missing are those that go.
use Rattle.std.proofs.Common.{◌≡◌, List, [], ◌∷◌, ◌++◌, Bool, true, false, cond, ◌&&◌, ◌||◌, Option, Some, None, is_some, refl, sym, ◌∙◌, ap, subst, append_assoc}
use Rattle.std.specs.List.{list_any}
use Rattle.std.specs.Option.{option_map}
use Rattle.dc_path.specs.Found.{found, has_path}
use Rattle.dc_path.specs.Order.{name_lt, is_after}
use Rattle.dc_path.specs.Names.{same_name}
use Rattle.dc_path.specs.Paths.{Names, cut, is_root, is_under, same_path}
use Rattle.dc_path.proofs.OrderLemmas.{name_lt-apart}
use Rattle.dc_path.proofs.PathLemmas.{append-cut, cut-append, same_name-flip, same_path-refl}
use Rattle.dc_attrs.specs.Trees.{IsThere, is_hidden}
use Rattle.dc_listing.specs.Listed.{Origin, entry_at}
use Rattle.dc_decide.specs.Plans.{Decision, Decisions, item_rel}
use Rattle.dc_commit.specs.Settings.{place_of}
use Rattle.dc_missing.specs.Missing.{covers}
use Rattle.dc_missing.proofs.UnderLemmas.{all_of}
use Rattle.dc_plan.specs.Planning.{item_of}
use Rattle.dc_result.specs.Commits.{AreRemovals, IsPlanOf}
use Rattle.dc_result.specs.Jobs.{Job}
use Rattle.dc_result.specs.Removing.{CoverMissing, IsMissing, MissingGoes, NoneGoes}
use Rattle.dc_result.specs.Result.{Goes}
use Rattle.dc_result.proofs.Allowed.{covers_own}
use Rattle.dc_result.proofs.Folds.{found_place, has_one}

-- ---- a path that is covered
-- the path that covers it, and what is behind that
record IsCovered (paths : List Names) (p : Names) : Type 0 where
  front : Names
  rest : Names
  has : has_path paths front ≡ true
  is : p ≡ front ++ rest

covered : (paths : List Names) (p : Names) → covers paths p ≡ true → IsCovered paths p
covered [] p h = absurd (cc)
covered (q ∷ paths) p h = by (cut q p) refl (covered paths p) h
  where
    later : IsCovered paths p → IsCovered (q ∷ paths) p
    later k = record { front = k.front; rest = k.rest; has = or_later (same_path q k.front) k.has; is = k.is }
      where
        or_later : (b : Bool) → has_path paths k.front ≡ true → (b || has_path paths k.front) ≡ true
        or_later true e = refl
        or_later false e = e

    by : (o : Option Names) → cut q p ≡ o → (covers paths p ≡ true → IsCovered paths p) → (is_some o || covers paths p) ≡ true → IsCovered (q ∷ paths) p
    by None e ih k = later (ih k)
    by (Some r) e ih k = record { front = q; rest = r; has = ap (λ b. b || has_path paths q) (same_path-refl q); is = append-cut q p r e }

-- ---- places and what is listed
place_found : (ds : List Decision) (base q : Names) → list_any (λ d. same_path (place_of base d) q) ds ≡ is_some (found (place_of base) ds q)
place_found [] base q = refl
place_found (d ∷ ds) base q = has_one d (found (place_of base) ds q) (same_path (place_of base d) q) (list_any (λ d. same_path (place_of base d) q) ds) (place_found ds base q)

place_at : (ds : List Decision) (base rel : Names) → list_any (λ d. same_path (place_of base d) (base ++ rel)) ds ≡ is_some (found item_rel ds rel)
place_at ds base rel = place_found ds base (base ++ rel) ∙ ap is_some (found_place base ds (base ++ rel) rel (cut-append base rel))

unlisted : (o : Option Decision) (z : Option Origin) (rel : Names) → option_map item_of o ≡ option_map (entry_at rel) z → is_some o ≡ false → z ≡ None
unlisted None None rel e h = refl
unlisted None (Some z) rel e h = absurd (cc)
unlisted (Some d) z rel e h = absurd (cc)

unplaced : (o : Option Decision) (z : Option Origin) (rel : Names) → option_map item_of o ≡ option_map (entry_at rel) z → z ≡ None → is_some o ≡ false
unplaced None z rel e h = refl
unplaced (Some d) None rel e h = absurd (cc)
unplaced (Some d) (Some z) rel e h = absurd (cc)

module _ (job : Job) (plan : Decisions) (paths : List Names) (delete : job.settings.delete ≡ true) (is : IsPlanOf job plan) (told : CoverMissing job plan paths) where
  missing_goes_on : (q r : Names) → is_root q ≡ false → IsMissing job plan q → Goes job (q ++ r)
  missing_goes_on q r root k = record {
    asked = delete;
    below = longer q root;
    unlisted = λ rest. unlisted (found item_rel plan.items ((q ++ r) ++ rest)) (job.listing ((q ++ r) ++ rest)) ((q ++ r) ++ rest) (is.entries ((q ++ r) ++ rest))
        (sym (place_at plan.items plan.base ((q ++ r) ++ rest)) ∙ subst (λ (p : Names). list_any (λ d. same_path (place_of plan.base d) (plan.base ++ p)) plan.items ≡ false) (sym (append_assoc q r rest)) (k.unplaced (r ++ rest)));
    unhidden = λ rest. subst (λ (p : Names). IsThere job.before (job.base ++ p) → is_hidden p ≡ false) (sym (append_assoc q r rest)) (k.unhidden (r ++ rest));
  }
    where
      longer : (p : Names) → is_root p ≡ false → is_root (p ++ r) ≡ false
      longer [] h = absurd (cc)
      longer (x ∷ p) h = refl

  goes_missing : (q : Names) → Goes job q → IsMissing job plan q
  goes_missing q g = record {
    unplaced = λ rest. place_at plan.items plan.base (q ++ rest) ∙ unplaced (found item_rel plan.items (q ++ rest)) (job.listing (q ++ rest)) (q ++ rest) (is.entries (q ++ rest)) (g.unlisted rest);
    unhidden = g.unhidden;
  }

  covered_goes : (rel : Names) → IsCovered paths (job.base ++ rel) → Goes job rel
  covered_goes rel k =
      let b = told.below k.front k.has in
      let s = subst (IsThere job.before) b.1 (told.stood k.front k.has) in
      let m = (told.missing b.0 b.2 s).0 (ap (covers paths) (sym b.1) ∙ covers_own paths k.front k.has) in
      let at : job.base ++ rel ≡ job.base ++ (b.0 ++ k.rest) = k.is ∙ ap (λ (p : Names). p ++ k.rest) b.1 ∙ append_assoc job.base b.0 k.rest in
      let same : Some rel ≡ Some (b.0 ++ k.rest) = sym (cut-append job.base rel) ∙ ap (cut job.base) at ∙ cut-append job.base (b.0 ++ k.rest) in
      let e : rel ≡ b.0 ++ k.rest = cc in
      subst (Goes job) (sym e) (missing_goes_on b.0 k.rest b.2 m)

  removals : AreRemovals job paths
  removals = record {
    ascending = told.ascending;
    apart = told.apart;
    inside = all_of (is_under job.base) paths (λ p h. let b = told.below p h in ap (λ (q : Names). is_some (cut job.base q)) b.1 ∙ ap is_some (cut-append job.base b.0));
    stood = told.stood;
    goes = λ rel h. covered_goes rel (covered paths (job.base ++ rel) h);
    all = λ rel there g. (told.missing rel g.below there).1 (goes_missing rel g);
  }

pub missing_goes : MissingGoes
missing_goes job plan paths delete is told = removals job plan paths delete is told

pub none_goes : NoneGoes
none_goes job delete = record {
  ascending = refl;
  apart = refl;
  inside = refl;
  stood = λ p h. absurd (cc);
  goes = λ rel h. absurd (cc);
  all = λ rel there g. let f : true ≡ false = sym g.asked ∙ delete in absurd (cc);
}

-- ---- order
-- what comes after all that is under a path is not under it
pub after_off : (p q : Names) → is_after p q ≡ true → is_under p q ≡ false
after_off [] q h = absurd (cc)
after_off (x ∷ p) [] h = refl
after_off (x ∷ p) (y ∷ q) h = by (same_name x y) (name_lt x y) refl refl (after_off p q) h
  where
    by : (b c : Bool) → same_name x y ≡ b → name_lt x y ≡ c → (is_after p q ≡ true → is_under p q ≡ false) → (c || (b && is_after p q)) ≡ true → is_some (cond b (cut p q) None) ≡ false
    by false c e f ih k = refl
    by true true e f ih k = let g : true ≡ false = sym e ∙ same_name-flip x y ∙ name_lt-apart x y f in absurd (cc)
    by true false e f ih k = ih k
