-- What a walk of the target finds to be missing is what the copy removes.
use Rattle.std.proofs.Common.{◌≡◌, Bool, true, false, not, ◌||◌, List, [], ◌∷◌, ◌++◌, map, Option, Some, None, refl, sym, ◌∙◌, ap, subst}
use Rattle.std.proofs.lemmas.Bool.{and_from}
use Rattle.std.specs.Cmp.{first_so, second_so}
use Rattle.std.specs.List.{list_all, list_any}
use Rattle.dc_path.specs.Order.{is_after}
use Rattle.dc_path.specs.Paths.{Names, at_cut, cut, is_root, is_under, same_path}
use Rattle.dc_path.proofs.PathLemmas.{append-cut}
use Rattle.dc_attrs.specs.Trees.{Tree, IsThere, is_hidden}
use Rattle.dc_options.specs.Settings.{Settings}
use Rattle.dc_listing.specs.Entries.{Entry}
use Rattle.dc_listing.specs.Walking.{is_below}
use Rattle.dc_listing.proofs.Ascending.{all_weaker}
use Rattle.dc_decide.specs.Plans.{Decision, Decisions, item_rel}
use Rattle.dc_missing.specs.Missing as missing
use Rattle.dc_missing.specs.Missing.{Goes, covers, is_place, is_visible, leads_below}
use Rattle.dc_plan.specs.Planning.{item_of}
use Rattle.dc_result.specs.Commits.{AreRemovals, IsPlanOf, are_apart}
use Rattle.dc_result.specs.Jobs.{Job}
use Rattle.dc_result.specs.Removing.{CoverMissing}
use Rattle.dc_result.proofs.Making.{passes}
use Rattle.dc_result.proofs.Removing.{after_off, missing_goes, none_goes}
use Rattle.dc_engine.specs.Begun.{AreMissing, AreToGo, SameItemsLack}

-- ---- the same items
place_by : (base p : Names) (ds : List Decision) → list_any (λ d. same_path (base ++ item_rel d) p) ds ≡ list_any (λ (e : Entry). same_path (base ++ e.rel) p) (map item_of ds)
place_by base p [] = refl
place_by base p (d ∷ ds) = ap (λ b. same_path (base ++ d.item.rel) p || b) (place_by base p ds)

same_place : (old new : Decisions) (p : Names) → old.base ≡ new.base → map item_of old.items ≡ map item_of new.items → is_place old p ≡ is_place new p
same_place old new p base items =
    ap (λ (b : Names). list_any (λ d. same_path (b ++ item_rel d) p) old.items) base
    ∙ place_by new.base p old.items
    ∙ ap (list_any (λ (e : Entry). same_path (new.base ++ e.rel) p)) items
    ∙ sym (place_by new.base p new.items)

same_goes : (t : Tree) (listed other : Names → Bool) (dir q : Names) → ((p : Names) → listed p ≡ other p) → Goes t listed dir q → Goes t other dir q
same_goes t listed other dir q same g = record { unlisted = λ rest. sym (same (dir ++ (q ++ rest))) ∙ g.unlisted rest; unhidden = g.unhidden }

pub same_items_lack : SameItemsLack
same_items_lack t old new paths base items m = record {
  ascending = m.ascending;
  apart = m.apart;
  below = subst (λ (b : Names). list_all (leads_below b) paths ≡ true) base m.below;
  stand = m.stand;
  goes = λ q below there.
      let k = m.goes q below (subst (λ (b : Names). IsThere t (b ++ q)) (sym base) there) in (
        λ h. subst (λ (b : Names). Goes t (is_place new) b q) base
            (same_goes t (is_place old) (is_place new) old.base q (λ p. same_place old new p base items) (k.0 (ap (λ (b : Names). covers paths (b ++ q)) base ∙ h))),
        λ g. ap (λ (b : Names). covers paths (b ++ q)) (sym base)
            ∙ k.1 (same_goes t (is_place new) (is_place old) old.base q (λ p. sym (same_place old new p base items)) (subst (λ (b : Names). Goes t (is_place new) b q) (sym base) g)),
      );
}

pub still_to_go : (o : Settings) (t : Tree) (old new : Decisions) (paths : List Names) → old.base ≡ new.base → map item_of old.items ≡ map item_of new.items → AreToGo o t old paths → AreToGo o t new paths
still_to_go o t old new paths base items go = record { missing = λ e. same_items_lack t old new paths base items (go.missing e); none = go.none }

-- ---- what goes
apart_so : (ps : List Names) → missing.are_apart ps ≡ true → are_apart ps ≡ true
apart_so [] h = refl
apart_so (p ∷ ps) h = and_from _ _ (all_weaker (is_after p) (λ q. not (is_under p q)) (λ q k. ap not (after_off p q k)) ps (first_so _ _ h)) (apart_so ps (second_so _ _ h))

below_so : (base p : Names) → leads_below base p ≡ true → (q : Names) × (p ≡ base ++ q) × (is_root q ≡ false)
below_so base p h = by (cut base p) refl h
  where
    by : (o : Option Names) → cut base p ≡ o → at_cut o false is_visible ≡ true → (q : Names) × (p ≡ base ++ q) × (is_root q ≡ false)
    by None e k = absurd (cc)
    by (Some []) e k = absurd (cc)
    by (Some (x ∷ q)) e k = (x ∷ q, append-cut base p (x ∷ q) e, refl)

below_root : (q : Names) → is_root q ≡ false → is_below q ≡ true
below_root [] h = absurd (cc)
below_root (x ∷ q) h = refl

module _ (job : Job) (plan : Decisions) (paths : List Names) (planned : IsPlanOf job plan) where
  cover : AreMissing job.before plan paths → CoverMissing job plan paths
  cover m = record {
    ascending = m.ascending;
    apart = apart_so paths m.apart;
    below = λ p h. let b = below_so plan.base p (passes (leads_below plan.base) paths p m.below h) in (b.0, b.1 ∙ ap (λ (base : Names). base ++ b.0) planned.under, b.2);
    stood = m.stand;
    missing = λ q root there.
        let k = m.goes q (below_root q root) (subst (λ (base : Names). IsThere job.before (base ++ q)) (sym planned.under) there) in (
          λ h. let g = k.0 (ap (λ (base : Names). covers paths (base ++ q)) planned.under ∙ h) in
              record { unplaced = g.unlisted; unhidden = subst (λ (base : Names). (rest : Names) → IsThere job.before (base ++ (q ++ rest)) → is_hidden (q ++ rest) ≡ false) planned.under g.unhidden },
          λ g. ap (λ (base : Names). covers paths (base ++ q)) (sym planned.under)
              ∙ k.1 (record { unlisted = g.unplaced; unhidden = subst (λ (base : Names). (rest : Names) → IsThere job.before (base ++ (q ++ rest)) → is_hidden (q ++ rest) ≡ false) (sym planned.under) g.unhidden }),
        );
  }

  pub removals : AreToGo job.settings job.before plan paths → AreRemovals job paths
  removals go = by job.settings.delete refl
    where
      by : (b : Bool) → job.settings.delete ≡ b → AreRemovals job paths
      by true e = missing_goes job plan paths e planned (cover (go.missing e))
      by false e = subst (AreRemovals job) (sym (go.none e)) (none_goes job e)
