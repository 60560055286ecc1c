-- The tree that a plain copy leaves, and what lands in it.
use Rattle.std.proofs.Common.{◌≡◌, ℕ, ◌-◌, Bool, true, false, cond, not, List, [], ◌∷◌, ◌++◌, length, Option, Some, None, refl, ap, ◌∙◌, arith, slice_get}
use Rattle.std.specs.Option.{option_map, option_map_or, option_and_then}
use Rattle.dc_path.specs.Paths.{Names, cut, at_cut, is_above, is_root}
use Rattle.dc_path.proofs.PathLemmas.{append-cut}
use Rattle.dc_attrs.specs.Attributes.{default_dir}
use Rattle.dc_attrs.specs.Keeping.{kept_by, overlay}
use Rattle.dc_attrs.specs.Trees.{Node, Dir, File, Tree, bare, made, is_dir}
use Rattle.dc_fs.specs.declared.target.Landed.{Landed}
use Rattle.dc_fs.specs.declared.target.Mode.TheVariants as mode_of
use Rattle.dc_listing.specs.Listed.{Origin, origins_of}
use Rattle.dc_result.specs.Effects.{AreEffects, effect_on}
use Rattle.dc_result.specs.Jobs.{Job, listed, in_run}
use Rattle.dc_result.specs.Result.{IsResult, built, copied, is_base, result_on}
use Rattle.dc_decide.specs.Deciding.{action_of}
use Rattle.dc_plain.specs.Plain.{IsPlain, copied_from, plain}
use Rattle.dc_plain.specs.Left.{AreLandings, anew, landing_at, left, left_below}
use Rattle.dc_plain.proofs.ListLemmas.{no_rules, root_of, all_listed_is}

-- ---- the copy
abbrev pub plain_job : Tree → Names → Names → (Names → Bool) → Job
plain_job s source target out = record {
  settings = plain source target;
  listing = listed no_rules s (root_of source ∷ []);
  out = out;
  before = bare;
  target = target;
  base = target;
}

first_origin : (from : Names) (o : Option Node) → slice_get (origins_of from o true) 0 ≡ option_map (λ node. record { from = from; node = node }) o
first_origin from None = refl
first_origin from (Some n) = refl

-- ---- nothing is there before
-- but the root, below which the target is
pub nothing_there : (target rel : Names) → is_root target ≡ false → bare (target ++ rel) ≡ None
nothing_there [] rel e = absurd (cc)
nothing_there (x ∷ target) rel e = refl

made_bare : (p : Names) → made (bare p) ≡ Some (Dir default_dir)
made_bare [] = refl
made_bare (x ∷ p) = refl

-- beside the target
beside_by : (p target : Names) (above : Bool) → is_root target ≡ false → is_above p target ≡ above → cond above (made (bare p)) (bare p) ≡ cond above (Some (Dir default_dir)) None
beside_by p target true e h = made_bare p
beside_by [] [] false e h = absurd (cc)
beside_by [] (x ∷ target) false e h = absurd (cc)
beside_by (x ∷ p) target false e h = refl

-- ---- what is new
-- no attribute is kept
new_node : (source target : Names) (n : Node) → copied (plain source target) n None ≡ anew n
unfolding kept_by overlay
new_node source target (Dir a) = refl
new_node source target (File bytes a) = refl

no_bytes_less : (n : ℕ) → n - 0 ≡ n
no_bytes_less n = omega arith

new_landing : (source target place : Names) (n : Node) → effect_on place n (action_of (plain source target) n None) ≡ landing_at place (Some n)
new_landing source target place (Dir a) = refl
new_landing source target place (File bytes a) = ap (λ n. Some (record { path = place; mode = mode_of.Replace; bytes = n })) (no_bytes_less (length bytes))

-- what is copied over nothing, by what is listed there
anew_by : (source target : Names) (from : Names) (o : Option Node) (gone : Bool) →
    result_on (plain source target) (option_map (λ node. record { from = from; node = node }) o) false gone None ≡ option_map anew o
anew_by source target from None true = refl
anew_by source target from None false = refl
anew_by source target from (Some n) gone = ap Some (new_node source target n)

effect_by : (source target place from : Names) (o old : Option Node) → old ≡ None →
    option_and_then (λ (origin : Origin). effect_on place origin.node (action_of (plain source target) origin.node old)) (option_map (λ node. record { from = from; node = node }) o) ≡ landing_at place o
effect_by source target place from None old e = refl
effect_by source target place from (Some n) old e = ap (λ before. effect_on place n (action_of (plain source target) n before)) e ∙ new_landing source target place n

-- below the target, or beside it
at_each : {A : Type 0} (target p : Names) (rest : Option Names) (other other_too : A) (here here_too : Names → A) → cut target p ≡ rest → other ≡ other_too → ((rel : Names) → p ≡ target ++ rel → here rel ≡ here_too rel) → at_cut rest other here ≡ at_cut rest other_too here_too
at_each target p None other other_too here here_too e h k = h
at_each target p (Some rel) other other_too here here_too e h k = k rel (append-cut target p rel e)

module _ (s : Tree) (source target : Names) (p : IsPlain s source target) (out : Names → Bool) where
  pub listing_is : (rel : Names) → listed no_rules s (root_of source ∷ []) rel ≡ option_map (λ node. record { from = source ++ rel; node = node }) (copied_from s source rel)
  listing_is rel = ap (λ origins. slice_get origins 0) (all_listed_is s source p.dir rel) ∙ first_origin (source ++ rel) (copied_from s source rel)

  module _ (whole : (rel : Names) → out rel ≡ false) where
    pub in_run_is : (rel : Names) → in_run (plain_job s source target out) rel ≡ option_map (λ node. record { from = source ++ rel; node = node }) (copied_from s source rel)
    in_run_is rel = ap (λ b. cond b None (listed no_rules s (root_of source ∷ []) rel)) (whole rel) ∙ listing_is rel

    -- at and below the target
    left_by : (rel : Names) (gone : Bool) → result_on (plain source target) (in_run (plain_job s source target out) rel) (is_base (plain_job s source target out) rel) gone None ≡ left_below s source rel
    left_by [] gone =
        ap (λ o. result_on (plain source target) o (is_base (plain_job s source target out) []) gone None) (in_run_is [])
        ∙ ap (λ (o : Option Origin). result_on (plain source target) None (not (option_map_or (λ origin. not (is_dir origin.node)) o false)) gone None) (listing_is [])
    left_by (x ∷ rest) gone =
        ap (λ o. result_on (plain source target) o false gone None) (in_run_is (x ∷ rest))
        ∙ anew_by source target (source ++ x ∷ rest) (copied_from s source (x ∷ rest)) gone

    left_at : (gone : Names → Bool) (q : Names) → built (plain_job s source target out) gone q ≡ left s source target q
    left_at gone q = at_each target q (cut target q) _ _ _ _ refl
        (beside_by q target (is_above q target) p.below refl)
        (λ rel e. ap (λ (old : Option Node). result_on (plain source target) (in_run (plain_job s source target out) rel) (is_base (plain_job s source target out) rel) (gone rel) old) (ap bare e ∙ nothing_there target rel p.below) ∙ left_by rel (gone rel))

    pub result_is : (new : Option Tree) → IsResult (plain_job s source target out) new → new ≡ Some (left s source target)
    result_is None r = absurd (r.2)
    result_is (Some n) r = ap Some (λ i q. (r.2 q ∙ left_at r.0 q) i)

    pub landings_are : (effects : List Landed) → AreEffects (plain_job s source target out) effects → AreLandings s source target effects
    landings_are effects e = record {
      ascending = e.ascending;
      each = λ q. e.each q ∙ at_each target q (cut target q) _ _ _ _ refl refl (λ rel f.
          ap (λ (o : Option Origin). option_and_then (λ (origin : Origin). effect_on (target ++ rel) origin.node (action_of (plain source target) origin.node (bare (target ++ rel)))) o) (in_run_is rel)
          ∙ effect_by source target (target ++ rel) (source ++ rel) (copied_from s source rel) (bare (target ++ rel)) (nothing_there target rel p.below));
    }
