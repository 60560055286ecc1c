-- Whether something is made under the base, and what stands there where nothing is.
use Rattle.std.proofs.Common.{◌≡◌, ◌⊎◌, inl, inr, ⊎_elim, List, [], ◌∷◌, ◌++◌, Bool, true, false, cond, not, ◌&&◌, ◌||◌, Option, Some, None, map, is_some, refl, sym, ◌∙◌, ap, append-nil, append_assoc}
use Rattle.std.proofs.Math.Bool.{or-false}
use Rattle.std.specs.Cmp.{second_so}
use Rattle.std.specs.Option.{option_map, option_map_or}
use Rattle.dc_path.specs.Found.{found}
use Rattle.dc_path.specs.Order.{is_ascending}
use Rattle.dc_path.specs.Paths.{Names, at_cut, cut, is_above, is_root, same_path}
use Rattle.dc_path.proofs.FoundLemmas.{found-filter, found-once, kept}
use Rattle.dc_path.proofs.PathLemmas.{append-cut, cut-append}
use Rattle.dc_attrs.specs.Trees.{Node, Tree, is_dir, made, moved, without}
use Rattle.dc_listing.specs.Listed.{Origin}
use Rattle.dc_decide.specs.Deciding.{decided}
use Rattle.dc_decide.specs.Plans.{Decision, Decisions, item_rel}
use Rattle.dc_missing.specs.Missing.{covers}
use Rattle.dc_result.specs.Atomic.{HasWork, IsAtomic}
use Rattle.dc_result.specs.Begins.{Begins, HasDir}
use Rattle.dc_result.specs.Commits.{Commit, IsCommit, IsPlanOf, dirs_set, is_in}
use Rattle.dc_result.specs.Jobs.{IsJob, Job, in_run, lists_file, old_at}
use Rattle.dc_result.specs.Result.{IsResult, is_base, result_on}
use Rattle.dc_result.proofs.Built.{not_above, phases_build}
use Rattle.dc_result.proofs.Lawful.{move_gives_result}
use Rattle.dc_result.proofs.Places.{is_file_item, root_file, root_file_found}
use Rattle.dc_engine.specs.Committing.{lacks_work}

-- ---- by the plan
-- the item is a file that the copy goes on without
abbrev is_out_file : Option Decision → Bool
is_out_file o = option_map_or (λ d. not d.item.dir && d.out) o false

out_first : (d : Decision) (o : Option Decision) (r : Names) → (same_path r [] ≡ true → o ≡ None) → ((is_root r && (not d.item.dir && d.out)) || is_out_file o) ≡ is_out_file (cond (same_path r []) (Some d) o)
out_first d o [] once = ap (λ z. (not d.item.dir && d.out) || is_out_file z) (once refl) ∙ or-false (not d.item.dir && d.out)
out_first d o (x ∷ r) once = refl

out_found : (items : List Decision) → is_ascending (map item_rel items) ≡ true → lacks_work items ≡ is_out_file (found item_rel items [])
out_found [] a = refl
out_found (d ∷ items) a =
    ap (λ b. (is_root d.item.rel && (not d.item.dir && d.out)) || b) (out_found items (second_so _ _ a))
    ∙ out_first d (found item_rel items []) d.item.rel (found-once item_rel d items [] a)

module _ (job : Job) (plan : Decisions) (is : IsPlanOf job plan) where
  file_is : lists_file job [] ≡ is_file_item (found item_rel plan.items [])
  file_is = sym (root_file job plan is) ∙ root_file_found plan.items is.ascending

  run_is : option_map (λ (origin : Origin). decided job.settings [] origin (old_at job [])) (in_run job []) ≡ kept is_in (found item_rel plan.items [])
  run_is = sym (is.decisions []) ∙ found-filter item_rel is_in plan.items [] is.ascending

  some_run : (o : Option Origin) → is_some (option_map (λ (origin : Origin). decided job.settings [] origin (old_at job [])) o) ≡ is_some o
  some_run None = refl
  some_run (Some origin) = refl

  has_run : is_some (in_run job []) ≡ is_some (kept is_in (found item_rel plan.items []))
  has_run = sym (some_run (in_run job [])) ∙ ap is_some run_is

  -- an item that is no file that is left out
  one_works : (d : Decision) (dir out : Bool) → (not dir && out) ≡ false → (is_some (cond (not out) (Some d) None) ≡ true) ⊎ (not dir ≡ false)
  one_works d true out h = inr refl
  one_works d false true h = absurd (cc)
  one_works d false false h = inl refl

  pub has_work : lacks_work plan.items ≡ false → HasWork job
  has_work h = by (found item_rel plan.items []) refl
    where
      by : (o : Option Decision) → found item_rel plan.items [] ≡ o → HasWork job
      by None e = inr (file_is ∙ ap is_file_item e)
      by (Some d) e =
          ⊎_elim
          (λ w. inl (has_run ∙ ap (λ o. is_some (kept is_in o)) e ∙ w))
          (λ w. inr (file_is ∙ ap is_file_item e ∙ w))
          (one_works d d.item.dir d.out (sym (ap is_out_file e) ∙ sym (out_found plan.items is.ascending) ∙ h))

  one_lacks : (d : Decision) (dir out : Bool) → (not dir && out) ≡ true → (is_some (cond (not out) (Some d) None) ≡ false) × (not dir ≡ true)
  one_lacks d true out h = absurd (cc)
  one_lacks d false true h = (refl, refl)
  one_lacks d false false h = absurd (cc)

  none_run : is_some (in_run job []) ≡ false → in_run job [] ≡ None
  none_run h = by (in_run job []) refl
    where
      by : (o : Option Origin) → in_run job [] ≡ o → in_run job [] ≡ None
      by None e = e
      by (Some origin) e = let no : true ≡ false = sym (ap is_some e) ∙ h in absurd (cc)

  -- a file is listed at the root path, and nothing there is copied
  pub no_work : lacks_work plan.items ≡ true → (in_run job [] ≡ None) × (lists_file job [] ≡ true)
  no_work h = by (found item_rel plan.items []) refl
    where
      by : (o : Option Decision) → found item_rel plan.items [] ≡ o → (in_run job [] ≡ None) × (lists_file job [] ≡ true)
      by None e = let no : true ≡ false = sym h ∙ out_found plan.items is.ascending ∙ ap is_out_file e in absurd (cc)
      by (Some d) e =
          let w = one_lacks d d.item.dir d.out (sym (ap is_out_file e) ∙ sym (out_found plan.items is.ascending) ∙ h) in
          (none_run (has_run ∙ ap (λ o. is_some (kept is_in o)) e ∙ w.0), file_is ∙ ap is_file_item e ∙ w.1)

-- ---- nothing is copied
module _ (job : Job) (begins : Begins job) (atomic : IsAtomic job) (root : in_run job [] ≡ None) (file : lists_file job [] ≡ true) where
  -- what is copied has a directory above it, and there is none
  no_dir : (q : Names) → in_run job q ≡ None → HasDir job q → ⊥
  no_dir q e (inl h) = let no : false ≡ true = sym (base_not (is_root q) (lists_file job []) file) ∙ h in absurd (cc)
    where
      base_not : (b c : Bool) → c ≡ true → (b && not c) ≡ false
      base_not true true h = refl
      base_not false true h = refl
      base_not true false h = absurd (cc)
      base_not false false h = absurd (cc)
  no_dir q e (inr (inl h)) = let no : false ≡ true = sym (ap (λ o. option_map_or (λ (origin : Origin). is_dir origin.node) o false) e) ∙ h in absurd (cc)
  no_dir q e (inr (inr h)) = let no : None ≡ Some _ = sym (atomic.work_free q) ∙ h.1 in absurd (cc)

  none_below : (rest q : Names) → in_run job q ≡ None → in_run job (q ++ rest) ≡ None
  none_below [] q e = ap (in_run job) (append-nil q) ∙ e
  none_below (x ∷ rest) q e = ap (in_run job) (sym (append_assoc q (x ∷ []) rest)) ∙ none_below rest (q ++ x ∷ []) (by (in_run job (q ++ x ∷ [])) refl)
    where
      by : (o : Option Origin) → in_run job (q ++ x ∷ []) ≡ o → in_run job (q ++ x ∷ []) ≡ None
      by None f = f
      by (Some origin) f = absurd (no_dir q e (begins.parents q x origin f))

  module _ (s : Tree) (commit : Commit) (is : IsJob s job) (c : IsCommit s job commit) where
    nothing_on : (o : Option Origin) (b gone : Bool) (old : Option Node) → o ≡ None → b ≡ false → old ≡ None → result_on job.settings o b gone old ≡ None
    nothing_on o b gone old e f h = ap (λ z. result_on job.settings z b gone old) e ∙ ap (λ z. result_on job.settings None z gone old) f ∙ by gone
      where
        by : (g : Bool) → result_on job.settings None false g old ≡ None
        by true = refl
        by false = h

    no_base : (q : Names) → is_base job q ≡ false
    no_base q = by (is_root q) (lists_file job []) file
      where
        by : (b l : Bool) → l ≡ true → (b && not l) ≡ false
        by true true h = refl
        by false true h = refl
        by true false h = absurd (cc)
        by false false h = absurd (cc)

    -- nothing stands at the base or under it
    nothing_built : (r : Names) → dirs_set job commit (job.base ++ r) ≡ None
    nothing_built r =
        phases_build s job commit is c (job.base ++ r)
        ∙ ap (λ o. at_cut o (cond (is_above (job.base ++ r) job.target) (made (job.before (job.base ++ r))) (job.before (job.base ++ r))) (λ rel. result_on job.settings (in_run job rel) (is_base job rel) (covers commit.paths (job.base ++ rel)) (job.before (job.base ++ r)))) (cut-append job.base r)
        ∙ nothing_on (in_run job r) (is_base job r) (covers commit.paths (job.base ++ r)) (job.before (job.base ++ r)) (none_below r [] root) (no_base r) (atomic.work_free r)

    -- nor at the target
    nothing_moved : (r : Names) → dirs_set job commit (job.target ++ r) ≡ None
    nothing_moved r = by (cut job.base (job.target ++ r)) refl
      where
        by : (o : Option Names) → cut job.base (job.target ++ r) ≡ o → dirs_set job commit (job.target ++ r) ≡ None
        by (Some z) e = ap (dirs_set job commit) (append-cut job.base (job.target ++ r) z e) ∙ nothing_built z
        by None e =
            phases_build s job commit is c (job.target ++ r)
            ∙ ap (λ o. at_cut o (cond (is_above (job.target ++ r) job.target) (made (job.before (job.target ++ r))) (job.before (job.target ++ r))) (λ rel. result_on job.settings (in_run job rel) (is_base job rel) (covers commit.paths (job.base ++ rel)) (job.before (job.target ++ r)))) e
            ∙ ap (λ b. cond b (made (job.before (job.target ++ r))) (job.before (job.target ++ r))) (not_above job.target job.target (job.target ++ r) r (inl refl) (cut-append job.target r))
            ∙ atomic.target_free r

    -- so the move would change nothing
    move_same : (q : Names) → dirs_set job commit q ≡ moved (dirs_set job commit) job.base job.target q
    move_same q = by (cut job.target q) refl
      where
        off : (o : Option Names) → cut job.base q ≡ o → dirs_set job commit q ≡ at_cut o (dirs_set job commit q) (λ rest. None)
        off None e = refl
        off (Some z) e = ap (dirs_set job commit) (append-cut job.base q z e) ∙ nothing_built z

        by : (o : Option Names) → cut job.target q ≡ o → dirs_set job commit q ≡ at_cut o (without (dirs_set job commit) job.base q) (λ rest. dirs_set job commit (job.base ++ rest))
        by None e = off (cut job.base q) refl
        by (Some z) e = ap (dirs_set job commit) (append-cut job.target q z e) ∙ nothing_moved z ∙ sym (nothing_built z)

    pub unmoved_result : IsResult job (Some (dirs_set job commit))
    unmoved_result =
        let w = move_gives_result s job commit is atomic c in
        (w.0, w.1, λ p. move_same p ∙ w.2 p)
