-- The move of what was built under a work path is not refused.
use Rattle.std.proofs.Common.{◌≡◌, ◌⊎◌, inl, inr, [], ◌∷◌, ◌++◌, Bool, true, false, cond, not, ◌&&◌, Option, Some, None, is_some, refl, sym, ◌∙◌, ap, append-nil}
use Rattle.std.specs.Option.{option_or}
use Rattle.dc_path.specs.Paths.{Names, at_cut, cut, front_of, is_above}
use Rattle.dc_path.proofs.Fronts.{above_append}
use Rattle.dc_path.proofs.PathLemmas.{Ended, cut-append, cut_front, ended_cons, front_of-append, no_rest}
use Rattle.dc_attrs.specs.Refusals.{refused_at, refused_in, refused_into, refused_new, refused_onto, refused_rename, refused_root}
use Rattle.dc_attrs.specs.Trees.{Tree, IsTree, is_dir_node, made, seen}
use Rattle.dc_listing.specs.Listed.{Origin}
use Rattle.dc_options.specs.Settings.{Settings}
use Rattle.dc_result.specs.Atomic.{HasWork, IsAtomic, IsEmptyAt}
use Rattle.dc_result.specs.Begins.{Begins}
use Rattle.dc_result.specs.Commits.{Commit, IsCommit, dirs_set}
use Rattle.dc_missing.specs.Missing.{covers}
use Rattle.dc_result.specs.Jobs.{IsJob, Job, in_run, lists_file}
use Rattle.dc_result.specs.Result.{is_base, result_on}
use Rattle.dc_result.proofs.Allowed.{shown_allows}
use Rattle.dc_result.proofs.Built.{not_above, phases_build, root_stays}
use Rattle.dc_result.proofs.KindLemmas.{dir_shown, made_here}

-- nothing stands there, so it is not the root
empty_root : (t : Tree) (p : Names) → IsTree t → IsEmptyAt t p → refused_root p ≡ None
empty_root t [] v free = let f : Some _ ≡ None = sym v.root.1 ∙ free [] in absurd (cc)
empty_root t (x ∷ p) v free = refl

empty_ended : (t : Tree) (p : Names) → IsTree t → IsEmptyAt t p → Ended p
empty_ended t [] v free = let f : Some _ ≡ None = sym v.root.1 ∙ free [] in absurd (cc)
empty_ended t (x ∷ p) v free = ended_cons x p

work_stands : (o : Settings) (origin : Option Origin) (file gone : Bool) → gone ≡ false → (is_some origin ≡ true) ⊎ (file ≡ false) → is_some (result_on o origin (true && not file) gone None) ≡ true
work_stands o (Some z) file gone g h = refl
work_stands o None true gone g (inl h) = absurd (cc)
work_stands o None true gone g (inr h) = absurd (cc)
work_stands o None false gone g h = refl

not_refused : (t : Tree) (from to : Names) → refused_root from ≡ None → refused_root to ≡ None → refused_at (seen t from) ≡ None → t to ≡ None → cut from to ≡ None → refused_in (seen t (front_of to)) ≡ None → refused_rename t from to ≡ None
not_refused t from to a b c d e f =
    ap (λ o. option_or o (option_or (refused_root to) (option_or (refused_at (seen t from)) (refused_onto t from to)))) a
    ∙ ap (λ o. option_or o (option_or (refused_at (seen t from)) (refused_onto t from to))) b
    ∙ ap (λ o. option_or o (refused_onto t from to)) c
    ∙ ap (λ n. refused_new n (option_or (refused_into (cut from to)) (refused_in (seen t (front_of to))))) d
    ∙ ap (λ o. option_or (refused_into o) (refused_in (seen t (front_of to)))) e
    ∙ f

module _ (s : Tree) (job : Job) (commit : Commit) (is : IsJob s job) (begins : Begins job) (atomic : IsAtomic job) (c : IsCommit s job commit) (tree : IsTree (dirs_set job commit)) where
  -- what is built at a path that is not under the work path
  built_off : (q : Names) → cut job.base q ≡ None → dirs_set job commit q ≡ cond (is_above q job.target) (made (job.before q)) (job.before q)
  built_off q e = phases_build s job commit is c q
      ∙ ap (λ o. at_cut o (cond (is_above q job.target) (made (job.before q)) (job.before q)) (λ rel. result_on job.settings (in_run job rel) (is_base job rel) (covers commit.paths (job.base ++ rel)) (job.before q))) e

  target_off : cut job.base job.target ≡ None
  target_off = no_rest (cut job.base job.target) atomic.apart

  work_is : HasWork job → is_some (dirs_set job commit job.base) ≡ true
  work_is work =
      ap is_some (phases_build s job commit is c job.base
      ∙ ap (λ o. at_cut o (cond (is_above job.base job.target) (made (job.before job.base)) (job.before job.base)) (λ rel. result_on job.settings (in_run job rel) (is_base job rel) (covers commit.paths (job.base ++ rel)) (job.before job.base)))
      (ap (cut job.base) (sym (append-nil job.base)) ∙ cut-append job.base [])
      ∙ ap (result_on job.settings (in_run job []) (is_base job []) (covers commit.paths (job.base ++ []))) (ap job.before (sym (append-nil job.base)) ∙ atomic.work_free []))
      ∙ work_stands job.settings (in_run job []) (lists_file job []) (covers commit.paths (job.base ++ [])) (root_stays job commit.paths [] c.removes refl) work

  target_free : dirs_set job commit job.target ≡ None
  target_free = built_off job.target target_off
      ∙ ap (λ b. cond b (made (job.before job.target)) (job.before job.target)) (not_above job.target job.target job.target [] (inl refl) (ap (cut job.target) (sym (append-nil job.target)) ∙ cut-append job.target []))
      ∙ ap job.before (sym (append-nil job.target)) ∙ atomic.target_free []

  front_dir : is_dir_node (dirs_set job commit (front_of job.target)) ≡ true
  front_dir =
      let k = empty_ended job.before job.target is.tree atomic.target_free in
      let up : is_above k.front job.target ≡ true = above_append k.front k.name [] job.target k.path in
      ap (λ (q : Names). is_dir_node (dirs_set job commit q)) (ap front_of k.path ∙ front_of-append k.front k.name)
      ∙ ap is_dir_node (built_off k.front (cut_front job.base k.front (k.name ∷ []) (ap (cut job.base) (sym k.path) ∙ target_off))
      ∙ ap (λ b. cond b (made (job.before k.front)) (job.before k.front)) up)
      ∙ made_here (job.before k.front) (begins.room.way k.front up)

  pub move_allowed : HasWork job → refused_rename (dirs_set job commit) job.base job.target ≡ None
  move_allowed work = not_refused (dirs_set job commit) job.base job.target
      (empty_root job.before job.base is.tree atomic.work_free) (empty_root job.before job.target is.tree atomic.target_free)
      (shown_allows (dirs_set job commit) job.base _ tree refl (work_is work))
      target_free target_off
      (ap refused_in (dir_shown (dirs_set job commit) (front_of job.target) tree front_dir))
