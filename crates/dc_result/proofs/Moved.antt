-- What is built under another path and then moved to the target is the result there.
use Rattle.std.proofs.Common.{◌≡◌, inr, ◌++◌, Bool, cond, Option, Some, None, refl, sym, ◌∙◌, ap}
use Rattle.dc_path.specs.Paths.{Names, cut, at_cut, is_above}
use Rattle.dc_path.proofs.PathLemmas.{append-cut, cut-append}
use Rattle.dc_attrs.specs.Trees.{Node, Tree, made, moved, without}
use Rattle.dc_result.specs.Commits.{Commit, IsCommit, dirs_set}
use Rattle.dc_missing.specs.Missing.{covers}
use Rattle.dc_result.specs.Jobs.{Job, IsJob, at_target, in_run}
use Rattle.dc_result.specs.Result.{AreGone, IsResult, built, is_base, result, result_on}
use Rattle.dc_result.specs.Atomic.{IsAtomic, IsEmptyAt}
use Rattle.dc_result.proofs.Built.{not_above, phases_build}

nothing_there : (t : Tree) (p q r : Names) → IsEmptyAt t p → cut p q ≡ Some r → t q ≡ None
nothing_there t p q r free e = ap t (append-cut p q r e) ∙ free r

-- the move, at one path
pub moved_built : (job : Job) (gone : Names → Bool) (t : Tree) (q : Names) → IsAtomic job → ((p : Names) → t p ≡ built job gone p) → moved t job.base job.target q ≡ result job gone q
moved_built job gone t q is h = split (cut job.target q) refl
  where
    off : (c : Option Names) → cut job.base q ≡ c → at_cut c (t q) (λ rest. None) ≡ cond (is_above q job.target) (made (job.before q)) (job.before q)
    off (Some r) f =
        sym (ap (λ b. cond b (made (job.before q)) (job.before q)) (not_above job.target job.base q r (inr is.apart) f) ∙ nothing_there job.before job.base q r is.work_free f)
    off None f =
        h q ∙ ap (λ c. at_cut c (cond (is_above q job.target) (made (job.before q)) (job.before q)) (λ rel. result_on job.settings (in_run job rel) (is_base job rel) (gone rel) (job.before q))) f

    split : (c : Option Names) → cut job.target q ≡ c → at_cut c (without t job.base q) (λ rest. t (job.base ++ rest))
        ≡ at_cut c (cond (is_above q job.target) (made (job.before q)) (job.before q)) (λ rel. result_on job.settings (in_run job rel) (is_base job rel) (gone rel) (job.before q))
    split (Some r) e =
        h (job.base ++ r)
        ∙ ap (λ c. at_cut c (cond (is_above (job.base ++ r) job.target) (made (job.before (job.base ++ r))) (job.before (job.base ++ r))) (λ rel. result_on job.settings (in_run job rel) (is_base job rel) (gone rel) (job.before (job.base ++ r)))) (cut-append job.base r)
        ∙ ap (result_on job.settings (in_run job r) (is_base job r) (gone r)) (is.work_free r ∙ sym (nothing_there job.before job.target q r is.target_free e))
    split None e = off (cut job.base q) refl

no_node : (o : Option Node) (n : Node) → o ≡ None → o ≡ Some n → ⊥
no_node o n e h = let f : Some n ≡ None = sym h ∙ e in cc

-- where nothing stood under the target, nothing has to go
pub none_go : (job : Job) (gone : Names → Bool) → IsEmptyAt job.before job.target → AreGone (at_target job) gone
none_go job gone free rel there = absurd (no_node (job.before (job.target ++ rel)) there.0 (free rel) there.1)

pub moved_is : (s : Tree) (job : Job) (commit : Commit) → IsJob s job → IsAtomic job → IsCommit s job commit → IsResult job (Some (moved (dirs_set job commit) job.base job.target))
moved_is s job commit is atomic c = (
  (λ rel. covers commit.paths (job.base ++ rel)),
  none_go job (λ rel. covers commit.paths (job.base ++ rel)) atomic.target_free,
  λ p. moved_built job (λ rel. covers commit.paths (job.base ++ rel)) (dirs_set job commit) p atomic (phases_build s job commit is c),
)
