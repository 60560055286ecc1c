-- The path is added to the set.
use Rattle.std.proofs.Common.{◌∙◌, ◌||◌, ap}
use Rattle.std.specs.BTreeSet.{contains}
use Rattle.dc_path.specs.Paths.{Names, path_cmp, same_path}
use Rattle.dc_report.proofs.KnownLemmas.{entered}
use Rattle.dc_report.proofs.known.enter.Goals as goal

pub returns-clause-enters : goal.returns-clause-enters
returns-clause-enters c = λ p.
    c.in_ok-insert.ensures.updates.0 p ∙ entered c.in_ok-copied.copied p (contains path_cmp c.args.paths.now p) ∙ ap (λ (q : Names). contains path_cmp c.args.paths.now p || same_path p q) c.in_ok-copied.ensures
