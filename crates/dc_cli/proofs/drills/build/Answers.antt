use Rattle.std.proofs.Common.{◌∙◌, ap, min}
use Rattle.dc_cli.specs.DrillSteps.{with_dirs, with_files}
use Rattle.dc_cli.proofs.DrillLemmas.{tree_is}
use Rattle.dc_cli.proofs.drills.build.Goals as goal

pub returns : goal.returns
returns c =
    c.in_ok-add_files.ensures
    ∙ ap (with_files c.args.seed c.args.count) (c.in_ok-dirs.ensures.tree ∙ ap (with_dirs (min c.args.count 4)) c.in_ok-tree.ensures)
    ∙ tree_is c.args.seed c.args.count
