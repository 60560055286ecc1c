-- The stage has a name, and its path passes no limit.
use Rattle.std.proofs.Common.{◌≡◌, ◌++◌, [], ◌∷◌, rules}
use Rattle.dc_report.specs.Moves.{stage_name}
use Rattle.dc_report.proofs.LabelNames.{stage_is_name, stage_within}
use Rattle.dc_report.proofs.moves.stage_path.Goals as goal

pub name_of-requires : goal.name_of-requires
unfolding stage_name
name_of-requires c = stage_is_name

pub child_within-requires : goal.child_within-requires
unfolding stage_name
child_within-requires c =
    let e : c.root.result ++ c.in_ok-name.name ∷ [] ≡ stage_name ∷ [] = search rules in
    rw e stage_within

pub returns : goal.returns
unfolding stage_name
returns c = search rules
