-- All of the path is the front that is carried.
use Rattle.std.proofs.Common.{[], sym, ap, subst, append-nil}
use Rattle.dc_path.specs.Unless.{GivesUnless}
use Rattle.dc_path.specs.declared.path.PathError.TheVariants.{Memory}
use Rattle.dc_report.specs.Carries.{carries_in}
use Rattle.dc_report.specs.Carrying.{limited, moved}
use Rattle.dc_report.proofs.Carriers.{then_nothing}
use Rattle.dc_report.proofs.carries.moved.Goals as goal

pub returns : goal.returns
returns c =
    let gone = moved (carries_in c.args.carries.now.entries) c.args.path.now in
    subst (GivesUnless Memory c.follow.result) (ap limited (then_nothing gone)) (c.follow.ensures [] (sym (append-nil c.args.path.now)))
