-- The longest front that fits decides.
use Rattle.std.proofs.Common.{◌≡◌, IfOk, Option, subst}
use Rattle.dc_path.specs.Paths.{Names}
use Rattle.dc_report.specs.Carries.{carries_in}
use Rattle.dc_report.proofs.FittingLemmas.{fitting_moves, under_front}
use Rattle.dc_report.proofs.unlimited.moved_names.Goals as goal

pub follow_names-requires : goal.follow_names-requires
follow_names-requires c = let k = c.in_ok-front.ensures in under_front _ k.rest c.args.names.now k.path

pub returns : goal.returns
returns c =
    let k = c.in_ok-front.ensures in
    subst (λ (v : Option Names). IfOk c.follow_names.result (λ to. to ≡ v))
    (fitting_moves (carries_in c.args.carries.now.entries) _ c.args.names.now c.requires k)
    (c.follow_names.ensures k.rest k.path)
