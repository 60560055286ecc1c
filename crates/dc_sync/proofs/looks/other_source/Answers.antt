-- The last name follows where the parent came from.
use Rattle.std.proofs.Common.{◌≡◌, ◌∙◌, ap, rules, Some, ◌++◌, ◌∷◌, [], ◌-◌, length, slice_get}
use Rattle.dc_path.specs.Paths.{front_of}
use Rattle.dc_report.specs.Carries.{carries_in}
use Rattle.dc_report.specs.Carrying.{moved}
use Rattle.dc_sync.proofs.OriginLemmas.{beside_is}
use Rattle.dc_sync.proofs.looks.other_source.Goals as goal

pub returns : goal.returns
returns c =
    let last : slice_get c.args.to.now (length c.args.to.now - 1) ≡ Some c.in-Some.last.now = search rules in
    let path : Some c.in-Some-2.path ≡ moved (carries_in c.args.sources.now.entries) (front_of c.args.to.now) = search rules in
    let new : c.add.new.self ≡ c.in-Some-2.path ++ c.in-Some.last.now ∷ [] = search rules in
    ap Some new ∙ beside_is (carries_in c.args.sources.now.entries) c.args.to.now c.in-Some.last.now c.in-Some-2.path last path
