-- The last file, by its place.
use Rattle.std.proofs.Common.{◌∙◌, false, nat_eq, ap}
use Rattle.std.specs.Option.{option_map_or}
use Rattle.dc_commit.specs.declared.landing.Ready.{Ready}
use Rattle.dc_join.proofs.AddingLemmas.{last_at}
use Rattle.dc_join.proofs.joining.ends_with.Goals as goal

pub returns-in-Some : goal.returns-in-Some
returns-in-Some g c = ap (λ o. option_map_or (λ (f : Ready _). nat_eq f.item c.args.item) o false) c.in-Some.ensures.value ∙ last_at c.args.item c.args.files.now
