use Rattle.std.proofs.Common.{refl}
use Rattle.std.proofs.lemmas.List.{length-map}
use Rattle.dc_local.proofs.Untold.{untold}
use Rattle.dc_local.proofs.target.LocalTargetTarget.land.Goals as goal

pub returns-in-Ok-clause-rest : goal.returns-in-Ok-clause-rest
returns-in-Ok-clause-rest g c = record {
  landed = rw (c.in_default-keep.ensures.ok, c.in-Some.ensures, c.len-count.ensures, c.as_slice.ensures, length-map) refl;
  told = rw (untold c.args.parts c.requires.some) tt;
}
