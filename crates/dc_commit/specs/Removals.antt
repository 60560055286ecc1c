-- Paths that are removed.
use Rattle.std.specs.Prelude.{List, map}
use Rattle.std.specs.Option.{is_none}
use Rattle.dc_path.specs.Paths.{Names}
use Rattle.dc_attrs.specs.Refusals.{refused_remove}
use Rattle.dc_attrs.specs.Trees.{without}
use Rattle.dc_commit.specs.Steps.{Step}

-- what stands at a path is removed, with all that is under it
abbrev pub remove_step : Names → Step
remove_step p = record {
  place = p;
  may = λ t. is_none (refused_remove t p);
  change = λ t. without t p;
}

-- the same of each path
abbrev pub remove_steps : List Names → List Step
remove_steps paths = map remove_step paths
