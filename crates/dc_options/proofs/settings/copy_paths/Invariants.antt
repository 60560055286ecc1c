use Rattle.std.proofs.Common.{◌≡◌, take}
use Rattle.dc_options.proofs.settings.copy_paths.Given as goal

-- those so far
abbrev pub invariant-loop-path : goal.invariant-loop-path
invariant-loop-path l = l.copies ≡ take l.path-index l.paths
