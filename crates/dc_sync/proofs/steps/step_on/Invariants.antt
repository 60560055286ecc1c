use Rattle.std.proofs.Common.{◌≡◌, drop}
use Rattle.dc_sync.specs.Steps.{stepped_on}
use Rattle.dc_sync.proofs.steps.step_on.Given as goal

abbrev pub invariant-loop-name : goal.invariant-loop-name
invariant-loop-name l = stepped_on l.fn.path l.names ≡ stepped_on l.longer (drop l.name-index l.names)
