use Rattle.std.proofs.Common.{◌∙◌, ap}
use Rattle.dc_output.specs.Output.{status_of}
use Rattle.dc_engine.specs.declared.outcome.Outcome.{Outcome}
use Rattle.distcp.proofs.Ends.{memory_status}
use Rattle.distcp.proofs.folders.end_without_memory.Goals as goal

pub returns-clause-status : goal.returns-clause-status
returns-clause-status g c = c.status.ensures ∙ ap (λ (o : Outcome). status_of o c.print_no_memory-answer.result.printed) c.print_no_memory-answer.ensures.outcome ∙ memory_status c.print_no_memory-answer.result.printed
