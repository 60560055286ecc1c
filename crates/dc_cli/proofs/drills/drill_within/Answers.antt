use Rattle.dc_cli.proofs.drills.drill_within.Goals as goal

pub returns-clause-never : goal.returns-clause-never
returns-clause-never g c = λ few h. c.drilled_by.ensures.other h (c.run_drill.ensures.ended few)
