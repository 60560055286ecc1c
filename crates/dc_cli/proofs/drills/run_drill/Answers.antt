use Rattle.dc_cli.proofs.drills.run_drill.Goals as goal

pub returns-in-Ok-clause-ended : goal.returns-in-Ok-clause-ended
returns-in-Ok-clause-ended g c = λ few. c.run_setup.ensures.ended c.args.seed c.args.count few c.in-Ok.ensures.source c.in-Ok.ensures.target
