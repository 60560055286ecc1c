use Rattle.std.proofs.Common.{ap, Err, arith}
use Rattle.dc_engine.proofs.InputLemmas.{line_counted}
use Rattle.dc_engine.proofs.inputs.read_patterns.Goals as goal

pub unpatterned-requires : goal.unpatterned-requires
unpatterned-requires g c = omega (arith, line_counted c.args.text.now c.in-Err.error c.in-Err.ensures.exact (λ n h. c.in-Err.ensures.reached n (ap Err h)))
