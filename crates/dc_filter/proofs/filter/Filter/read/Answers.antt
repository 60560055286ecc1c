use Rattle.std.proofs.Common.{◌≡◌, ◌+◌, arith, refl}
use Rattle.dc_filter.proofs.FilterLemmas.{reading_end, reading_bad, reading_at}
use Rattle.dc_filter.proofs.filter.Filter.read.Goals as goal

pub returns-in-Err-Syntax-clause-exact : goal.returns-in-Err-Syntax-clause-exact
returns-in-Err-Syntax-clause-exact g c =
    reading_bad c.lines.invariant.reading c.first_line.result.0.now c.first_line.result.1.now c.first_line.ensures.split
    (rw c.in-Err-Syntax.field-0-is at c.in-Err-Syntax.ensures.bad refl)

pub returns-in-Err-Size-clause-reached : goal.returns-in-Err-Size-clause-reached
returns-in-Err-Size-clause-reached g c =
    λ n e. let counted : n ≡ c.lines.number + 1 = cc in
    rw counted (reading_at c.lines.invariant.reading c.first_line.result.0.now c.first_line.result.1.now c.first_line.ensures.split)

pub returns-clause-exact : goal.returns-clause-exact
returns-clause-exact g c = reading_end c.lines.invariant.reading (grind arith)
