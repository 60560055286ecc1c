use Rattle.dc_filter.proofs.PatternLemmas.{is_pattern-of_read}
use Rattle.dc_filter.proofs.pattern.Pattern.line.Goals as goal

pub returns-clause-pattern : goal.returns-clause-pattern
returns-clause-pattern c = rw (← c.self.view_is) (is_pattern-of_read c.self.inside.regex c.self.invariant.0 c.self.invariant.1)
