use Rattle.dc_filter.proofs.PatternLemmas.{is_pattern-of_read, is_pattern-of_kind, no_pattern}
use Rattle.dc_filter.proofs.pattern.RegexPatternsPatterns.build.Goals as goal

pub returns-in-Ok-clause-pattern : goal.returns-in-Ok-clause-pattern
returns-in-Ok-clause-pattern c = rw (← c.in-Ok.ensures.source) (is_pattern-of_read c.in-Ok.regex c.in-Ok.ensures.config c.in-Ok.ensures.read)

pub returns-in-Err-Syntax-clause-syntax : goal.returns-in-Err-Syntax-clause-syntax
returns-in-Err-Syntax-clause-syntax c =
    let right = rw c.in-Err-Syntax.field-0-is at c.in-Err-Syntax.ensures.kind in
    λ _. no_pattern c.args.line.now _ (c.in-Err-Syntax.ensures.by_grammar _ c.in-Err-Syntax.field-0-is) right

pub returns-in-Err-CompiledTooBig-clause-big : goal.returns-in-Err-CompiledTooBig-clause-big
returns-in-Err-CompiledTooBig-clause-big c =
    let kind = rw c.in-Err-CompiledTooBig.field-0-is at c.in-Err-CompiledTooBig.ensures.kind in
    λ _ _. is_pattern-of_kind c.args.line.now kind
