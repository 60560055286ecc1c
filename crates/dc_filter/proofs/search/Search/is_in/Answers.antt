use Rattle.dc_filter.proofs.PatternLemmas.{finds-of_read}
use Rattle.dc_filter.proofs.search.Search.is_in.Goals as goal

pub returns-clause-found : goal.returns-clause-found
returns-clause-found c =
    rw (c.is_match.ensures.found, c.self.invariant.2, ← c.self.view_is)
    (finds-of_read c.self.inside.regex.now c.self.invariant.0 c.self.invariant.1 c.args.text.now (λ k. (c.type_inv.text k).fits))
