use Rattle.dc_filter.proofs.FilterLemmas.{any_finds-of_forms}
use Rattle.dc_filter.proofs.filter.Searches.any_is_in.Goals as goal

pub returns-clause-found : goal.returns-clause-found
returns-clause-found c =
    rw (c.any_is_in.ensures.found, c.as_mut_slice.ensures.value, ← c.self.view_is)
    (any_finds-of_forms c.self.inside.searches.items c.self.invariant c.args.text.now)
