use Rattle.std.proofs.Common.{[], arith}
use Rattle.dc_listing.specs.Listed.{rules_of}
use Rattle.dc_listing.proofs.Distinct.{told_listing}
use Rattle.dc_listing.proofs.listed.list.Goals as goal

pub returns-clause-lists : goal.returns-clause-lists
returns-clause-lists g c =
    told_listing c.distinct.result (g.S.Store.tree c.args.source.now) (rules_of c.args.searches.now []) c.args.roots.now c.args.base.now c.in_ok-items.items c.in_ok-items-2.items
    c.in_ok-items.ensures.lists c.in_ok-items-2.ensures.kept (omega (arith, c.in_ok-items-2.ensures.count, c.in_ok-items.ensures.few)) c.distinct.ensures.same c.distinct.ensures.twice
