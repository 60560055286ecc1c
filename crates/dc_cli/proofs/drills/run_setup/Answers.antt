use Rattle.std.proofs.Common.{◌∙◌, ◌&&◌, Some, arith, ap}
use Rattle.dc_memfs.specs.Failing.{is_steady}
use Rattle.dc_cli.proofs.DrillEnds.{drill_counts, drill_ends}
use Rattle.dc_cli.proofs.drills.run_setup.Goals as goal

pub returns-clause-counts : goal.returns-clause-counts
returns-clause-counts g c = λ seed count from to ended.
    drill_counts seed count c.as_slice.result.now _ _ c.distcp.result.outcome c.distcp.result.counts _ _ _ _ (c.as_slice.ensures ∙ c.requires)
    (c.new-source.ensures.tree ∙ ap (λ t. Some t) from) (c.new-target.ensures.tree ∙ ap (λ t. Some t) to) c.new-source.ensures.is_tree c.new-target.ensures.is_tree
    c.plain_laws.ensures.words c.plain_laws.ensures.copies c.distcp.ensures.copied ended

pub returns-clause-ended : goal.returns-clause-ended
returns-clause-ended g c = λ seed count few from to.
    drill_ends seed count c.as_slice.result.now _ _ c.distcp.result.outcome _ _ _ _ few (c.as_slice.ensures ∙ c.requires)
    (c.new-source.ensures.tree ∙ ap (λ t. Some t) from) (c.new-target.ensures.tree ∙ ap (λ t. Some t) to) c.new-source.ensures.is_tree c.new-target.ensures.is_tree
    c.plain_laws.ensures.words c.plain_laws.ensures.refuses c.distcp.ensures.shows c.distcp.ensures.filtered
    (c.distcp.ensures.settled
    (record { test = c.new-source.ensures.steady ∙ ap (λ l. is_steady l && is_steady c.none-forks.result) c.none-own.ensures ∙ ap is_steady c.none-forks.ensures; below = omega (arith, c.new-source.ensures.faults) })
    (record { test = c.new-target.ensures.steady ∙ ap (λ l. is_steady l && is_steady c.none-2.result) c.none.ensures ∙ ap is_steady c.none-2.ensures; below = omega (arith, c.new-target.ensures.faults) }))
