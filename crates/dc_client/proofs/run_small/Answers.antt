use Rattle.std.proofs.Common.{◌≡◌, ◌∙◌, ◌&&◌, ◌⊎◌, ap, Some, arith}
use Rattle.dc_fs.specs.Causes.{steady_at}
use Rattle.dc_fs.specs.Rest.{Rest}
use Rattle.dc_memfs.specs.Failing.{is_steady}
use Rattle.dc_engine.specs.declared.outcome.Outcome.TheVariants as outcome
use Rattle.dc_client.specs.Small.{small_counts}
use Rattle.dc_client.proofs.SmallLemmas.{TellSmall, ends, leaves, output, committed_output, memory_output, short_output, all_printed, not_failed, no_scratch}
use Rattle.dc_client.proofs.run_small.Goals as goal

pub returns : goal.returns
returns g c =
    let ended = c.distcp-answer.result.outcome in
    let counts = c.distcp-answer.result.counts in
    let told : TellSmall _ _ = record {
      from = c.new-source.ensures.tree ∙ ap Some c.requires.tree;
      to = c.new-target.ensures.tree ∙ ap Some c.requires.empty;
      from_tree = c.new-source.ensures.is_tree;
      to_tree = c.new-target.ensures.is_tree;
    } in
    let steady_target = c.new-target.ensures.steady ∙ ap (λ l. is_steady l && is_steady c.none-2.result) c.none.ensures ∙ ap is_steady c.none-2.ensures in
    let settled = c.distcp-answer.ensures.settled
    (record { test = c.new-source.ensures.steady ∙ ap (λ l. is_steady l && is_steady c.none-forks.result) c.none-own.ensures ∙ ap is_steady c.none-forks.ensures; below = omega (arith, c.new-source.ensures.faults) })
    (record { test = steady_target; below = omega (arith, c.new-target.ensures.faults) }) in
    let either = ends c.args.words.now _ _ ended _ _ _ _ c.requires.words told c.plain_laws.ensures.words c.plain_laws.ensures.refuses c.distcp-answer.ensures.shows c.distcp-answer.ensures.filtered settled in
    let left = leaves c.args.words.now _ _ ended counts _ _ _ _ c.requires.words told c.plain_laws.ensures.words c.plain_laws.ensures.copies c.plain_laws.ensures.landings c.plain_laws.ensures.counts
    c.new-target.ensures.rest c.distcp-answer.ensures.copied in
    let counted : ended ≡ outcome.Committed → counts ≡ small_counts = λ is. (left is).counted in
    let printed = all_printed c.distcp-answer.result.printed _ _ _ _ c.requires.limit c.requires.sink (short_output ended counts either counted) c.distcp-answer.ensures.stopped in
    let taken = c.distcp-answer.ensures.printed printed in
    record {
      ended = either;
      tree = λ is. (left is).tree;
      landed = λ is. (left is).landed;
      counts = counted;
      printed = printed;
      lines = λ is. output ended counts _ (committed_output _ _ is (counted is)) _ _ c.requires.sink taken;
      memory = λ is. output ended counts _ (memory_output _ counts is) _ _ c.requires.sink taken;
      temporaries = no_scratch c.args.words.now ended _ _ _ _ c.requires.words c.plain_laws.ensures.words either c.new-target.ensures.rest c.new-target.ensures.faults
          (not_failed _ _ (c.distcp-answer.ensures.calm ∙ ap (λ b. steady_at b c.new-target.result.calls.faults) steady_target ∙ ap Some c.new-target.ensures.faults))
          c.distcp-answer.ensures.shows c.distcp-answer.ensures.left;
      desks = c.distcp-answer.ensures.desks ∙ ap (λ (rest : Rest). rest.desks_out) c.new-target.ensures.rest;
    }
