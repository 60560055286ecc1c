-- The values are what follows the option's word.
use Rattle.std.proofs.Common.{◌∙◌, ◌≤◌, length, sym, rules}
use Rattle.dc_options.proofs.LookLemmas.{found_word, found_values, no_values}
use Rattle.dc_options.proofs.lookup.values_of.Goals as goal

pub slice_bounds-values_after-count : goal.slice_bounds-values_after-count
slice_bounds-values_after-count c = found_word c.args.flag c.args.words.now c.in-Some.found.now (sym c.in-Some.ensures)

pub slice_bounds-values_after-start : goal.slice_bounds-values_after-start
slice_bounds-values_after-start c = let some : 1 ≤ length c.in-Some.found.now = found_word c.args.flag c.args.words.now c.in-Some.found.now (sym c.in-Some.ensures) in search rules

pub returns-in-Some : goal.returns-in-Some
returns-in-Some c = c.values_after.ensures ∙ sym (found_values c.args.flag c.args.words.now c.in-Some.found.now (sym c.in-Some.ensures))

pub returns-in-None : goal.returns-in-None
returns-in-None c = sym (no_values c.args.flag c.args.words.now (sym c.in-None.ensures))
