-- What is set is within the limits, since what the words set is.
use Rattle.std.proofs.Common.{◌∙◌, ap}
use Rattle.dc_options.specs.Words.{heads}
use Rattle.dc_options.specs.Settings.{settings_with, are_short}
use Rattle.dc_options.proofs.WithinLemmas.{settings-within}
use Rattle.dc_options.proofs.reading.set.Goals as goal

pub invariant_of-result : goal.invariant_of-result
unfolding settings_with
invariant_of-result c =
    let w = settings-within c.args.flags.now (heads 0 c.args.words.now) c.args.sources c.args.target in
    record {
      some_maps = rw c.number_or.ensures w.some_maps;
      few_maps = rw c.number_or.ensures w.few_maps;
      few_blocks = rw c.number_or-2.ensures w.few_blocks;
      some_buffer = rw c.number_or-3.ensures w.some_buffer;
      small_buffer = rw c.number_or-3.ensures w.small_buffer;
      short = ap are_short c.in_ok-sync.ensures ∙ w.short;
    }
