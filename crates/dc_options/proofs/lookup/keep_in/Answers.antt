-- The letters stand in the option's own word.
use Rattle.std.proofs.Common.{◌∙◌, sym, ap}
use Rattle.dc_options.specs.Settings.{keep_by, keep_in}
use Rattle.dc_options.specs.declared.table.Flag.TheVariants as flag
use Rattle.dc_options.proofs.LookLemmas.{found_word, found_head, no_head}
use Rattle.dc_options.proofs.lookup.keep_in.Goals as goal

pub bounds-found-0 : goal.bounds-found-0
bounds-found-0 c = found_word flag.Keep c.args.words.now c.in-Some.found.now (sym c.in-Some.ensures)

pub returns-in-Some : goal.returns-in-Some
returns-in-Some c =
    c.keep_by.ensures ∙ ap keep_by c.as_str.ensures
    ∙ ap keep_in (sym (found_head flag.Keep c.args.words.now c.in-Some.found.now c.index-found-0.result (sym c.in-Some.ensures) c.index-found-0.is).1)

pub returns-in-None : goal.returns-in-None
returns-in-None c = c.none.ensures ∙ ap keep_in (sym (no_head flag.Keep c.args.words.now (sym c.in-None.ensures)))
