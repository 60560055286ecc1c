-- Without a path the options are refused before.
use Rattle.std.proofs.Common.{◌≡◌, sym, arith}
use Rattle.std.proofs.lemmas.Grind.{common_steps}
use Rattle.dc_options.specs.Table.{is_among}
use Rattle.dc_options.proofs.PathLemmas.{some_path}
use Rattle.dc_options.proofs.settings.Options.read.Goals as goal

pub returns-in_default : goal.returns-in_default
returns-in_default c = λ _.
    let none : c.len.result ≡ 0 = grind (arith, common_steps, c.in_default.ensures.cases.0, c.len.ensures, c.into_vec-sources.ensures) in
    absurd (some_path (λ f. is_among f c.as_slice.result.now) c.len.result (sym c.in_ok-check_sets.ensures) none)
