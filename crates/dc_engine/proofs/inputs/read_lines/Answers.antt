use Rattle.std.proofs.Common.{◌∙◌, ap, sym, Err, arith}
use Rattle.std.proofs.lemmas.Bool.Decides.{nat_tests}
use Rattle.std.proofs.lemmas.Result.{err_from_is_err_and}
use Rattle.dc_engine.proofs.InputLemmas.{reading_begins, reading_more, reading_bad, reading_good, reading_paths, few_paths}
use Rattle.dc_engine.proofs.inputs.read_lines.Goals as goal

pub lines-init : goal.lines-init
lines-init c = reading_begins c.args.text.now c.new-paths.result c.new-paths.ensures

pub lines-preserved : goal.lines-preserved
lines-preserved c = reading_more c.lines.invariant c.first_line.result.0.now c.first_line.result.1.now c.first_line.ensures.split c.add_line.new.paths c.in_ok-add_line.ensures.good c.in_ok-add_line.ensures.added c.first_line.ensures.less

pub returns-in_err-add_line-clause-bad : goal.returns-in_err-add_line-clause-bad
returns-in_err-add_line-clause-bad c =
    let p = err_from_is_err_and c.from_residual.result c.from_residual.ensures.1 in
    rw (p.1, p.2) (λ d. reading_bad c.lines.invariant c.first_line.result.0.now c.first_line.result.1.now c.first_line.ensures.split (c.in_err-add_line.ensures.bad d) ∙ sym (ap Err (c.in_err-add_line.ensures.number d)))

pub returns-clause-good : goal.returns-clause-good
returns-clause-good c = reading_good c.lines.invariant (grind (arith, nat_tests, c.lines-test.ensures))

pub returns-clause-paths : goal.returns-clause-paths
returns-clause-paths c = reading_paths c.lines.invariant (grind (arith, nat_tests, c.lines-test.ensures))

pub returns-clause-few : goal.returns-clause-few
returns-clause-few c = omega (arith, few_paths c.args.text.now c.lines.paths (reading_paths c.lines.invariant (grind (arith, nat_tests, c.lines-test.ensures))))
