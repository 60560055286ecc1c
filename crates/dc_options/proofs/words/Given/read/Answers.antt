-- A word that is no value is refused, or gives its option or its path.
use Rattle.std.proofs.Common.{◌≡◌, ◌≢◌, Err, rules}
use Rattle.dc_options.specs.Words.{heads}
use Rattle.dc_options.specs.Given.{given_by}
use Rattle.dc_options.specs.declared.errors.OptionError.TheVariants.{Memory}
use Rattle.dc_options.proofs.WordLemmas.{word_stops, word_goes}
use Rattle.dc_options.proofs.words.Given.read.Goals as goal

pub returns-in_err-skip : goal.returns-in_err-skip
returns-in_err-skip c =
    let stops : c.in_err-skip.field-0.0 ≢ Memory → given_by (heads 0 c.args.words.now) ≡ Err c.in_err-skip.field-0.0 = λ apart.
    word_stops c.args.words.now c.loop-place.place c.loop-place.skip c.index-words-place.result c.loop-place.given.flags c.loop-place.given.paths c.in_err-skip.field-0.0
    c.loop-place-test.true c.index-words-place.is c.if-skip-gt0.false c.loop-place.invariant (c.in_err-skip.ensures.gives apart)
    in search rules

pub loop-place-preserved : goal.loop-place-preserved
loop-place-preserved c =
    word_goes c.args.words.now c.loop-place.place c.loop-place.skip c.in_ok-skip.skip c.index-words-place.result c.loop-place.given.flags c.add.new.self.flags c.loop-place.given.paths c.add.new.self.paths
    c.loop-place-test.true c.index-words-place.is c.if-skip-gt0.false c.loop-place.invariant c.in_ok-skip.ensures.gives c.in_ok-skip.ensures.flags c.in_ok-skip.ensures.paths
