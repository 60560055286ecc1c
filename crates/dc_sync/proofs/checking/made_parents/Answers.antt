-- A move more.
use Rattle.std.proofs.Common.{length, refl}
use Rattle.std.proofs.lemmas.Option.{slice_get_read}
use Rattle.std.specs.BTreeSet.{contains}
use Rattle.dc_path.specs.Paths.{path_cmp}
use Rattle.dc_replay.specs.Replaying.{made_by}
use Rattle.dc_report.proofs.PlaceSets.{places_more}
use Rattle.dc_sync.proofs.checking.made_parents.Goals as goal

pub loop-one-preserved : goal.loop-one-preserved
loop-one-preserved c = λ q.
    let ms = c.args.moves.now in
    let i = c.loop-one.one-index in
    let got = slice_get_read ms (length ms) i c.one-item.result refl c.loop-one-test.true c.one-item.is in
    places_more made_by ms i c.one-item.result q (contains path_cmp c.loop-one.made q) (contains path_cmp c.add_made.new.made q) got (c.loop-one.invariant q) (c.in_ok-add_made.ensures q)
