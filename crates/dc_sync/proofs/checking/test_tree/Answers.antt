-- The tests of the tree, one part after the other.
use Rattle.std.proofs.Common.{◌∙◌, arith}
use Rattle.std.proofs.lemmas.Result.{err_from_is_err_and}
use Rattle.dc_fs.specs.Views.{view}
use Rattle.dc_sync.proofs.TestParts.{entries_stop, news_stop, parents_few, parents_last, parents_made, places_stop, renames_few}
use Rattle.dc_sync.proofs.checking.test_tree.Goals as goal

pub test_news-requires-clause-made : goal.test_news-requires-clause-made
test_news-requires-clause-made g c = λ q.
    c.in_ok-made.ensures q ∙ parents_made c.args.report.now c.args.moves.now c.behind_stage-parents.result.now q c.requires.moves c.behind_stage-parents.ensures

pub returns-in_err-test_entries-clause-tests : goal.returns-in_err-test_entries-clause-tests
returns-in_err-test_entries-clause-tests g c =
    let p = err_from_is_err_and c.from_residual-in_err-test_entries.result c.from_residual-in_err-test_entries.ensures.1 in
    let v = view g.S.Store in
    rw (p.1, p.2)
    (entries_stop c.args.base.now c.args.report.now c.in_ok-sources.sources.entries c.args.moves.now c.behind_stage-parents.result.now c.in_ok-sources.ensures.sources c.requires.moves c.behind_stage-parents.ensures
    (v c.args.store.now) (v c.test_entries.new.store) (v c.test_entries.new.store) (v c.test_entries.new.store) c.in_err-test_entries.field-0.0 c.in_err-test_entries.ensures.tests)

pub returns-in_err-test_news-clause-tests : goal.returns-in_err-test_news-clause-tests
returns-in_err-test_news-clause-tests g c =
    let p = err_from_is_err_and c.from_residual-in_err-test_news.result c.from_residual-in_err-test_news.ensures.1 in
    let v = view g.S.Store in
    rw (p.1, p.2)
    (news_stop c.args.base.now c.args.report.now c.in_ok-sources.sources.entries c.args.moves.now c.behind_stage-parents.result.now c.in_ok-sources.ensures.sources c.requires.moves c.behind_stage-parents.ensures
    (v c.args.store.now) (v c.test_entries.new.store) (v c.test_news.new.store) (v c.test_news.new.store) c.in_ok-test_entries.field-0 c.in_err-test_news.field-0.0
    c.in_ok-test_entries.ensures.tests c.in_err-test_news.ensures.tests)

pub returns-in_err-test_news-clause-looks : goal.returns-in_err-test_news-clause-looks
returns-in_err-test_news-clause-looks g c =
    let k = renames_few c.args.report.now c.in_ok-sources.sources.entries c.in_ok-sources.ensures.sources in omega (arith, k, c.test_entries.ensures.looks, c.test_news.ensures.looks)

pub returns-in_err-test_places-clause-tests : goal.returns-in_err-test_places-clause-tests
returns-in_err-test_places-clause-tests g c =
    let p = err_from_is_err_and c.from_residual-in_err-test_places.result c.from_residual-in_err-test_places.ensures.1 in
    let v = view g.S.Store in
    rw (p.1, p.2)
    (places_stop c.args.base.now c.args.report.now c.in_ok-sources.sources.entries c.args.moves.now c.behind_stage-parents.result.now c.in_ok-sources.ensures.sources c.requires.moves c.behind_stage-parents.ensures
    (v c.args.store.now) (v c.test_entries.new.store) (v c.test_news.new.store) (v c.test_places.new.store) c.in_ok-test_entries.field-0 c.in_ok-test_news.field-0 c.in_err-test_places.field-0.0
    c.in_ok-test_entries.ensures.tests c.in_ok-test_news.ensures.tests c.in_err-test_places.ensures.tests)

pub returns-in_err-test_places-clause-looks : goal.returns-in_err-test_places-clause-looks
returns-in_err-test_places-clause-looks g c =
    let k = renames_few c.args.report.now c.in_ok-sources.sources.entries c.in_ok-sources.ensures.sources in
    omega (arith, k, c.test_entries.ensures.looks, c.test_news.ensures.looks, c.test_places.ensures.looks)

pub returns-clause-tests : goal.returns-clause-tests
returns-clause-tests g c =
    let v = view g.S.Store in
    parents_last c.args.base.now c.args.report.now c.in_ok-sources.sources.entries c.args.moves.now c.behind_stage-parents.result.now c.in_ok-sources.ensures.sources c.requires.moves c.behind_stage-parents.ensures
    (v c.args.store.now) (v c.test_entries.new.store) (v c.test_news.new.store) (v c.test_places.new.store) (v c.test_parents.new.store) c.in_ok-test_entries.field-0 c.in_ok-test_news.field-0 c.in_ok-test_places.field-0
    c.test_parents.result c.in_ok-test_entries.ensures.tests c.in_ok-test_news.ensures.tests c.in_ok-test_places.ensures.tests c.test_parents.ensures.tests

pub returns-clause-looks : goal.returns-clause-looks
returns-clause-looks g c =
    let k = renames_few c.args.report.now c.in_ok-sources.sources.entries c.in_ok-sources.ensures.sources in
    let l = parents_few c.args.report.now c.args.moves.now c.behind_stage-parents.result.now c.requires.told c.requires.moves c.behind_stage-parents.ensures in
    omega (arith, k, l, c.test_entries.ensures.looks, c.test_news.ensures.looks, c.test_places.ensures.looks, c.test_parents.ensures.looks)
