use Rattle.std.proofs.Common.{rules, ◌≡◌, subst, get_or, List}
use Rattle.dc_decide.specs.Plans.{Decision}
use Rattle.dc_fs.specs.Views.{view}
use Rattle.dc_commit.specs.Landing.{Landing, LandsOne}
use Rattle.dc_commit.proofs.LandLemmas.{lands_item, ready_inside, slice_at}
use Rattle.dc_commit.proofs.PlaceLemmas.{item_within}
use Rattle.dc_commit.proofs.landing.land_one.Goals as goal

pub join_within-requires : goal.join_within-requires
join_within-requires g c =
    let is = subst (λ (ds : List Decision). c.index-items-at.result ≡ get_or ds c.args.file.item c.index-items-at.result) c.items-items.ensures.value c.index-items-at.is in
    rw (c.base.ensures, c.rel.ensures, c.item.ensures)
    (item_within c.args.plan.now.base c.args.plan.now.items c.args.file.item c.index-items-at.result is (ready_inside c.args.plan.now c.args.file c.requires.ready) c.items-items.ensures.plan.within)

pub returns-in-Ok-clause-lands : goal.returns-in-Ok-clause-lands
returns-in-Ok-clause-lands g c =
    let is = subst (λ (ds : List Decision). c.index-items-at.result ≡ get_or ds c.args.file.item c.index-items-at.result) c.items-items.ensures.value c.index-items-at.is in
    let at = slice_at c.args.plan.now.items c.args.file.item c.index-items-at.result is (ready_inside c.args.plan.now c.args.file c.requires.ready) in
    subst (λ (l : Landing). LandsOne c.args.done l (view g.T.Store c.args.target.now) (view g.T.Store c.land_at.new.target) c.land_at.result)
    (lands_item g.T.Desk.Temp.Held.content g.T.Desk.Temp.Held.size c.args.plan.now c.args.file c.index-items-at.result c.in-Ok.place c.mode_of.result at (search rules) (search rules)) c.land_at.ensures.lands
