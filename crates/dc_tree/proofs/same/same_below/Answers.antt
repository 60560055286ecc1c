use Rattle.std.proofs.Common.{◌≤◌, refl, subst, arith, map, length, List}
use Rattle.dc_attrs.specs.Keeping.{Kept}
use Rattle.dc_tree.specs.Arena.{cell_of, Cell}
use Rattle.dc_tree.specs.Walking.{Matched, Unmatched}
use Rattle.dc_tree.proofs.Cells.{length_cells}
use Rattle.dc_tree.proofs.Whole.{walk_starts, walk_on, all_done, same_whole, unmatched_differs, parts_differs, too_long}
use Rattle.dc_tree.proofs.same.same_below.Goals as goal

pub loop-init : goal.loop-init
loop-init c = walk_starts c.args.keep.now (map cell_of c.args.first.now) (map cell_of c.args.second.now) c.args.top c.args.other_top _ refl refl refl

pub returns-then-not-is_matched-clause-no : goal.returns-then-not-is_matched-clause-no
returns-then-not-is_matched-clause-no c = λ _ f g p r.
    let a : List Cell = map cell_of c.args.first.now in
    let b : List Cell = map cell_of c.args.second.now in
    let w = c.loop.invariant in
    unmatched_differs c.args.keep.now a b c.args.top c.args.other_top w.path c.loop.at g w.stands
    (subst (λ (k : Kept). Unmatched k a c.loop.at.here b c.loop.at.there) (c.counted-kept.ensures w.path w.stands.deep) (c.if-not-is_matched.ensures.no refl))

pub returns-in-Differs-clause-no : goal.returns-in-Differs-clause-no
returns-in-Differs-clause-no c = λ _ f g p r.
    let a : List Cell = map cell_of c.args.first.now in
    let b : List Cell = map cell_of c.args.second.now in
    let w = c.loop.invariant in
    parts_differs c.args.keep.now a b c.args.top c.args.other_top p f r (c.in-Differs.ensures.turn c.args.top c.args.other_top w.path w.stands)

pub returns-in-Over-clause-yes : goal.returns-in-Over-clause-yes
returns-in-Over-clause-yes c = λ _.
    let a : List Cell = map cell_of c.args.first.now in
    let b : List Cell = map cell_of c.args.second.now in
    let w = c.loop.invariant in
    let m = subst (λ (k : Kept). Matched k a c.loop.at.here b c.loop.at.there) (c.counted-kept.ensures w.path w.stands.deep) (c.if-not-is_matched.ensures.yes refl) in
    same_whole c.args.keep.now a b c.args.top c.args.other_top (all_done c.args.keep.now a b c.args.top c.args.other_top c.loop.at c.loop.counter w m (c.in-Over.ensures.turn c.args.top c.args.other_top w.path w.stands))

pub loop-preserved : goal.loop-preserved
loop-preserved c =
    let a : List Cell = map cell_of c.args.first.now in
    let b : List Cell = map cell_of c.args.second.now in
    let w = c.loop.invariant in
    let m = subst (λ (k : Kept). Matched k a c.loop.at.here b c.loop.at.there) (c.counted-kept.ensures w.path w.stands.deep) (c.if-not-is_matched.ensures.yes refl) in
    walk_on c.args.keep.now a b c.args.top c.args.other_top c.loop.at c.in-To.next c.loop.counter w m (c.in-To.ensures.turn c.args.top c.args.other_top w.path w.stands) c.in-To.ensures.deep

pub returns-clause-no : goal.returns-clause-no
returns-clause-no c = λ _ f g p r.
    let a : List Cell = map cell_of c.args.first.now in
    let l = length_cells c.args.first.now in
    let full : length a ≤ c.loop.counter = omega (arith, l) in
    absurd (too_long a c.args.top p f r c.args.keep.now (map cell_of c.args.second.now) c.args.other_top c.loop.at c.loop.counter c.loop.invariant full)
