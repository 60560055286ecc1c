use Rattle.std.proofs.Common.{◌≡◌, ◌∷◌, [], ◌++◌, ◌∙◌, ap, arith, length, length-append, map, refl, subst, sym, All, List}
use Rattle.std.proofs.lemmas.List.Elements.{All-nil, All-push, All-same}
use Rattle.std.specs.Vec.Iter.{into_iter_items}
use Rattle.dc_fs.specs.Views.{view, BothTell}
use Rattle.dc_decide.specs.Plans.{Decision, Decisions}
use Rattle.dc_plan.specs.Planning.{item_of, IsAsked, IsOutByClash, IsDecidedOn, is_source_fault, is_target_fault}
use Rattle.dc_plan.proofs.PlanningLemmas.{all_more, all_none, both_more, both_none, denied_among, first_clash, item_more, looked_on, ascending_still, placed_still, taken_all, taken_front, unmoved_on, within_at}
use Rattle.dc_plan.proofs.planning.plan_items.Goals as goal

pub loop-item-init : goal.loop-item-init
loop-item-init g c = record {
  items = ap (map item_of) c.new-planned.ensures;
  asked = All-same (IsAsked c.args.options.now) c.new-planned.result [] c.new-planned.ensures (All-nil (IsAsked c.args.options.now));
  out = all_none (g.T.Store.tree c.args.target.now) (λ t. IsOutByClash t c.args.base) c.new-planned.result c.new-planned.ensures;
  decides = both_none (g.S.Store.tree c.args.source.now) (g.T.Store.tree c.args.target.now) (IsDecidedOn c.args.options.now c.args.base) c.new-planned.result c.new-planned.ensures;
  from = record { tree = refl; rest = refl; faults = refl; calm = refl };
  to = record { tree = refl; rest = refl; faults = refl; calm = refl };
  from_looks = omega arith;
  to_looks = omega arith;
}

pub plan_item-requires-clause-within : goal.plan_item-requires-clause-within
plan_item-requires-clause-within g c κs within =
    let all : c.args.items ≡ c.loop-item.yielded ++ c.in-Some.item ∷ into_iter_items c.next.new.self =
    sym c.into_iter-item-iterator.ensures.into_iter_gives.0 ∙ taken_front c.into_iter-item-iterator.result c.loop-item.yielded c.loop-item.item-iterator c.loop-item.yielded_by ∙ ap (λ rest. c.loop-item.yielded ++ rest) c.in-Some.ensures.steps.0 in
    within_at c.args.base c.loop-item.yielded c.in-Some.item (into_iter_items c.next.new.self) c.args.items all c.requires.within

pub loop-item-preserved : goal.loop-item-preserved
loop-item-preserved g c = let old = c.loop-item.invariant in let new = c.in-Ok.ensures in let more = c.in-Ok-add.ensures.ok in record {
  items = item_more c.loop-item.planned c.add.new.self c.in-Ok.decision c.loop-item.yielded c.in-Some.item more old.items new.item;
  asked = All-same (IsAsked c.args.options.now) c.add.new.self (c.loop-item.planned ++ c.in-Ok.decision ∷ []) more (All-push (IsAsked c.args.options.now) c.loop-item.planned c.in-Ok.decision old.asked new.asked);
  out = all_more (g.T.Store.tree c.args.target.now) (g.T.Store.tree c.loop-item.target) (λ t. IsOutByClash t c.args.base) c.loop-item.planned c.add.new.self c.in-Ok.decision more old.to.tree old.out new.clash;
  decides = both_more (g.S.Store.tree c.args.source.now) (g.T.Store.tree c.args.target.now) (g.S.Store.tree c.loop-item.source) (g.T.Store.tree c.loop-item.target) (IsDecidedOn c.args.options.now c.args.base) c.loop-item.planned c.add.new.self c.in-Ok.decision more old.from.tree old.to.tree old.decides new.decides;
  from = unmoved_on (view g.S.Store c.args.source.now) (view g.S.Store c.loop-item.source) (view g.S.Store c.plan_item.new.source) c.in-Ok.decision is_source_fault old.from new.source;
  to = unmoved_on (view g.T.Store c.args.target.now) (view g.T.Store c.loop-item.target) (view g.T.Store c.plan_item.new.target) c.in-Ok.decision is_target_fault old.to new.target;
  from_looks = omega (arith, old.from_looks, new.source_looks, length-append c.loop-item.yielded (c.in-Some.item ∷ []));
  to_looks = omega (arith, old.to_looks, new.target_looks, length-append c.loop-item.yielded (c.in-Some.item ∷ []));
}

pub returns-in-Err-clause-source : goal.returns-in-Err-clause-source
returns-in-Err-clause-source g c = looked_on (view g.S.Store c.args.source.now) (view g.S.Store c.loop-item.source) (view g.S.Store c.plan_item.new.source) c.in-Err.error is_source_fault c.loop-item.invariant.from c.in-Err.ensures.source

pub returns-in-Err-clause-target : goal.returns-in-Err-clause-target
returns-in-Err-clause-target g c = looked_on (view g.T.Store c.args.target.now) (view g.T.Store c.loop-item.target) (view g.T.Store c.plan_item.new.target) c.in-Err.error is_target_fault c.loop-item.invariant.to c.in-Err.ensures.target

pub returns-in-Err-clause-source_looks : goal.returns-in-Err-clause-source_looks
returns-in-Err-clause-source_looks g c =
    let all : c.args.items ≡ c.loop-item.yielded ++ c.in-Some.item ∷ into_iter_items c.next.new.self =
    sym c.into_iter-item-iterator.ensures.into_iter_gives.0 ∙ taken_front c.into_iter-item-iterator.result c.loop-item.yielded c.loop-item.item-iterator c.loop-item.yielded_by ∙ ap (λ rest. c.loop-item.yielded ++ rest) c.in-Some.ensures.steps.0 in
    omega (arith, ap length all, length-append c.loop-item.yielded (c.in-Some.item ∷ into_iter_items c.next.new.self), c.loop-item.invariant.from_looks, c.in-Err.ensures.source_looks)

pub returns-in-Err-clause-target_looks : goal.returns-in-Err-clause-target_looks
returns-in-Err-clause-target_looks g c =
    let all : c.args.items ≡ c.loop-item.yielded ++ c.in-Some.item ∷ into_iter_items c.next.new.self =
    sym c.into_iter-item-iterator.ensures.into_iter_gives.0 ∙ taken_front c.into_iter-item-iterator.result c.loop-item.yielded c.loop-item.item-iterator c.loop-item.yielded_by ∙ ap (λ rest. c.loop-item.yielded ++ rest) c.in-Some.ensures.steps.0 in
    omega (arith, ap length all, length-append c.loop-item.yielded (c.in-Some.item ∷ into_iter_items c.next.new.self), c.loop-item.invariant.to_looks, c.in-Err.ensures.target_looks)

pub returns-in-Err-clause-clash : goal.returns-in-Err-clause-clash
returns-in-Err-clause-clash g c =
    let all : c.args.items ≡ c.loop-item.yielded ++ c.in-Some.item ∷ into_iter_items c.next.new.self =
    sym c.into_iter-item-iterator.ensures.into_iter_gives.0 ∙ taken_front c.into_iter-item-iterator.result c.loop-item.yielded c.loop-item.item-iterator c.loop-item.yielded_by ∙ ap (λ rest. c.loop-item.yielded ++ rest) c.in-Some.ensures.steps.0 in
    first_clash c.args.options.now (g.T.Store.tree c.args.target.now) (g.T.Store.tree c.loop-item.target) c.args.base c.loop-item.planned c.loop-item.yielded c.in-Some.item (into_iter_items c.next.new.self) c.args.items c.in-Err.error
    c.loop-item.invariant.to.tree c.loop-item.invariant.items all c.loop-item.invariant.asked c.loop-item.invariant.out c.in-Err.ensures.clashes

pub returns-in-Err-clause-changed : goal.returns-in-Err-clause-changed
returns-in-Err-clause-changed g c =
    let all : c.args.items ≡ c.loop-item.yielded ++ c.in-Some.item ∷ into_iter_items c.next.new.self =
    sym c.into_iter-item-iterator.ensures.into_iter_gives.0 ∙ taken_front c.into_iter-item-iterator.result c.loop-item.yielded c.loop-item.item-iterator c.loop-item.yielded_by ∙ ap (λ rest. c.loop-item.yielded ++ rest) c.in-Some.ensures.steps.0 in
    denied_among (g.S.Store.tree c.args.source.now) (g.T.Store.tree c.args.target.now) (g.S.Store.tree c.loop-item.source) (g.T.Store.tree c.loop-item.target) c.args.base c.loop-item.yielded c.in-Some.item (into_iter_items c.next.new.self) c.args.items c.in-Err.error
    c.loop-item.invariant.from.tree c.loop-item.invariant.to.tree all c.in-Err.ensures.changed

pub new-requires-clause-ascending : goal.new-requires-clause-ascending
new-requires-clause-ascending g c =
    let all = taken_all c.args.items c.into_iter-item-iterator.result c.loop-item.yielded c.loop-item.item-iterator c.into_iter-item-iterator.ensures.into_iter_gives.0 c.into_iter-item-iterator.ensures.into_iter_gives.1 c.loop-item.yielded_by c.in-None.ensures.steps.0 in
    ascending_still c.loop-item.planned c.args.items (c.loop-item.invariant.items ∙ all) c.requires.ascending

pub new-requires-clause-within : goal.new-requires-clause-within
new-requires-clause-within g c =
    let all = taken_all c.args.items c.into_iter-item-iterator.result c.loop-item.yielded c.loop-item.item-iterator c.into_iter-item-iterator.ensures.into_iter_gives.0 c.into_iter-item-iterator.ensures.into_iter_gives.1 c.loop-item.yielded_by c.in-None.ensures.steps.0 in
    placed_still c.args.base c.loop-item.planned c.args.items (c.loop-item.invariant.items ∙ all) c.requires.within

pub returns-clause-decides : goal.returns-clause-decides
returns-clause-decides g c =
    subst (λ (ds : List Decision). BothTell (g.S.Store.tree c.args.source.now) (g.T.Store.tree c.args.target.now) (λ s t. All (IsDecidedOn c.args.options.now c.args.base s t) ds))
    (sym (ap (λ (p : Decisions). p.items) c.new.ensures)) c.loop-item.invariant.decides
