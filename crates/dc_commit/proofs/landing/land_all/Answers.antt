use Rattle.std.proofs.Common.{◌≡◌, ◌∷◌, [], ◌++◌, ap, ◌∙◌, refl, arith, map, length, length-append, sym}
use Rattle.std.proofs.lemmas.List.{map-append, length-map}
use Rattle.std.specs.Vec.Iter.{into_iter_items, into_iter_steps}
use Rattle.dc_commit.specs.Landing.{is_ready, landing_of}
use Rattle.dc_commit.proofs.LandLemmas.{given_so_far, lands_in, more_landed, none_landed, parts_left, ready_here}
use Rattle.dc_commit.proofs.landing.land_all.Goals as goal

pub loop-file-init : goal.loop-file-init
loop-file-init g c = record { landed = none_landed _; done = refl; still = refl; calm = refl; looks = omega arith }

pub loop-file-preserved : goal.loop-file-preserved
loop-file-preserved g c = record {
  landed = more_landed (map (landing_of g.T.Desk.Temp.Held.content g.T.Desk.Temp.Held.size c.args.plan.now) c.loop-file.yielded) _ (landing_of g.T.Desk.Temp.Held.content g.T.Desk.Temp.Held.size c.args.plan.now c.in-Some.file) _ _ _
      (map-append (landing_of g.T.Desk.Temp.Held.content g.T.Desk.Temp.Held.size c.args.plan.now) c.loop-file.yielded (c.in-Some.file ∷ [])) c.loop-file.invariant.landed c.in-Ok.ensures.lands;
  done = omega (arith, c.loop-file.invariant.done, length-append c.loop-file.yielded (c.in-Some.file ∷ []));
  still = c.in-Ok.ensures.cause.still ∙ c.loop-file.invariant.still;
  calm = c.land_one.ensures.calm ∙ c.loop-file.invariant.calm;
  looks = omega (arith, c.loop-file.invariant.looks, c.land_one.ensures.looks, length-append c.loop-file.yielded (c.in-Some.file ∷ []));
}

pub land_one-requires-clause-ready : goal.land_one-requires-clause-ready
land_one-requires-clause-ready g c κs within =
    let before = given_so_far into_iter_steps into_iter_items (λ s x t h. h.0) c.loop-file.yielded c.into_iter-file-iterator.result c.loop-file.file-iterator c.loop-file.yielded_by in
    let all : c.args.files ≡ c.loop-file.yielded ++ c.in-Some.file ∷ into_iter_items c.next.new.self =
    sym c.into_iter-file-iterator.ensures.into_iter_gives.0 ∙ before ∙ ap (λ rest. c.loop-file.yielded ++ rest) c.in-Some.ensures.steps.0 in
    ready_here (is_ready c.args.plan.now) c.loop-file.yielded c.in-Some.file (into_iter_items c.next.new.self) c.args.files all c.requires.ready

pub land_one-requires-clause-counted : goal.land_one-requires-clause-counted
land_one-requires-clause-counted g c κs within =
    let before = given_so_far into_iter_steps into_iter_items (λ s x t h. h.0) c.loop-file.yielded c.into_iter-file-iterator.result c.loop-file.file-iterator c.loop-file.yielded_by in
    let all : c.args.files ≡ c.loop-file.yielded ++ c.in-Some.file ∷ into_iter_items c.next.new.self =
    sym c.into_iter-file-iterator.ensures.into_iter_gives.0 ∙ before ∙ ap (λ rest. c.loop-file.yielded ++ rest) c.in-Some.ensures.steps.0 in
    parts_left g.T.Desk.Temp.Held.content g.T.Desk.Temp.Held.size c.args.plan.now c.loop-file.yielded c.in-Some.file (into_iter_items c.next.new.self) c.args.files (g.T.Store.rest c.args.target.now) (g.T.Store.rest c.loop-file.target) all c.requires.counted c.loop-file.invariant.landed.rest

pub returns-in-Err-clause-stops : goal.returns-in-Err-clause-stops
returns-in-Err-clause-stops g c =
    let before = given_so_far into_iter_steps into_iter_items (λ s x t h. h.0) c.loop-file.yielded c.into_iter-file-iterator.result c.loop-file.file-iterator c.loop-file.yielded_by in
    let all : c.args.files ≡ c.loop-file.yielded ++ c.in-Some.file ∷ into_iter_items c.next.new.self =
    sym c.into_iter-file-iterator.ensures.into_iter_gives.0 ∙ before ∙ ap (λ rest. c.loop-file.yielded ++ rest) c.in-Some.ensures.steps.0 in
    lands_in (map (landing_of g.T.Desk.Temp.Held.content g.T.Desk.Temp.Held.size c.args.plan.now) c.args.files) (map (landing_of g.T.Desk.Temp.Held.content g.T.Desk.Temp.Held.size c.args.plan.now) c.loop-file.yielded) (landing_of g.T.Desk.Temp.Held.content g.T.Desk.Temp.Held.size c.args.plan.now c.in-Some.file) (map (landing_of g.T.Desk.Temp.Held.content g.T.Desk.Temp.Held.size c.args.plan.now) (into_iter_items c.next.new.self)) _ _ _ c.loop-file.done c.in-Err.error
    (ap (map (landing_of g.T.Desk.Temp.Held.content g.T.Desk.Temp.Held.size c.args.plan.now)) all ∙ map-append (landing_of g.T.Desk.Temp.Held.content g.T.Desk.Temp.Held.size c.args.plan.now) c.loop-file.yielded (c.in-Some.file ∷ into_iter_items c.next.new.self))
    c.loop-file.invariant.landed (c.loop-file.invariant.done ∙ sym (length-map c.loop-file.yielded (landing_of g.T.Desk.Temp.Held.content g.T.Desk.Temp.Held.size c.args.plan.now))) c.in-Err.ensures.lands

pub returns-in-Err-clause-looks : goal.returns-in-Err-clause-looks
returns-in-Err-clause-looks g c =
    let before = given_so_far into_iter_steps into_iter_items (λ s x t h. h.0) c.loop-file.yielded c.into_iter-file-iterator.result c.loop-file.file-iterator c.loop-file.yielded_by in
    let all : c.args.files ≡ c.loop-file.yielded ++ c.in-Some.file ∷ into_iter_items c.next.new.self =
    sym c.into_iter-file-iterator.ensures.into_iter_gives.0 ∙ before ∙ ap (λ rest. c.loop-file.yielded ++ rest) c.in-Some.ensures.steps.0 in
    omega (arith, ap length all, length-append c.loop-file.yielded (c.in-Some.file ∷ into_iter_items c.next.new.self), c.loop-file.invariant.looks, c.land_one.ensures.looks)

pub overflow_add-done : goal.overflow_add-done
overflow_add-done g c =
    let before = given_so_far into_iter_steps into_iter_items (λ s x t h. h.0) c.loop-file.yielded c.into_iter-file-iterator.result c.loop-file.file-iterator c.loop-file.yielded_by in
    let all : c.args.files ≡ c.loop-file.yielded ++ c.in-Some.file ∷ into_iter_items c.next.new.self =
    sym c.into_iter-file-iterator.ensures.into_iter_gives.0 ∙ before ∙ ap (λ rest. c.loop-file.yielded ++ rest) c.in-Some.ensures.steps.0 in
    omega (arith, ap length all, length-append c.loop-file.yielded (c.in-Some.file ∷ into_iter_items c.next.new.self), c.loop-file.invariant.done, c.into_iter-file-iterator.ensures.into_iter_gives.1, c.into_iter-file-iterator.ensures.into_iter_gives.2)
