use Rattle.std.proofs.Common.{◌≡◌, ap, subst, arith, length}
use Rattle.std.specs.Option.{option_map}
use Rattle.dc_path.specs.Paths.{Names, front_of}
use Rattle.dc_commit.specs.Making.{inner_steps, way_steps}
use Rattle.dc_commit.specs.Steps.{after, Stops}
use Rattle.dc_commit.proofs.KeepLemmas.{quiet_keeps, quiet_of}
use Rattle.dc_commit.proofs.MakeLemmas.{way_count}
use Rattle.dc_commit.proofs.StepLemmas.{ok_right, stops_left, stops_right_if}
use Rattle.dc_commit.proofs.making.make_dirs.Goals as goal

pub returns-in-Ok-clause-ok : goal.returns-in-Ok-clause-ok
returns-in-Ok-clause-ok g c =
    let ok = subst (λ (p : Names). g.T.Store.tree c.make_way.new.target ≡ option_map (after (way_steps p)) (g.T.Store.tree c.args.target.now)) c.above-way.ensures.value c.in-Ok.ensures.ok in
    ok_right (way_steps (front_of c.args.place.now)) (inner_steps c.args.plan.now) (g.T.Store.tree c.args.target.now) (g.T.Store.tree c.make_way.new.target) (g.T.Store.tree c.make_inner.new.target) c.make_inner.result ok c.make_inner.ensures.ok

pub returns-in-Ok-clause-stops : goal.returns-in-Ok-clause-stops
returns-in-Ok-clause-stops g c =
    let ok = subst (λ (p : Names). g.T.Store.tree c.make_way.new.target ≡ option_map (after (way_steps p)) (g.T.Store.tree c.args.target.now)) c.above-way.ensures.value c.in-Ok.ensures.ok in
    stops_right_if 0 (length c.above-way.result.now) (way_steps (front_of c.args.place.now)) (inner_steps c.args.plan.now) (g.T.Store.tree c.args.target.now) (g.T.Store.tree c.make_way.new.target) (g.T.Store.tree c.make_inner.new.target) c.make_inner.result ok
    (omega (arith, ap (λ (p : Names). length p) c.above-way.ensures.value, way_count (front_of c.args.place.now))) c.make_inner.ensures.stops

pub returns-in-Ok-clause-kept : goal.returns-in-Ok-clause-kept
returns-in-Ok-clause-kept g c = quiet_keeps _ _ _ c.make_inner.result (quiet_of _ _ _ c.in-Ok.ensures.kept) c.make_inner.ensures.kept

pub returns-in-Err-clause-stops : goal.returns-in-Err-clause-stops
returns-in-Err-clause-stops g c =
    stops_left 0 (way_steps (front_of c.args.place.now)) (inner_steps c.args.plan.now) (g.T.Store.tree c.args.target.now) (g.T.Store.tree c.make_way.new.target) c.in-Err.error
    (subst (λ (p : Names). Stops (way_steps p) (g.T.Store.tree c.args.target.now) (g.T.Store.tree c.make_way.new.target) c.in-Err.error) c.above-way.ensures.value c.in-Err.ensures.stops)
