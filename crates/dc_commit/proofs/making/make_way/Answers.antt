use Rattle.std.proofs.Common.{◌≡◌, ◌++◌, ◌∷◌, [], refl, sym, ap, ◌∙◌, arith, map, take, List}
use Rattle.std.proofs.lemmas.List.{take_all}
use Rattle.std.specs.Option.{option_map}
use Rattle.dc_path.specs.Paths.{Names}
use Rattle.dc_commit.specs.Making.{make_step, ways}
use Rattle.dc_commit.specs.Steps.{after}
use Rattle.dc_commit.proofs.KeepLemmas.{quiet_start, quiet_more}
use Rattle.dc_commit.proofs.MakeLemmas.{length-ways, next_within, way_all, way_next}
use Rattle.dc_commit.proofs.StepLemmas.{none_done, more_done, next_at, stops_in}
use Rattle.dc_commit.proofs.making.make_way.Goals as goal

pub child_within-requires : goal.child_within-requires
child_within-requires g c = next_within c.args.names.now c.loop-name.name-index c.name-item.result c.name-item.is c.loop-name-test.true c.loop-name.at c.loop-name.invariant.at c.requires.within

pub returns-in-Err-clause-stops : goal.returns-in-Err-clause-stops
returns-in-Err-clause-stops g c =
    stops_in 0 _ _ (make_step (take c.loop-name.name-index c.args.names.now ++ c.name-item.result ∷ [])) _ (g.T.Store.tree c.args.target.now) (g.T.Store.tree c.loop-name.target) (g.T.Store.tree c.loop-name.target) c.loop-name.done _
    (way_all c.args.names.now c.loop-name.name-index c.name-item.result c.name-item.is c.loop-name-test.true (take c.loop-name.name-index c.args.names.now ++ c.name-item.result ∷ []) refl)
    c.loop-name.invariant.made (refl, refl)

pub returns-in-Err-make_place-clause-stops : goal.returns-in-Err-make_place-clause-stops
returns-in-Err-make_place-clause-stops g c =
    let e : c.in-Ok.next ≡ take c.loop-name.name-index c.args.names.now ++ c.name-item.result ∷ [] = c.in-Ok.ensures ∙ ap (λ (p : Names). p ++ c.name-item.result ∷ []) c.loop-name.invariant.at in
    stops_in 0 _ _ (make_step c.in-Ok.next) _ (g.T.Store.tree c.args.target.now) (g.T.Store.tree c.loop-name.target) (g.T.Store.tree c.make_place.new.target) c.loop-name.done c.in-Err-make_place.error
    (way_all c.args.names.now c.loop-name.name-index c.name-item.result c.name-item.is c.loop-name-test.true c.in-Ok.next e)
    c.loop-name.invariant.made c.in-Err-make_place.ensures.step

pub loop-name-init : goal.loop-name-init
loop-name-init g c = record {
  at = c.root-at.ensures;
  made = none_done 0 (g.T.Store.tree c.args.target.now);
  few = refl;
  kept = quiet_start _;
  looks = omega arith;
}

pub loop-name-preserved : goal.loop-name-preserved
loop-name-preserved g c =
    let e : c.in-Ok.next ≡ take c.loop-name.name-index c.args.names.now ++ c.name-item.result ∷ [] = c.in-Ok.ensures ∙ ap (λ (p : Names). p ++ c.name-item.result ∷ []) c.loop-name.invariant.at in
    record {
      at = e ∙ sym (next_at c.args.names.now c.loop-name.name-index c.name-item.result c.name-item.is c.loop-name-test.true);
      made = more_done 0 _ _ (make_step c.in-Ok.next) (g.T.Store.tree c.args.target.now) (g.T.Store.tree c.loop-name.target) (g.T.Store.tree c.make_place.new.target) c.loop-name.done
          (way_next c.args.names.now c.loop-name.name-index c.name-item.result c.name-item.is c.loop-name-test.true c.in-Ok.next e) c.loop-name.invariant.made c.in-Ok-make_place.ensures.step;
      few = omega (arith, c.loop-name.invariant.few);
      kept = quiet_more _ _ _ _ c.loop-name.invariant.kept c.in-Ok-make_place.ensures.kept;
      looks = omega (arith, c.loop-name.invariant.looks, c.make_place.ensures.looks);
    }

pub returns-clause-ok : goal.returns-clause-ok
returns-clause-ok g c =
    c.loop-name.invariant.made.tree
    ∙ ap (λ (ws : List Names). option_map (after (map make_step ws)) (g.T.Store.tree c.args.target.now)) (take_all c.loop-name.name-index (ways c.args.names.now) (omega (arith, length-ways c.args.names.now, c.loop-name-test.false)))
