use Rattle.std.proofs.Common.{◌≡◌, ◌+◌, ◌-◌, ◌≤◌, ℕ, true, false, rules, sym, ap, ◌∙◌, subst, arith, drop, filter, length, map, reverse, List}
use Rattle.std.proofs.lemmas.List.{drop_all}
use Rattle.std.specs.Option.{option_map}
use Rattle.dc_path.specs.Paths.{Names}
use Rattle.dc_decide.specs.Plans.{Decision}
use Rattle.dc_commit.specs.Settings.{is_dir_item, set_step}
use Rattle.dc_commit.specs.Steps.{after, StopsIn, Stops}
use Rattle.dc_commit.proofs.KeepLemmas.{quiet_start, quiet_more}
use Rattle.dc_commit.proofs.StepLemmas.{Done, none_done, more_done, same_done, stops_in, back_all, back_next, back_same}
use Rattle.dc_commit.proofs.setting.set_dir_attrs.Goals as goal

none_left : (n : ℕ) → n ≤ 0 → n ≡ 0
none_left n h = omega arith

pub loop-at-init : goal.loop-at-init
loop-at-init g c = record {
  set = subst (λ (ds : List Decision). Done 0 (reverse (map (set_step c.args.keep.now c.args.plan.now.base) (filter is_dir_item ds))) (g.T.Store.tree c.args.target.now) (g.T.Store.tree c.args.target.now) 0)
      (sym (drop_all (length c.items-items.result.now) c.items-items.result.now (omega arith))) (none_done 0 (g.T.Store.tree c.args.target.now));
  few = omega arith;
  kept = quiet_start _;
  looks = omega arith;
}

pub loop-at-preserved-then-not-is_dir_item : goal.loop-at-preserved-then-not-is_dir_item
loop-at-preserved-then-not-is_dir_item g c =
    let p : is_dir_item c.index-items-at.result ≡ false = search rules in
    let e : c.loop-at.at ≡ (c.loop-at.at - 1) + 1 = omega arith in
    record {
      set = same_done 0 _ _ (g.T.Store.tree c.args.target.now) (g.T.Store.tree c.loop-at.target) c.loop-at.done
          (back_same (set_step c.args.keep.now c.args.plan.now.base) is_dir_item c.items-items.result.now (c.loop-at.at - 1) c.index-items-at.result c.index-items-at.is (omega (arith, c.loop-at.invariant.few)) p)
          (subst (λ (n : ℕ). Done 0 (reverse (map (set_step c.args.keep.now c.args.plan.now.base) (filter is_dir_item (drop n c.items-items.result.now)))) (g.T.Store.tree c.args.target.now) (g.T.Store.tree c.loop-at.target) c.loop-at.done) e c.loop-at.invariant.set);
      few = omega (arith, c.loop-at.invariant.few);
      kept = c.loop-at.invariant.kept;
      looks = omega (arith, c.loop-at.invariant.looks);
    }

pub loop-at-preserved : goal.loop-at-preserved
loop-at-preserved g c =
    let p : is_dir_item c.index-items-at.result ≡ true = search rules in
    let e : c.loop-at.at ≡ (c.loop-at.at - 1) + 1 = omega arith in
    record {
      set = more_done 0 _ _ (set_step c.args.keep.now c.args.plan.now.base c.index-items-at.result) (g.T.Store.tree c.args.target.now) (g.T.Store.tree c.loop-at.target) (g.T.Store.tree c.set_item.new.target) c.loop-at.done
          (back_next (set_step c.args.keep.now c.args.plan.now.base) is_dir_item c.items-items.result.now (c.loop-at.at - 1) c.index-items-at.result c.index-items-at.is (omega (arith, c.loop-at.invariant.few)) p)
          (subst (λ (n : ℕ). Done 0 (reverse (map (set_step c.args.keep.now c.args.plan.now.base) (filter is_dir_item (drop n c.items-items.result.now)))) (g.T.Store.tree c.args.target.now) (g.T.Store.tree c.loop-at.target) c.loop-at.done) e c.loop-at.invariant.set)
          (subst (λ (base : Names). g.T.Store.tree c.set_item.new.target ≡ option_map (set_step c.args.keep.now base c.index-items-at.result).change (g.T.Store.tree c.loop-at.target)) c.base.ensures c.in-Ok.ensures.step);
      few = omega (arith, c.loop-at.invariant.few);
      kept = quiet_more _ _ _ _ c.loop-at.invariant.kept c.in-Ok.ensures.kept;
      looks = omega (arith, c.loop-at.invariant.looks, c.set_item.ensures.looks);
    }

pub returns-clause-ok : goal.returns-clause-ok
returns-clause-ok g c =
    c.loop-at.invariant.set.tree
    ∙ ap (λ (n : ℕ). option_map (after (reverse (map (set_step c.args.keep.now c.args.plan.now.base) (filter is_dir_item (drop n c.items-items.result.now))))) (g.T.Store.tree c.args.target.now)) (none_left c.loop-at.at c.loop-at-test.false)
    ∙ ap (λ (ds : List Decision). option_map (after (reverse (map (set_step c.args.keep.now c.args.plan.now.base) (filter is_dir_item ds)))) (g.T.Store.tree c.args.target.now)) c.items-items.ensures.value

pub returns-in-Err-clause-stops : goal.returns-in-Err-clause-stops
returns-in-Err-clause-stops g c =
    let p : is_dir_item c.index-items-at.result ≡ true = search rules in
    let e : c.loop-at.at ≡ (c.loop-at.at - 1) + 1 = omega arith in
    subst (λ (ds : List Decision). Stops (reverse (map (set_step c.args.keep.now c.args.plan.now.base) (filter is_dir_item ds))) (g.T.Store.tree c.args.target.now) (g.T.Store.tree c.set_item.new.target) c.in-Err.error) c.items-items.ensures.value
    (stops_in 0 _ _ (set_step c.args.keep.now c.args.plan.now.base c.index-items-at.result) _ (g.T.Store.tree c.args.target.now) (g.T.Store.tree c.loop-at.target) (g.T.Store.tree c.set_item.new.target) c.loop-at.done c.in-Err.error
    (back_all (set_step c.args.keep.now c.args.plan.now.base) is_dir_item c.items-items.result.now (c.loop-at.at - 1) c.index-items-at.result c.index-items-at.is (omega (arith, c.loop-at.invariant.few)) p)
    (subst (λ (n : ℕ). Done 0 (reverse (map (set_step c.args.keep.now c.args.plan.now.base) (filter is_dir_item (drop n c.items-items.result.now)))) (g.T.Store.tree c.args.target.now) (g.T.Store.tree c.loop-at.target) c.loop-at.done) e c.loop-at.invariant.set)
    (subst (λ (base : Names). StopsIn c.loop-at.done (set_step c.args.keep.now base c.index-items-at.result) (g.T.Store.tree c.loop-at.target) (g.T.Store.tree c.set_item.new.target) c.in-Err.error) c.base.ensures c.in-Err.ensures.step))
