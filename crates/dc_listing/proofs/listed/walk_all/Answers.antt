use Rattle.std.proofs.Common.{◌≡◌, ℕ, List, [], length, Option, IfSome, None, Err, refl, ◌∙◌, ap, subst, arith}
use Rattle.std.proofs.lemmas.Result.{err_from_is_err_and}
use Rattle.std.specs.List.{list_all}
use Rattle.dc_path.specs.Paths.{Names}
use Rattle.dc_attrs.specs.Trees.{Tree, IsTree, IsThere}
use Rattle.dc_listing.specs.Entries.{fits_under}
use Rattle.dc_listing.specs.Listed.{rules_of}
use Rattle.dc_listing.specs.Listing.{AllStand, ListsAll, StopsAt}
use Rattle.dc_listing.specs.Walks.{Lists, Walks}
use Rattle.dc_listing.specs.declared.item.Root.{Root}
use Rattle.dc_listing.proofs.RootEntries.{gains_within, lists_end, lists_start, lists_step, stand_step, stops_step}
use Rattle.dc_listing.proofs.listed.walk_all.Goals as goal

pub loop-root-init : goal.loop-root-init
loop-root-init g c =
    let told = g.S.Store.tree c.args.source.now in
    let none : c.new-items.result ≡ [] = c.new-items.ensures in record {
      tree = refl;
      rest = refl;
      later = omega arith;
      calm = refl;
      still = refl;
      looks = omega arith;
      searches = refl;
      few = omega (arith, ap length none);
      within = ap (list_all (fits_under c.args.base.now)) none;
      lists = lists_start told (rules_of c.args.searches.now []) c.as_slice-root-items.result.now c.args.base.now c.new-items.result none;
    }

pub loop-root-preserved : goal.loop-root-preserved
loop-root-preserved g c =
    let told = g.S.Store.tree c.args.source.now in
    let roots = c.as_slice-root-items.result.now in
    let inv = c.loop-root.invariant in
    let root = c.root-item.result in
    let base = c.args.base.now in
    let w = subst (λ (o : Option Tree). IfSome o (λ s. IsTree s → Lists (rules_of c.args.searches.now []) s root base None c.loop-root.items c.walk.new.items)) inv.tree
    (subst (λ (ls : List (List ℕ)). IfSome (g.S.Store.tree c.loop-root.source) (λ s. IsTree s → Lists (rules_of ls []) s root base None c.loop-root.items c.walk.new.items)) inv.searches
    (subst (λ (ps : List Names). IfSome (g.S.Store.tree c.loop-root.source) (λ s. IsTree s → Lists (rules_of c.loop-root.searches ps) s root base None c.loop-root.items c.walk.new.items)) c.new-without.ensures c.in_ok-walk.ensures.walks)) in
    record {
      tree = c.walk.ensures.source.tree ∙ inv.tree;
      rest = c.walk.ensures.source.rest ∙ inv.rest;
      later = omega (arith, inv.later, c.walk.ensures.source.cause.later);
      calm = c.walk.ensures.source.calm ∙ inv.calm;
      still = c.in_ok-walk.ensures.source.cause.still ∙ inv.still;
      looks = omega (arith, inv.looks, c.in_ok-walk.ensures.looks);
      searches = c.walk.ensures.searches ∙ inv.searches;
      few = c.walk.ensures.few inv.few;
      within = gains_within root base c.loop-root.items c.walk.new.items c.walk.ensures.gains inv.within;
      lists = lists_step told (rules_of c.args.searches.now []) roots c.loop-root.root-index root base c.loop-root.items c.walk.new.items c.loop-root-test.true c.root-item.is inv.lists w;
    }

pub returns-in_err-walk-clause-stops : goal.returns-in_err-walk-clause-stops
returns-in_err-walk-clause-stops g c =
    let p = err_from_is_err_and c.from_residual.result c.from_residual.ensures.1 in
    let told = g.S.Store.tree c.args.source.now in
    let roots = c.as_slice-root-items.result.now in
    let inv = c.loop-root.invariant in
    let root = c.root-item.result in
    let base = c.args.base.now in
    let e = c.in_err-walk.field-0.0 in
    let w = subst (λ (o : Option Tree). IfSome o (λ s. IsTree s → Walks {A = ℕ} (rules_of c.args.searches.now []) s root base (Err e) c.loop-root.items c.walk.new.items)) inv.tree
    (subst (λ (ls : List (List ℕ)). IfSome (g.S.Store.tree c.loop-root.source) (λ s. IsTree s → Walks {A = ℕ} (rules_of ls []) s root base (Err e) c.loop-root.items c.walk.new.items)) inv.searches
    (subst (λ (ps : List Names). IfSome (g.S.Store.tree c.loop-root.source) (λ s. IsTree s → Walks {A = ℕ} (rules_of c.loop-root.searches ps) s root base (Err e) c.loop-root.items c.walk.new.items)) c.new-without.ensures c.in_err-walk.ensures.walks)) in
    rw (p.1, p.2) (subst (λ (rs : List Root). IfSome told (λ s. IsTree s → StopsAt e (rules_of c.args.searches.now []) s rs base)) c.as_slice-root-items.ensures
    (stops_step e told (rules_of c.args.searches.now []) roots c.loop-root.root-index root base c.loop-root.items c.walk.new.items c.loop-root-test.true c.root-item.is inv.lists w))

pub returns-in_err-walk-clause-changed : goal.returns-in_err-walk-clause-changed
returns-in_err-walk-clause-changed g c =
    let p = err_from_is_err_and c.from_residual.result c.from_residual.ensures.1 in
    let told = g.S.Store.tree c.args.source.now in
    let roots = c.as_slice-root-items.result.now in
    let root = c.root-item.result in
    rw (p.1, p.2) (λ h. subst (λ (rs : List Root). IfSome told (λ s. IsTree s → AllStand s rs → ⊥)) c.as_slice-root-items.ensures
    (stand_step told roots c.loop-root.root-index root c.loop-root-test.true c.root-item.is
    (subst (λ (o : Option Tree). IfSome o (λ s. IsTree s → IsThere s root.source → ⊥)) c.loop-root.invariant.tree (c.in_err-walk.ensures.changed h))))

pub returns-clause-lists : goal.returns-clause-lists
returns-clause-lists g c =
    let told = g.S.Store.tree c.args.source.now in
    let roots = c.as_slice-root-items.result.now in
    let end : c.loop-root.root-index ≡ length roots = omega arith in
    subst (λ (rs : List Root). IfSome told (λ s. IsTree s → ListsAll (rules_of c.args.searches.now []) s rs c.args.base.now c.loop-root.items)) c.as_slice-root-items.ensures
    (lists_end told (rules_of c.args.searches.now []) roots c.loop-root.root-index c.args.base.now c.loop-root.items end c.loop-root.invariant.lists)
