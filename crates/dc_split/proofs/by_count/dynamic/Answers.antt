-- A record more at its place, and at the end each record once.
use Rattle.std.proofs.Common.{◌≡◌, ℕ, List, ◌<◌, ◌%◌, ◌++◌, ◌∷◌, [], map, length, get_or, arith, rules, ap, refl, sym, ◌∙◌}
use Rattle.std.proofs.lemmas.Grind.{common_steps}
use Rattle.std.proofs.lemmas.List.{get_or_default}
use Rattle.std.proofs.lemmas.List.FromFn.{length-map-range_with_len}
use Rattle.std.proofs.lemmas.Nat.{mod_below}
use Rattle.dc_split.specs.Bundles.{numbers, leaving, dynamic_count, dynamic_bundles}
use Rattle.dc_split.proofs.Dealing.{deal_more, dealt_once}
use Rattle.dc_split.proofs.by_count.dynamic.Goals as goal

-- the place of a record is one of the bundles
at_place : (n places : ℕ) (bundles : List (List ℕ)) → 0 < places → bundles ≡ map (leaving n places) (numbers places) → n % places < length bundles
at_place n places bundles some e = omega (arith, mod_below n places some, ap length e, length-map-range_with_len (leaving n places) 0 places)

pub index_mut-requires : goal.index_mut-requires
index_mut-requires c =
    omega (
      arith,
      at_place c.loop-number.number c.min-places.result c.loop-number.bundles.items (omega arith) c.loop-number.invariant,
    )

pub loop-number-preserved : goal.loop-number-preserved
loop-number-preserved c =
    let n = c.loop-number.number in
    let places = c.min-places.result in
    let some : n % places < length c.loop-number.bundles.items = at_place n places c.loop-number.bundles.items (omega arith) c.loop-number.invariant in
    let added : c.add.new.self ≡ c.index_mut.result.now ++ n ∷ [] = search rules in
    let there : get_or c.loop-number.bundles.items (n % places) [] ≡ c.index_mut.result.now =
    get_or_default c.loop-number.bundles.items (n % places) [] c.index_mut.result.now some ∙ sym c.index_mut.ensures.value in
    let pushed : c.add.new.self ≡ get_or c.loop-number.bundles.items (n % places) [] ++ n ∷ [] = cc in
    rw (pushed, c.loop-number.invariant) (deal_more n places (n % places) refl (mod_below n places (omega arith)))

pub returns-clause-once : goal.returns-clause-once
returns-clause-once c =
    let dealt : c.of.result ≡ dynamic_bundles c.args.count c.args.maps = grind (arith, common_steps) in
    rw dealt (dealt_once c.args.count c.args.maps c.requires)

pub returns-clause-few : goal.returns-clause-few
returns-clause-few c =
    let dealt : c.of.result ≡ dynamic_bundles c.args.count c.args.maps = grind (arith, common_steps) in
    let places = dynamic_count c.args.count c.args.maps in
    omega (arith, ap length dealt, length-map-range_with_len (leaving c.args.count places) 0 places)
