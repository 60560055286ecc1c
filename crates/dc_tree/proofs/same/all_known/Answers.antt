use Rattle.std.proofs.Common.{◌≡◌, sym, subst, ℕ, map, List, [], rules, true, length}
use Rattle.std.proofs.lemmas.List.{map-append}
use Rattle.std.proofs.lemmas.Map.Iter.{iter_end, iter_turn}
use Rattle.std.specs.Map.Iter.{deref_pair}
use Rattle.std.specs.List.{AllByRecursion}
use Rattle.dc_tree.specs.Arena.{cell_of}
use Rattle.dc_tree.proofs.Nexts.{is_known, all_push, all_known, unknown}
use Rattle.dc_tree.proofs.same.all_known.Goals as goal

pub returns-in_default-clause-yes : goal.returns-in_default-clause-yes
returns-in_default-clause-yes c = λ _. all_known (map cell_of c.args.first.now) c.args.at (map cell_of c.args.second.now) c.args.place [] c.in_default.ensures tt

pub loop-name-preserved : goal.loop-name-preserved
loop-name-preserved c = (tt, tt, rw map-append (all_push (λ (e : List ℕ × ℕ). is_known (map cell_of c.args.first.now) c.args.at e.0 ≡ true) (map deref_pair c.loop-name.yielded) (c.in-Some-2.name.now, c.in-Some-2._child.now) c.loop-name.invariant.2 (sym c.if-not-is_known.ensures)))

pub returns-then-not-is_known-clause-no : goal.returns-then-not-is_known-clause-no
returns-then-not-is_known-clause-no c =
    let at = iter_turn deref_pair c.in-Some.children.now.entries c.loop-name.yielded c.into_iter-name-iterator.result c.loop-name.name-iterator c.next.new.self c.next.result c.into_iter-name-iterator.ensures.into_iter_gives.0 c.loop-name.yielded_by (c.in-Some-2.name, c.in-Some-2._child) c.in-Some-2.is c.next.ensures.steps in
    λ _. unknown (map cell_of c.args.first.now) c.args.at (map cell_of c.args.second.now) c.args.place c.in-Some.children.now.entries (length c.loop-name.yielded) c.in-Some-2.name.now c.in-Some-2._child.now c.in-Some.ensures at.1 (sym c.if-not-is_known.ensures)

pub returns-clause-yes : goal.returns-clause-yes
returns-clause-yes c =
    let e : map deref_pair c.loop-name.yielded ≡ c.in-Some.children.now.entries = search (rules, iter_end) in
    λ _. all_known (map cell_of c.args.first.now) c.args.at (map cell_of c.args.second.now) c.args.place c.in-Some.children.now.entries c.in-Some.ensures (subst (AllByRecursion (λ (e : List ℕ × ℕ). is_known (map cell_of c.args.first.now) c.args.at e.0 ≡ true)) e c.loop-name.invariant.2)
