use Rattle.std.proofs.Common.{◌≡◌, ◌+◌, ◌-◌, sym, arith, map, List}
use Rattle.dc_tree.specs.Arena.{cell_of, Cell}
use Rattle.dc_tree.proofs.Climbing.{above, here_noted, there_noted, climb_on, climb_to, climb_parts, climb_ends}
use Rattle.dc_tree.proofs.same.climb.Goals as goal

pub returns-in_default-clause-turn : goal.returns-in_default-clause-turn
returns-in_default-clause-turn c = λ i j r s.
    let n : c.args.at.depth - c.loop-up.up ≡ (c.args.at.depth - (c.loop-up.up + 1)) + 1 = omega arith in
    absurd (here_noted (map cell_of c.args.first.now) (map cell_of c.args.second.now) i j r _ c.args.first_homes.now _ c.requires.here (c.loop-up.invariant i j r s) n (sym c.in_default.ensures))

pub returns-in_default-home_of-clause-turn : goal.returns-in_default-home_of-clause-turn
returns-in_default-home_of-clause-turn c = λ i j r s.
    let n : c.args.at.depth - c.loop-up.up ≡ (c.args.at.depth - (c.loop-up.up + 1)) + 1 = omega arith in
    absurd (there_noted (map cell_of c.args.first.now) (map cell_of c.args.second.now) i j r _ c.args.second_homes.now _ c.requires.there (c.loop-up.invariant i j r s) n (sym c.in_default-home_of.ensures))

pub returns-in-To-clause-turn : goal.returns-in-To-clause-turn
returns-in-To-clause-turn c = λ i j r s.
    let a : List Cell = map cell_of c.args.first.now in
    let b : List Cell = map cell_of c.args.second.now in
    let n : c.args.at.depth - c.loop-up.up ≡ (c.args.at.depth - (c.loop-up.up + 1)) + 1 = omega arith in
    let up = above a b i j r _ c.args.first_homes.now c.args.second_homes.now c.in-Some.home.now c.in-Some-home_of.other.now _ c.requires.here c.requires.there (sym c.in-Some.ensures) (sym c.in-Some-home_of.ensures) n (c.loop-up.invariant i j r s) in
    let w = c.in-To.ensures in
    climb_to a b i j r _ _ _ c.in-Some.home.now.name w.0 up w.1 w.2 w.3 n

pub returns-in-Differs-clause-turn : goal.returns-in-Differs-clause-turn
returns-in-Differs-clause-turn c = λ i j r s.
    let a : List Cell = map cell_of c.args.first.now in
    let b : List Cell = map cell_of c.args.second.now in
    let n : c.args.at.depth - c.loop-up.up ≡ (c.args.at.depth - (c.loop-up.up + 1)) + 1 = omega arith in
    let up = above a b i j r _ c.args.first_homes.now c.args.second_homes.now c.in-Some.home.now c.in-Some-home_of.other.now _ c.requires.here c.requires.there (sym c.in-Some.ensures) (sym c.in-Some-home_of.ensures) n (c.loop-up.invariant i j r s) in
    let w = c.in-Differs.ensures in
    climb_parts a b i j r _ _ c.in-Some.home.now.name w.0 w.1 up w.2 w.3 w.4

pub loop-up-preserved : goal.loop-up-preserved
loop-up-preserved c = λ i j r s.
    let a : List Cell = map cell_of c.args.first.now in
    let b : List Cell = map cell_of c.args.second.now in
    let n : c.args.at.depth - c.loop-up.up ≡ (c.args.at.depth - (c.loop-up.up + 1)) + 1 = omega arith in
    let up = above a b i j r _ c.args.first_homes.now c.args.second_homes.now c.in-Some.home.now c.in-Some-home_of.other.now _ c.requires.here c.requires.there (sym c.in-Some.ensures) (sym c.in-Some-home_of.ensures) n (c.loop-up.invariant i j r s) in
    climb_on a b i j r _ _ c.in-Some.home.now.name up c.in-Nowhere.ensures

pub returns-clause-turn : goal.returns-clause-turn
returns-clause-turn c = λ i j r s.
    let n : c.args.at.depth - c.loop-up.up ≡ 0 = omega arith in
    climb_ends (map cell_of c.args.first.now) (map cell_of c.args.second.now) i j r _ (c.loop-up.invariant i j r s) n
