use Rattle.std.proofs.Common.{arith, ap, ◌+◌, ◌++◌, ◌≡◌, ◌∙◌, ℕ, List, drop, take}
use Rattle.dc_split.specs.Bundles.{times}
use Rattle.dc_pool.specs.Waves.{stands, with_lost}
use Rattle.dc_pool.proofs.Numbers.{times_split, stands_lost, rest_of}
use Rattle.dc_pool.proofs.worker.do_bundle.Goals as goal

pub returns-in_ok-lose-in-Some-clause-numbers : goal.returns-in_ok-lose-in-Some-clause-numbers
returns-in_ok-lose-in-Some-clause-numbers g c =
    let p : (x : ℕ) → stands x c.do_until_stopped.new.wave ≡ stands x c.args.wave.now + times x (take (c.in-Some.at + 1) c.args.numbers.now) = rw c.in-Some.is at c.in_ok-stop.ensures.part in
    λ x.
    let q = p x in
    let e = ap (stands x) (c.in_ok-lose-in-Some.ensures ∙ ap (λ (ys : List ℕ). with_lost (c.do_until_stopped.new.wave.lost ++ ys) c.do_until_stopped.new.wave) (rest_of (c.in-Some.at + 1) c.args.numbers.now)) in
    let s = stands_lost x c.do_until_stopped.new.wave (drop (c.in-Some.at + 1) c.args.numbers.now) in
    let t = times_split x (c.in-Some.at + 1) c.args.numbers.now in
    omega arith
