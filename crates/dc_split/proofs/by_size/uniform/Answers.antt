-- A record more, in the last bundle or in one of its own.
use Rattle.std.proofs.Common.{◌≡◌, ◌++◌, ◌∷◌, [], length-append, arith, rules}
use Rattle.dc_split.specs.Bundles.{AreUniform}
use Rattle.dc_split.proofs.Counting.{filled_once}
use Rattle.dc_split.proofs.Filling.{fill_more, fill_next, filled_few, size-push}
use Rattle.dc_split.proofs.by_size.uniform.Goals as goal
use Rattle.dc_split.proofs.by_size.uniform.Goals.{then-size-length+in_ok-next+in_ok-add, else-size-length+in_ok-add-2}

pub loop-number-preserved : goal.loop-number-preserved
loop-number-preserved c =
    let lengths = c.args.lengths.now in
    let limit = c.div_ceil-limit.result in
    let n = c.loop-number.number in
    let h = c.loop-number.invariant in
    elim c.if-size-length.branch [
      | then-size-length+in_ok-next+in_ok-add w ↦
          let bundles : c.if-size-length.bundles ≡ c.loop-number.bundles ++ c.loop-number.bundle ∷ [] = search rules in
          let bundle : c.if-size-length.bundle ≡ n ∷ [] = search rules in
          record {
            filled = rw (bundles, bundle) (fill_next lengths limit n c.loop-number.bundles c.loop-number.bundle h.filled (omega arith));
            some = rw bundle (omega arith);
            size = rw bundle (omega arith);
            small = omega arith;
          }
      | else-size-length+in_ok-add-2 w ↦
          let bundles : c.if-size-length.bundles ≡ c.loop-number.bundles = search rules in
          let bundle : c.if-size-length.bundle ≡ c.loop-number.bundle ++ n ∷ [] = search rules in
          record {
            filled = rw (bundles, bundle) (fill_more lengths limit n c.loop-number.bundles c.loop-number.bundle h.filled h.some (omega arith));
            some = rw bundle (omega (arith, length-append c.loop-number.bundle (n ∷ [])));
            size = rw bundle (omega (arith, size-push lengths limit c.loop-number.bundle n));
            small = omega arith;
          }
    ]

pub returns-clause-once : goal.returns-clause-once
returns-clause-once c =
    let filled : AreUniform c.args.lengths.now c.args.maps c.add-2.new.self = search rules in
    filled_once filled

pub returns-clause-few : goal.returns-clause-few
returns-clause-few c =
    let filled : AreUniform c.args.lengths.now c.args.maps c.add-2.new.self = search rules in
    filled_few filled
