use Rattle.std.proofs.Common.{◌≡◌, ap, Some, map, length, length-append, arith}
use Rattle.std.proofs.lemmas.List.{map-append}
use Rattle.dc_memfs.specs.declared.desk.MemTemp.{MemTemp}
use Rattle.dc_memfs.proofs.ChangeLemmas.{all_told-push}
use Rattle.std.proofs.lemmas.List.Sums.{sum_by_push}
use Rattle.dc_memfs.proofs.target.gathered.Goals as goal

pub loop-part-preserved : goal.loop-part-preserved
loop-part-preserved c =
    let told : MemTemp → _ = λ (temp : MemTemp). Some temp.bytes.items in
    let same : c.into_bytes.result.items ≡ c.in-Some.part.bytes.items = cc in
    record {
      told = rw (map-append, c.in_ok-bytes.ensures, same) (all_told-push (map told c.loop-part.yielded) c.loop-part.bytes.items c.in-Some.part.bytes.items c.loop-part.invariant.told);
      size = omega (arith, ap length c.in_ok-bytes.ensures, ap length same, length-append c.loop-part.bytes.items c.into_bytes.result.items, c.loop-part.invariant.size, sum_by_push (λ (temp : MemTemp). length temp.bytes.items) c.loop-part.yielded c.in-Some.part);
    }
