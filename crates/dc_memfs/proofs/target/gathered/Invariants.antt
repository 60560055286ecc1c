use Rattle.std.proofs.Common.{◌≡◌, Some, map, length}
use Rattle.std.specs.List.{sum_by}
use Rattle.dc_memfs.specs.declared.desk.MemTemp.{MemTemp}
use Rattle.dc_fs.specs.Temporaries.{all_told}
use Rattle.dc_memfs.proofs.target.gathered.Given as goal

abbrev pub invariant-loop-part : goal.invariant-loop-part
invariant-loop-part l = record {
  told : all_told (map (λ (temp : MemTemp). Some temp.bytes.items) l.yielded) ≡ Some l.bytes.items;
  size : length l.bytes.items ≡ sum_by (λ (temp : MemTemp). length temp.bytes.items) l.yielded;
}
