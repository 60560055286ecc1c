use Rattle.std.proofs.Common.{◌≡◌, ◌≤◌, length, take, filter}
use Rattle.dc_commit.specs.Settings.{is_dir_item}
use Rattle.dc_engine.proofs.counting.count_dirs.Given as goal

-- how many of the first items are directories
abbrev pub invariant-loop-planned : goal.invariant-loop-planned
invariant-loop-planned l = record {
  count : l.count ≡ length (filter is_dir_item (take l.planned-index l.items));
  small : l.count ≤ l.planned-index;
}
