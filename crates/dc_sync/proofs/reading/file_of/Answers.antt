use Rattle.std.proofs.Common.{◌≡◌, ◌++◌, ◌≤◌, length, rules, codes}
use Rattle.dc_sync.proofs.NameLemmas.{file_is_name, now_is_name}
use Rattle.dc_sync.proofs.reading.file_of.Goals as goal

pub name_of-requires : goal.name_of-requires
name_of-requires c = now_is_name

pub name_of-requires-2 : goal.name_of-requires-2
name_of-requires-2 c = let k : c.as_str-2.result.now ≡ codes "to." ++ c.as_str.result.now = search rules in let s : length c.as_str.result.now ≤ 252 = search rules in rw k (file_is_name c.as_str.result.now (search rules) s)
