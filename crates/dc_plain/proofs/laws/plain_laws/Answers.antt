-- The laws are proved of the definitions.
use Rattle.dc_plain.proofs.CopyLemmas.{copies_are_whole}
use Rattle.dc_plain.proofs.RefusalLemmas.{nothing_refuses, only_limits_refuse, plain_is_allowed}
use Rattle.dc_plain.proofs.UniqueLemmas.{counts_are_one, folders_are_one, landings_are_one}
use Rattle.dc_plain.proofs.WordLemmas.{words_are_plain}
use Rattle.dc_plain.proofs.laws.plain_laws.Goals as goal

pub returns : goal.returns
returns c = record {
  words = words_are_plain;
  allowed = plain_is_allowed;
  limits = only_limits_refuse;
  refuses = nothing_refuses;
  copies = copies_are_whole;
  landings = landings_are_one;
  folders = folders_are_one;
  counts = counts_are_one;
}
