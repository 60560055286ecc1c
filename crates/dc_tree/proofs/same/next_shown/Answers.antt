use Rattle.std.proofs.Common.{sym}
use Rattle.std.specs.Option.{option_copied}
use Rattle.dc_tree.specs.Arena.{find}
use Rattle.dc_tree.proofs.Nexts.{past_hidden}
use Rattle.dc_tree.proofs.same.next_shown.Goals as goal

pub returns-then-is_hidden : goal.returns-then-is_hidden
returns-then-is_hidden c = past_hidden (λ x. find x c.args.children.now.entries) (option_copied c.args.after) c.in-Some.name.now (option_copied c.next_name-then-is_hidden.result) c.in-Some.ensures (sym c.if-is_hidden.ensures) c.next_name-then-is_hidden.ensures
