-- Whatever else stands behind the step is no form of a line.
use Rattle.std.proofs.Common.{◌≡◌, true, false, nat_eq, codes, ◌∷◌, sym, ◌∙◌, ap, rules}
use Rattle.std.specs.Option.{is_some, option_copied}
use Rattle.std.specs.Cmp.Lexicographic.{pointwise}
use Rattle.dc_kills.specs.Parts.{parts_behind}
use Rattle.dc_kills.specs.Entries.{worker_from}
use Rattle.dc_kills.proofs.EntryLemmas.{no_worker_behind, no_worker_alone}
use Rattle.dc_kills.proofs.entries.read_worker.Goals as goal
use Rattle.dc_kills.proofs.entries.read_worker.Goals.{then-is_some-via-then-is_some, then-is_some-via-else-is_some+then-ne}

pub returns-then-is_some : goal.returns-then-is_some
returns-then-is_some c =
    let word = c.first_part.result.0.now in
    let others = option_copied c.first_part.result.1 in
    let here : worker_from (parts_behind (option_copied c.args.rest)) ≡ worker_from (word ∷ parts_behind others) =
    ap (λ rest. worker_from (parts_behind (option_copied rest))) c.in-Some.is ∙ ap worker_from c.first_part.ensures in
    elim c.then-is_some.branch [
      | then-is_some-via-then-is_some w ↦
          let more : is_some others ≡ true = search rules in
          sym (here ∙ no_worker_behind word others more)
      | then-is_some-via-else-is_some+then-ne w ↦
          let alone : is_some others ≡ false = search rules in
          let other : pointwise nat_eq word (codes "worker") ≡ false = search rules in
          sym (here ∙ no_worker_alone word others alone other)
    ]
