use Rattle.std.proofs.Common.{sym, map, [], refl}
use Rattle.std.specs.Option.{option_copied}
use Rattle.dc_tree.specs.Arena.{cell_of}
use Rattle.dc_tree.proofs.Nexts.{first_link, none_link}
use Rattle.dc_tree.proofs.same.step.Goals as goal

pub returns-in_default : goal.returns-in_default
returns-in_default c = none_link (map cell_of c.args.first.now) c.args.at [] (option_copied c.args.after) c.in_default.ensures (λ y t. refl)

pub returns-in_default-next_shown : goal.returns-in_default-next_shown
returns-in_default-next_shown c = none_link (map cell_of c.args.first.now) c.args.at c.in-Some.children.now.entries (option_copied c.args.after) c.in-Some.ensures c.in_default-next_shown.ensures

pub returns-in_default-link_at : goal.returns-in_default-link_at
returns-in_default-link_at c =
    let f = first_link (map cell_of c.args.first.now) c.args.at c.in-Some.children.now.entries (option_copied c.args.after) c.in-Some-next_shown.name.now c.in-Some.ensures c.in-Some-next_shown.ensures in
    absurd (f.there (sym c.in_default-link_at.ensures))

pub returns-in-Some-link_at-2 : goal.returns-in-Some-link_at-2
returns-in-Some-link_at-2 c =
    let f = first_link (map cell_of c.args.first.now) c.args.at c.in-Some.children.now.entries (option_copied c.args.after) c.in-Some-next_shown.name.now c.in-Some.ensures c.in-Some-next_shown.ensures in
    (c.in-Some-next_shown.name.now, f, sym c.in-Some-link_at.ensures, sym c.in-Some-link_at-2.ensures)
