-- What follows a front by its number of names is what the cut is.
use Rattle.std.proofs.Common.{◌≡◌, true, nat_eq, arith, drop, length, Some, sym, ap, ◌∙◌}
use Rattle.std.specs.List.{starts_with}
use Rattle.std.specs.Cmp.Lexicographic.{pointwise}
use Rattle.std.proofs.lemmas.Grind.{common_steps}
use Rattle.dc_path.proofs.PathLemmas.{cut-starts_with}
use Rattle.dc_path.proofs.path.Path.cut.Goals as goal

pub returns : goal.returns
returns c =
    let h : starts_with (pointwise nat_eq) c.args.self.now c.args.front.now ≡ true = grind (arith, common_steps) in
    let rest : c.push_all.new.self ≡ drop (length c.args.front.now) c.args.self.now = grind (arith, common_steps) in
    ap Some rest ∙ sym (cut-starts_with c.args.front.now c.args.self.now h)
