use Rattle.std.proofs.Common.{◌∙◌, sym, ap, ℕ, map, ◌-◌, take}
use Rattle.dc_tree.specs.Arena.{cell_of, way_from}
use Rattle.dc_tree.proofs.Ways.{taken, vacant, under_file, front_lacks, front_stops, step_is_of, no_last, at_root}
use Rattle.dc_tree.proofs.slots.find_place.Goals as goal

pub returns-in_default : goal.returns-in_default
returns-in_default c = λ f. at_root (map cell_of c.args.slots.now) c.args.path.now f (no_last c.args.path.now c.in_default.ensures)

pub returns-in-At-child : goal.returns-in-At-child
returns-in-At-child c = λ f. taken (map cell_of c.args.slots.now) c.args.path.now c.in-Some.name.now c.in-At.parent c.in-At-child.child f (sym c.in-Some.ensures) (c.in-At.ensures ∙ ap (λ (n : ℕ). way_from (map cell_of c.args.slots.now) 0 (take (n - 1) c.args.path.now)) c.len.ensures.count) (step_is_of (map cell_of c.args.slots.now) c.in-At.parent c.in-Some.name.now _ c.in-At-child.ensures)

pub returns-in-Missing-child : goal.returns-in-Missing-child
returns-in-Missing-child c = λ f. vacant (map cell_of c.args.slots.now) c.args.path.now c.in-Some.name.now c.in-At.parent f (sym c.in-Some.ensures) (c.in-At.ensures ∙ ap (λ (n : ℕ). way_from (map cell_of c.args.slots.now) 0 (take (n - 1) c.args.path.now)) c.len.ensures.count) (step_is_of (map cell_of c.args.slots.now) c.in-At.parent c.in-Some.name.now _ c.in-Missing-child.ensures)

pub returns-in-NotDir-child : goal.returns-in-NotDir-child
returns-in-NotDir-child c = λ f. under_file (map cell_of c.args.slots.now) c.args.path.now c.in-Some.name.now c.in-At.parent f (sym c.in-Some.ensures) (c.in-At.ensures ∙ ap (λ (n : ℕ). way_from (map cell_of c.args.slots.now) 0 (take (n - 1) c.args.path.now)) c.len.ensures.count) (step_is_of (map cell_of c.args.slots.now) c.in-At.parent c.in-Some.name.now _ c.in-NotDir-child.ensures)

pub returns-in-Missing : goal.returns-in-Missing
returns-in-Missing c = λ f. front_lacks (map cell_of c.args.slots.now) c.args.path.now c.in-Some.name.now f (sym c.in-Some.ensures) (c.in-Missing.ensures ∙ ap (λ (n : ℕ). way_from (map cell_of c.args.slots.now) 0 (take (n - 1) c.args.path.now)) c.len.ensures.count)

pub returns-in-NotDir : goal.returns-in-NotDir
returns-in-NotDir c = λ f. front_stops (map cell_of c.args.slots.now) c.args.path.now c.in-Some.name.now f (sym c.in-Some.ensures) (c.in-NotDir.ensures ∙ ap (λ (n : ℕ). way_from (map cell_of c.args.slots.now) 0 (take (n - 1) c.args.path.now)) c.len.ensures.count)
