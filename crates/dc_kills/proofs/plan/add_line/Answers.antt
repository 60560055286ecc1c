-- A line whose attempt the map has not yet.
use Rattle.std.proofs.Common.{◌≡◌, cond, Some, None, sym, ◌∙◌, rules}
use Rattle.std.specs.Map.{lookup}
use Rattle.std.specs.Ordering.{is_eq}
use Rattle.dc_kills.specs.Plans.{attempt_cmp}
use Rattle.dc_kills.proofs.Reading.{same_is, get_is}
use Rattle.dc_kills.proofs.plan.add_line.Goals as goal

pub returns-in-Ok-None-clause-ok : goal.returns-in-Ok-None-clause-ok
returns-in-Ok-None-clause-ok c =
    let before = c.args.stops.now.entries in
    let after = c.insert.new.self.entries in
    let key = c.in-Some.attempt in
    let had : lookup (λ other. is_eq (attempt_cmp key other)) before ≡ None = sym c.in-Ok-None.ensures.old ∙ c.in-Ok-None.field-0-is in
    record {
      entry = (key, c.in-Some.stop);
      spelt = search rules;
      fresh = sym (get_is before key) ∙ had;
      stops =
          λ attempt.
          let now : lookup (λ other. is_eq (attempt_cmp attempt other)) after ≡
          cond (is_eq (attempt_cmp key attempt)) (Some c.in-Some.stop) (lookup (λ other. is_eq (attempt_cmp attempt other)) before) =
          c.in-Ok-None.ensures.updates.0 attempt in
          sym (get_is after attempt) ∙ rw (same_is key attempt, get_is before attempt) at now;
      counted = rw c.in-Ok-None.field-0-is at c.in-Ok-None.ensures.len;
      ordered = c.in-Ok-None.ensures.ordered;
    }
