-- What is missing makes a line of no such form, and else the parts make its entry.
use Rattle.std.proofs.Common.{◌≡◌, ◌∷◌, [], sym, ap, ◌∙◌, refl}
use Rattle.std.specs.Option.{option_copied}
use Rattle.dc_kills.specs.Parts.{parts_of, parts_behind}
use Rattle.dc_kills.proofs.EntryLemmas.{line_of_one, line_of_two, line_of_more, no_attempt, no_step, no_worker, entry_is}
use Rattle.dc_kills.proofs.entries.read_entry.Goals as goal

pub returns-in_err-rest : goal.returns-in_err-rest
returns-in_err-rest c =
    let line = c.args.line.now in
    let piece = c.first_part.result.0.now in
    let alone : parts_of line ≡ piece ∷ [] = c.first_part.ensures ∙ ap (λ o. piece ∷ parts_behind (option_copied o)) c.in_err-rest.was in
    c.from_residual.ensures ∙ sym (line_of_one line piece alone)

pub returns-in_err-rest-2 : goal.returns-in_err-rest-2
returns-in_err-rest-2 c =
    let line = c.args.line.now in
    let piece = c.first_part.result.0.now in
    let rest = c.in_ok-rest.field-0.now in
    let first : parts_of line ≡ piece ∷ parts_of rest = c.first_part.ensures ∙ ap (λ o. piece ∷ parts_behind (option_copied o)) c.in_ok-rest.was in
    let attempt = c.first_part-2.result.0.now in
    let last : parts_of rest ≡ attempt ∷ [] = c.first_part-2.ensures ∙ ap (λ o. attempt ∷ parts_behind (option_copied o)) c.in_err-rest-2.was in
    c.from_residual-in_err-rest-2.ensures ∙ sym (line_of_two line piece rest attempt first last)

pub returns-in_err-worker_too : goal.returns-in_err-worker_too
returns-in_err-worker_too c =
    let line = c.args.line.now in
    let piece = c.first_part.result.0.now in
    let rest = c.in_ok-rest.field-0.now in
    let first : parts_of line ≡ piece ∷ parts_of rest = c.first_part.ensures ∙ ap (λ o. piece ∷ parts_behind (option_copied o)) c.in_ok-rest.was in
    let attempt = c.first_part-2.result.0.now in
    let others = c.in_ok-rest-2.field-0.now in
    let second : parts_of rest ≡ attempt ∷ parts_of others = c.first_part-2.ensures ∙ ap (λ o. attempt ∷ parts_behind (option_copied o)) c.in_ok-rest-2.was in
    let step = c.first_part-3.result.0.now in
    let behind = option_copied c.first_part-3.result.1 in
    let spelt = line_of_more line piece rest attempt others step behind first second c.first_part-3.ensures in
    let none = entry_is refl refl refl (sym c.read_worker.ensures ∙ c.in_err-worker_too.was) in
    c.from_residual-in_err-worker_too.ensures ∙ sym (spelt ∙ none ∙ no_worker _ _ _)

pub returns-in_err-piece : goal.returns-in_err-piece
returns-in_err-piece c =
    let line = c.args.line.now in
    let piece = c.first_part.result.0.now in
    let rest = c.in_ok-rest.field-0.now in
    let first : parts_of line ≡ piece ∷ parts_of rest = c.first_part.ensures ∙ ap (λ o. piece ∷ parts_behind (option_copied o)) c.in_ok-rest.was in
    let attempt = c.first_part-2.result.0.now in
    let others = c.in_ok-rest-2.field-0.now in
    let second : parts_of rest ≡ attempt ∷ parts_of others = c.first_part-2.ensures ∙ ap (λ o. attempt ∷ parts_behind (option_copied o)) c.in_ok-rest-2.was in
    let step = c.first_part-3.result.0.now in
    let behind = option_copied c.first_part-3.result.1 in
    let spelt = line_of_more line piece rest attempt others step behind first second c.first_part-3.ensures in
    let none = entry_is (sym c.read_number.ensures.value ∙ c.in_err-piece.was) refl refl refl in
    c.from_residual-in_err-piece.ensures ∙ sym (spelt ∙ none)

pub returns-in_err-attempt : goal.returns-in_err-attempt
returns-in_err-attempt c =
    let line = c.args.line.now in
    let piece = c.first_part.result.0.now in
    let rest = c.in_ok-rest.field-0.now in
    let first : parts_of line ≡ piece ∷ parts_of rest = c.first_part.ensures ∙ ap (λ o. piece ∷ parts_behind (option_copied o)) c.in_ok-rest.was in
    let attempt = c.first_part-2.result.0.now in
    let others = c.in_ok-rest-2.field-0.now in
    let second : parts_of rest ≡ attempt ∷ parts_of others = c.first_part-2.ensures ∙ ap (λ o. attempt ∷ parts_behind (option_copied o)) c.in_ok-rest-2.was in
    let step = c.first_part-3.result.0.now in
    let behind = option_copied c.first_part-3.result.1 in
    let spelt = line_of_more line piece rest attempt others step behind first second c.first_part-3.ensures in
    let none = entry_is refl (sym c.read_number-2.ensures.value ∙ c.in_err-attempt.was) refl refl in
    c.from_residual-in_err-attempt.ensures ∙ sym (spelt ∙ none ∙ no_attempt _ _ _)

pub returns-in_err-step : goal.returns-in_err-step
returns-in_err-step c =
    let line = c.args.line.now in
    let piece = c.first_part.result.0.now in
    let rest = c.in_ok-rest.field-0.now in
    let first : parts_of line ≡ piece ∷ parts_of rest = c.first_part.ensures ∙ ap (λ o. piece ∷ parts_behind (option_copied o)) c.in_ok-rest.was in
    let attempt = c.first_part-2.result.0.now in
    let others = c.in_ok-rest-2.field-0.now in
    let second : parts_of rest ≡ attempt ∷ parts_of others = c.first_part-2.ensures ∙ ap (λ o. attempt ∷ parts_behind (option_copied o)) c.in_ok-rest-2.was in
    let step = c.first_part-3.result.0.now in
    let behind = option_copied c.first_part-3.result.1 in
    let spelt = line_of_more line piece rest attempt others step behind first second c.first_part-3.ensures in
    let none = entry_is refl refl (sym c.read_number-3.ensures.value ∙ c.in_err-step.was) refl in
    c.from_residual-in_err-step.ensures ∙ sym (spelt ∙ none ∙ no_step _ _ _)

pub returns : goal.returns
returns c =
    let line = c.args.line.now in
    let piece = c.first_part.result.0.now in
    let rest = c.in_ok-rest.field-0.now in
    let first : parts_of line ≡ piece ∷ parts_of rest = c.first_part.ensures ∙ ap (λ o. piece ∷ parts_behind (option_copied o)) c.in_ok-rest.was in
    let attempt = c.first_part-2.result.0.now in
    let others = c.in_ok-rest-2.field-0.now in
    let second : parts_of rest ≡ attempt ∷ parts_of others = c.first_part-2.ensures ∙ ap (λ o. attempt ∷ parts_behind (option_copied o)) c.in_ok-rest-2.was in
    let step = c.first_part-3.result.0.now in
    let behind = option_copied c.first_part-3.result.1 in
    let spelt = line_of_more line piece rest attempt others step behind first second c.first_part-3.ensures in
    sym (
    spelt
    ∙ entry_is
    (sym c.read_number.ensures.value ∙ c.in_ok-piece.was)
    (sym c.read_number-2.ensures.value ∙ c.in_ok-attempt.was)
    (sym c.read_number-3.ensures.value ∙ c.in_ok-step.was)
    (sym c.read_worker.ensures ∙ c.in_ok-worker_too.was)
    )
