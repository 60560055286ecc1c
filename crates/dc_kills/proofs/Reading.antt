-- The lines of a plan, read one after another.
use Rattle.std.proofs.Common.{◌≡◌, ℕ, ◌+◌, ◌<◌, ◌≤◌, Bool, true, false, cond, ◌==◌, ◌&&◌, List, [], ◌∷◌, ◌++◌, length, Option, Some, None, if◌then◌else◌, refl, sym, ap, ap₂, ◌∙◌, arith, eqb-true, append-nil, length-append, append_assoc, lt-ltb, le-ltb}
use Rattle.std.specs.Cmp.{tied_then}
use Rattle.std.specs.List.{filter_map, cons_option}
use Rattle.std.specs.Map.{lookup}
use Rattle.std.specs.Option.{is_some, option_or}
use Rattle.std.specs.Ordering.{nat_cmp, is_eq}
use Rattle.std.proofs.lemmas.Bool.Decides.{nat_tests}
use Rattle.std.proofs.lemmas.List.Elements.{filter_map-append}
use Rattle.dc_path.specs.Lines.{lines_of}
use Rattle.dc_path.proofs.LineLemmas.{no_lines}
use Rattle.dc_kills.specs.declared.stop.Stop.{Stop}
use Rattle.dc_kills.specs.declared.plan.PlanError.{PlanError}
use Rattle.dc_kills.specs.declared.plan.PlanError.TheVariants.{BadLine, Repeated}
use Rattle.dc_kills.specs.Entries.{Attempt, Entry, entry_from}
use Rattle.dc_kills.specs.Plans.{is_same, stop_in, stop_of, attempt_cmp}
use Rattle.dc_kills.specs.Faults.{fault_by, fault_at, first_fault, fault_of}
use Rattle.dc_kills.specs.Reading.{GainsLine}
use Rattle.std.proofs.lemmas.Bool.{and_parts}

-- ---- attempts
-- the order of attempts ties at the same ones alone
pub same_is : (a b : Attempt) → is_eq (attempt_cmp a b) ≡ is_same a b
same_is a b = sym (tied_then (nat_cmp a.0 b.0) (nat_cmp a.1 b.1)) ∙ ap₂ (λ x y. x && y) (ties a.0 b.0) (ties a.1 b.1)
  where
    ties : (m n : ℕ) → is_eq (nat_cmp m n) ≡ (m == n)
    ties m n = grind (arith, nat_tests)

-- what the map has at an attempt is where the plan stops it
pub get_is : (plan : List Entry) (attempt : Attempt) → lookup (λ other. is_eq (attempt_cmp attempt other)) plan ≡ stop_in plan attempt
get_is [] attempt = refl
get_is (entry ∷ plan) attempt = rw (same_is attempt entry.0, get_is plan attempt) refl

same_attempt : (a b : Attempt) → is_same a b ≡ true → a ≡ b
same_attempt a b h = let parts = and_parts (a.0 == b.0) (a.1 == b.1) h in ap₂ (λ piece number. (piece, number)) (eqb-true a.0 b.0 parts.0) (eqb-true a.1 b.1 parts.1)

same_flip : (a b : Attempt) → is_same a b ≡ is_same b a
same_flip a b = ap₂ (λ x y. x && y) (flip a.0 b.0) (flip a.1 b.1)
  where
    flip : (m n : ℕ) → (m == n) ≡ (n == m)
    flip m n = grind (arith, nat_tests)

-- ---- an entry more
-- the first stop, and else the other
abbrev or_stop : Option Stop → Option Stop → Option Stop
or_stop (Some stop) other = Some stop
or_stop None other = other

or_none : (stop : Option Stop) → or_stop stop None ≡ stop
or_none (Some stop) = refl
or_none None = refl

stop_in-push : (plan : List Entry) (entry : Entry) (attempt : Attempt) → stop_in (plan ++ entry ∷ []) attempt ≡ or_stop (stop_in plan attempt) (cond (is_same attempt entry.0) (Some entry.1) None)
stop_in-push [] entry attempt = refl
stop_in-push (first ∷ plan) entry attempt = step (is_same attempt first.0) (stop_in-push plan entry attempt)
  where
    step : (here : Bool) → stop_in (plan ++ entry ∷ []) attempt ≡ or_stop (stop_in plan attempt) (cond (is_same attempt entry.0) (Some entry.1) None) →
        cond here (Some first.1) (stop_in (plan ++ entry ∷ []) attempt) ≡ or_stop (cond here (Some first.1) (stop_in plan attempt)) (cond (is_same attempt entry.0) (Some entry.1) None)
    step true h = refl
    step false h = h

-- an entry behind others, whose attempt they do not stop
gain : (stop : Option Stop) (entry : Entry) (attempt : Attempt) (same : Bool) → (same ≡ true → stop ≡ None) → cond same (Some entry.1) stop ≡ or_stop stop (cond same (Some entry.1) None)
gain stop entry attempt true h = rw (h refl) refl
gain stop entry attempt false h = sym (or_none stop)

gained : (plan : List Entry) (entry : Entry) (attempt : Attempt) → stop_in plan entry.0 ≡ None →
    cond (is_same entry.0 attempt) (Some entry.1) (stop_in plan attempt) ≡ or_stop (stop_in plan attempt) (cond (is_same attempt entry.0) (Some entry.1) None)
gained plan entry attempt fresh =
    rw (same_flip attempt entry.0)
    (gain (stop_in plan attempt) entry attempt (is_same entry.0 attempt) (λ same. ap (stop_in plan) (sym (same_attempt entry.0 attempt same)) ∙ fresh))

-- ---- faults
fault_same : (number : ℕ) (stops others : Attempt → Option Stop) (entry : Option Entry) → ((attempt : Attempt) → stops attempt ≡ others attempt) →
    fault_by number stops entry ≡ fault_by number others entry
fault_same number stops others None h = refl
fault_same number stops others (Some entry) h = ap (λ stop. if is_some stop then Some (Repeated number) else None) (h entry.0)

at_within : (before : List (List ℕ)) (line : List ℕ) → length before < 65536 → fault_at before line ≡ fault_by (length before + 1) (stop_of before) (entry_from line)
at_within before line h = rw (lt-ltb (length before) 65536 h) refl

at_past : (before : List (List ℕ)) (line : List ℕ) → 65536 ≤ length before → fault_at before line ≡ Some (BadLine (length before + 1))
at_past before line h = rw (le-ltb (length before) 65536 h) refl

-- what was read of a text
pub record IsReading (text rest : List ℕ) (plan : List Entry) (number : ℕ) : Type 0 where
  pub before : List (List ℕ)
  pub lines : before ++ lines_of rest ≡ lines_of text
  pub faults : first_fault before (lines_of rest) ≡ fault_of text
  pub stops : (attempt : Attempt) → stop_in plan attempt ≡ stop_of before attempt
  pub counted : number ≡ length before
  pub few : number ≤ 65536

pub reading_start : (text : List ℕ) → IsReading text text [] 0
reading_start text = record { before = []; lines = refl; faults = refl; stops = λ attempt. refl; counted = refl; few = omega arith }

module _ {text rest : List ℕ} {plan : List Entry} {number : ℕ} (i : IsReading text rest plan number) where
  pub reading_end : rest ≡ [] → fault_of text ≡ None
  reading_end e = sym i.faults ∙ ap (first_fault i.before) (ap lines_of e ∙ no_lines [] refl)

  pub reading_stops : rest ≡ [] → (attempt : Attempt) → stop_in plan attempt ≡ stop_of (lines_of text) attempt
  reading_stops e attempt =
      let all : i.before ≡ lines_of text = sym (append-nil i.before) ∙ ap (λ lines. i.before ++ lines) (sym (ap lines_of e ∙ no_lines [] refl)) ∙ i.lines in
      i.stops attempt ∙ ap (λ lines. stop_of lines attempt) all

  module _ (line others : List ℕ) (split : lines_of rest ≡ line ∷ lines_of others) where
    next_fault : fault_of text ≡ option_or (fault_at i.before line) (first_fault (i.before ++ line ∷ []) (lines_of others))
    next_fault = sym i.faults ∙ ap (first_fault i.before) split

    within : number + 1 ≤ 65536 → fault_at i.before line ≡ fault_by (number + 1) (stop_in plan) (entry_from line)
    within h =
        let few : length i.before < 65536 = omega (arith, i.counted) in
        at_within i.before line few
        ∙ ap (λ n. fault_by (n + 1) (stop_of i.before) (entry_from line)) (sym i.counted)
        ∙ fault_same (number + 1) (stop_of i.before) (stop_in plan) (entry_from line) (λ attempt. sym (i.stops attempt))

    -- a line too many
    pub reading_long : 65536 < number + 1 → fault_of text ≡ Some (BadLine (number + 1))
    reading_long h =
        let many : 65536 ≤ length i.before = omega (arith, i.counted) in
        next_fault ∙ ap (λ fault. option_or fault (first_fault (i.before ++ line ∷ []) (lines_of others))) (at_past i.before line many)
        ∙ ap (λ n. Some (BadLine (n + 1))) (sym i.counted)

    -- a line with a fault
    pub reading_fault : (fault : PlanError) → number + 1 ≤ 65536 → fault_by (number + 1) (stop_in plan) (entry_from line) ≡ Some fault → fault_of text ≡ Some fault
    reading_fault fault h e = next_fault ∙ ap (λ fault. option_or fault (first_fault (i.before ++ line ∷ []) (lines_of others))) (within h ∙ e)

    -- a line without a fault
    pub reading_more : (new : List Entry) → number + 1 ≤ 65536 → GainsLine plan new line → IsReading text others new (number + 1)
    reading_more new h g =
        let none : fault_by (number + 1) (stop_in plan) (entry_from line) ≡ None =
        ap (fault_by (number + 1) (stop_in plan)) g.spelt ∙ ap (λ stop. if is_some stop then Some (Repeated (number + 1)) else None) g.fresh in
        let all : filter_map entry_from (i.before ++ line ∷ []) ≡ filter_map entry_from i.before ++ g.entry ∷ [] =
        filter_map-append entry_from i.before (line ∷ []) ∙ ap (λ entry. filter_map entry_from i.before ++ cons_option entry []) g.spelt in
        record {
          before = i.before ++ line ∷ [];
          lines = append_assoc i.before (line ∷ []) (lines_of others) ∙ ap (λ lines. i.before ++ lines) (sym split) ∙ i.lines;
          faults =
              sym (next_fault ∙ ap (λ fault. option_or fault (first_fault (i.before ++ line ∷ []) (lines_of others))) (within h ∙ none));
          stops =
              λ attempt. g.stops attempt ∙ gained plan g.entry attempt g.fresh
              ∙ ap (λ stop. or_stop stop (cond (is_same attempt g.entry.0) (Some g.entry.1) None)) (i.stops attempt)
              ∙ sym (ap (λ entries. stop_in entries attempt) all ∙ stop_in-push (filter_map entry_from i.before) g.entry attempt);
          counted = omega (arith, i.counted, length-append i.before (line ∷ []));
          few = h;
        }
