-- Why a text is no kill plan.
use Rattle.std.specs.Prelude.{◌≡◌, ℕ, ◌+◌, List, [], ◌∷◌, ◌++◌, length, Option, Some, None, nat_lt, if◌then◌else◌}
use Rattle.std.specs.Option.{is_some, option_or}
use Rattle.dc_path.specs.Lines.{lines_of}
use Rattle.dc_kills.specs.declared.stop.Stop.{Stop}
use Rattle.dc_kills.specs.declared.plan.PlanError.{PlanError}
use Rattle.dc_kills.specs.declared.plan.PlanError.TheVariants.{BadLine, Repeated}
use Rattle.dc_kills.specs.Entries.{Attempt, Entry, entry_from}
use Rattle.dc_kills.specs.Plans.{stop_in, stop_of}

-- what is wrong with a line that spells this, if anything, behind lines that stop these attempts
abbrev pub fault_by : ℕ → (Attempt → Option Stop) → Option Entry → Option PlanError
fault_by number stops None = Some (BadLine number)
fault_by number stops (Some entry) = if is_some (stops entry.0) then Some (Repeated number) else None

-- what is wrong with a line behind these lines: it is the 65,537th, it spells no entry, or its attempt stood before
abbrev pub fault_at : List (List ℕ) → List ℕ → Option PlanError
fault_at before line =
    if nat_lt (length before) 65536 then fault_by (length before + 1) (stop_of before) (entry_from line) else Some (BadLine (length before + 1))

-- what is wrong with the first line that has a fault, behind the lines before
abbrev pub first_fault : List (List ℕ) → List (List ℕ) → Option PlanError
first_fault before [] = None
first_fault before (line ∷ lines) = option_or (fault_at before line) (first_fault (before ++ line ∷ []) lines)

-- why a text is no kill plan; none where it is one
abbrev pub fault_of : List ℕ → Option PlanError
fault_of text = first_fault [] (lines_of text)

-- a text is a kill plan, and this is the plan
pub record IsPlanOf (text : List ℕ) (plan : List Entry) : Type 0 where
  pub faultless : fault_of text ≡ None
  pub stops : (attempt : Attempt) → stop_in plan attempt ≡ stop_of (lines_of text) attempt
