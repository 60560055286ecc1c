-- Lemmas on how the program ends.
use Rattle.std.proofs.Common.{◌≡◌, ◌≤◌, ◌⊎◌, ◌∷◌, [], inl, inr, refl, sym, subst, ℕ, List, Bool, true, false, map, length, get_or, take, drop, ◌-◌, Result, Ok, Err, IfOk, IsOkAnd, arith}
use Rattle.std.proofs.lemmas.List.{take_all}
use Rattle.dc_fs.specs.Causes.{Rose, counted}
use Rattle.dc_fs.specs.Views.{View}
use Rattle.dc_options.specs.Reading.{options}
use Rattle.dc_options.specs.Settings.{Settings}
use Rattle.dc_options.specs.declared.errors.OptionError.{OptionError}
use Rattle.dc_engine.specs.Finishing.{ShowsEnd}
use Rattle.dc_engine.specs.Preparing.{KeepsSource}
use Rattle.dc_engine.specs.Running.{commits}
use Rattle.dc_engine.specs.declared.outcome.Outcome.{Outcome}
use Rattle.dc_engine.specs.declared.outcome.Outcome.TheVariants as outcome
use Rattle.dc_engine.specs.declared.outcome.TheConstants.Counts.{NONE}
use Rattle.dc_output.specs.Output.{lines, status_of}
use Rattle.distcp.specs.Ends.{Allows, Keeps, Output, Prints, Runs, Stops}

-- the exit status of want of memory
pub memory_status : (printed : Bool) → status_of outcome.Memory printed ≡ 24
unfolding status_of
memory_status printed = refl

-- ---- a run that commits
-- no temporary is left after a commit
pub swept_after : (r : Result Settings OptionError) (P : Settings → Type 0) (ended : Outcome) (source source_now target target_now : View) → IsOkAnd r P → IfOk r (λ o. ShowsEnd o ended source source_now target target_now) → commits ended ≡ true → target_now.rest.scratch ≡ 0
swept_after (Ok o) P ended source source_now target target_now asked shows h = shows.swept h
swept_after (Err error) P ended source source_now target target_now asked shows h = absurd asked

-- ---- a run for which there was no memory
-- a source that was not looked at is kept
source_kept : (v : View) → KeepsSource v v
source_kept v =
    let forks : counted v.rest.fork_faults 0 ≤ v.rest.fork_faults = omega arith in
    record { tree = refl; rest = refl; forks = forks; later = omega arith; calm = refl }

keeps_all : (source target : View) → Keeps source source target target
keeps_all source target = record { kept = source_kept source; desks = refl; later = omega arith; calm = refl }

-- it shows nothing
shows_memory : (o : Settings) (source target : View) → ShowsEnd o outcome.Memory source source target target
shows_memory o source target = record {
  some = λ h. cc;
  allowed = λ _ h. cc;
  swept = λ h. cc;
  cause = λ h. cc;
  renames = tt;
  emptied = tt;
  uncertain = λ h. cc;
  given_up = tt;
  four = tt;
  unfailed = λ _ _. tt;
  differ = tt;
  early = λ h. cc;
}

shows_by : (r : Result Settings OptionError) (source target : View) → IfOk r (λ o. ShowsEnd o outcome.Memory source source target target)
shows_by (Ok o) source target = shows_memory o source target
shows_by (Err error) source target = tt

memory_allowed : (words : List (List ℕ)) → Allows words outcome.Memory
memory_allowed words = record { words = λ error h. cc; due = λ error h. inr refl; filtered = λ h. cc }

stops_at_once : (source target : View) → Stops outcome.Memory NONE source source target target
stops_at_once source target = record { uncounted = refl; source_fault = λ h. cc; left = inl refl; emptied = λ _ h. cc; untouched = λ h. cc; unchanged = λ h. cc }

-- it ends by that, and leaves both stores as they were
memory_run : (words : List (List ℕ)) (source target : View) (before now : Output) (printed : Bool) → (printed ≡ true → Prints (lines outcome.Memory NONE) before now) → (printed ≡ false → Rose before.faults now.faults) → Runs words 24 source source target target before now
memory_run words source target before now printed told rose = record {
  ended = outcome.Memory;
  counts = NONE;
  printed = printed;
  allowed = memory_allowed words;
  unasked = λ error h. refl;
  committed = λ h. cc;
  stopped = λ h. stops_at_once source target;
  keeps = keeps_all source target;
  shows = shows_by (options words) source target;
  too_long = tt;
  status = sym (memory_status printed);
  lines = told;
  unprinted = rose;
}

pub memory_runs : (words : List (List ℕ)) (source target : View) (before now : Output) → Prints (lines outcome.Memory NONE) before now ⊎ Rose before.faults now.faults → Runs words 24 source source target target before now
memory_runs words source target before now (inl printed) = memory_run words source target before now true (λ h. printed) (λ h. cc)
memory_runs words source target before now (inr rose) = memory_run words source target before now false (λ h. cc) (λ h. rose)

-- ---- words
-- what holds of two words and those after them holds of them under other names
pub of_words : (P : List ℕ → List ℕ → List (List ℕ) → Type 0) (a b from to : List ℕ) (rest asked : List (List ℕ)) → a ∷ b ∷ rest ≡ from ∷ to ∷ asked → P a b rest → P from to asked
of_words P a b from to rest asked e p =
    let first : a ≡ from = cc in
    let second : b ≡ to = cc in
    let others : rest ≡ asked = cc in
    subst (λ (x : List ℕ). P x to asked) first (subst (λ (y : List ℕ). P a y asked) second (subst (λ (z : List (List ℕ)). P a b z) others p))

-- two words and those after them, as a list of their texts
pub listed_words : {X : Type 0} (text : X → List ℕ) (words : List X) (a b : X) (first second from to : List ℕ) (asked : List (List ℕ)) → 2 ≤ length words → a ≡ get_or words 0 a → b ≡ get_or words 1 b → first ≡ text a → second ≡ text b → map text words ≡ from ∷ to ∷ asked → first ∷ second ∷ map text (take (length words - 2) (drop 2 words)) ≡ from ∷ to ∷ asked
listed_words text [] a b first second from to asked few h k v w e = absurd (omega (arith, few))
listed_words text (x ∷ []) a b first second from to asked few h k v w e = absurd (omega (arith, few))
listed_words text (x ∷ y ∷ rest) a b first second from to asked few h k v w e =
    let all : take (length (x ∷ y ∷ rest) - 2) rest ≡ rest = take_all (length (x ∷ y ∷ rest) - 2) rest (omega (arith)) in
    cc
