-- How the program ends: what it prints, and its exit status.
use Rattle.std.specs.Prelude.{◌≡◌, ◌≢◌, ◌<◌, ◌≤◌, ◌⊎◌, ◌++◌, ℕ, Bool, true, false, List, codes, decimal, Option, Result, Ok, Err, IsOkAnd, IfOk}
use Rattle.std.specs.Option.{is_some, option_map}
use Rattle.dc_fs.specs.Causes.{Rose, raised, steady_at}
use Rattle.dc_fs.specs.Rest.{SweepStops}
use Rattle.dc_fs.specs.Views.{View, view, BothTrees}
use Rattle.dc_fs.specs.declared.sink.Sink as sink
use Rattle.dc_fs.specs.declared.store.Store as store
use Rattle.dc_local.specs.declared.errors.LocalError.{LocalError}
use Rattle.dc_local.specs.declared.errors.LocalError.TheVariants as local_error
use Rattle.dc_options.specs.Reading.{options}
use Rattle.dc_options.specs.declared.errors.OptionError.{OptionError}
use Rattle.dc_listing.specs.Errors.{Passes}
use Rattle.dc_engine.specs.Finishing.{Gains, IsAsItWas, ShowsEnd, is_of_finish}
use Rattle.dc_engine.specs.Outcomes.{IfTooLong, is_big_pattern, is_source_fault, is_target_fault}
use Rattle.dc_engine.specs.Preparing.{KeepsSource}
use Rattle.dc_engine.specs.Running.{HasCopied, commits, without}
use Rattle.dc_engine.specs.declared.outcome.Counts.{Counts}
use Rattle.dc_engine.specs.declared.outcome.Outcome.{Outcome}
use Rattle.dc_engine.specs.declared.outcome.Outcome.TheVariants as outcome
use Rattle.dc_engine.specs.declared.outcome.TheConstants.Counts.{NONE}
use Rattle.dc_plain.specs.Left.{AreCountsOf}
use Rattle.dc_output.specs.Output.{lines, status_of}
use Rattle.dc_cli.specs.Drills.{drill_source, drill_target, drill_tree}
use Rattle.dc_cli.specs.Verdict.{is_refused}

-- ---- the output
-- what a sink tells: what it has taken, and its count of faults
pub record Output : Type 0 where
  pub bytes : Option (List ℕ)
  pub faults : ℕ

-- the output of a sink, by the members of its trait
abbrev pub output : {O : Type 0} → sink.Ghosts O → O → Output
output of out = record { bytes = of.bytes out; faults = of.faults out }

-- this text was printed
abbrev pub Prints : List ℕ → Output → Output → Type 0
Prints text before now = now.bytes ≡ option_map (λ old. old ++ text) before.bytes

-- a text is printed, and the exit status is the one beside it; or the output fails, and it is 28
abbrev pub Says : List ℕ × ℕ → ℕ → Output → Output → Type 0
Says line status before now = ((status ≡ line.1) × Prints line.0 before now) ⊎ ((status ≡ 28) × Rose before.faults now.faults)

-- ---- a drill
-- a drill that ends with 0 has printed the counters of its files and directories, and one whose count is refused says so
pub record Drills (seed count status : ℕ) (before now : Output) : Type 0 where
  pub done : status ≡ 0 → (counts : Counts) × AreCountsOf (drill_tree seed count) drill_source drill_target counts × Prints (lines outcome.Committed counts) before now
  pub refused : status ≡ 255 → ((count < 2) ⊎ (200000 < count)) × Prints (codes "distcp: bad drill\n") before now
  pub bad_count : (count < 2) ⊎ (200000 < count) → status ≢ 28 → status ≡ 255
  pub memory : status ≡ 24 → Prints (lines outcome.Memory NONE) before now
  pub known : (status ≡ 0) ⊎ (status ≡ 24) ⊎ (status ≡ 28) ⊎ (status ≡ 255)
  pub unprinted : status ≡ 28 → Rose before.faults now.faults

-- ---- a copy between two folders
-- what is printed of a folder that is not opened, and the exit status
abbrev pub unopened : List ℕ → LocalError → List ℕ × ℕ
unopened folder local_error.NoFolder = (codes "distcp: no folder " ++ folder ++ codes "\n", 27)
unopened folder (local_error.BadCatalogue number) = (codes "distcp: bad catalogue in line " ++ decimal number ++ codes "\n", 27)
unopened folder local_error.Fault = (codes "distcp: fault in " ++ folder ++ codes "\n", 27)
unopened folder local_error.Memory = (codes "distcp: no memory\n", 24)

-- words that are refused end a run by that refusal, and no other words do; a pattern is too big only with a file of patterns
pub record Allows (asked : List (List ℕ)) (ended : Outcome) : Type 0 where
  pub words : (error : OptionError) → ended ≡ outcome.BadOption error → options asked ≡ Err error
  pub due : (error : OptionError) → options asked ≡ Err error → (ended ≡ outcome.BadOption error) ⊎ (ended ≡ outcome.Memory)
  pub filtered : is_big_pattern ended ≡ true → IfOk (options asked) (λ o. is_some o.filters ≡ true)

-- a run that commits leaves the copy that its words define, without what the outcome says; as many files and bytes have landed as it
-- counts, no temporary is left, and the source has not failed
pub record Commits (words : List (List ℕ)) (ended : Outcome) (counts : Counts) (source source_now target target_now : View) : Type 0 where
  pub copied : IsOkAnd (options words) (λ o. BothTrees source.tree target.tree (λ s t.
      HasCopied o s t (without ended) counts source source_now target target_now))
  pub gained : Gains counts target.rest.landed target_now.rest.landed
  pub swept : target_now.rest.scratch ≡ 0
  pub source_still : source_now.faults ≡ source.faults

-- a run that does not commit counts nothing, and leaves no temporary unless the target failed, or failed again. If it is refused, it
-- has changed nothing, and has at most swept.
pub record Stops (ended : Outcome) (counts : Counts) (source source_now target target_now : View) : Type 0 where
  pub uncounted : counts ≡ NONE
  pub source_fault : is_source_fault ended ≡ true → Rose source.faults source_now.faults
  pub left : (target_now.rest ≡ target.rest) ⊎ ((target_now.rest.scratch ≡ 0) ⊎ Rose target.faults target_now.faults)
  pub emptied : is_of_finish ended ≡ true → is_target_fault ended ≡ true →
      (target_now.rest.scratch ≡ 0) ⊎ Rose (raised target.faults) target_now.faults
  pub untouched : is_refused ended ≡ true → IsAsItWas target target_now
  pub unchanged : is_refused ended ≡ true → SweepStops target.rest target_now.rest

-- what a run keeps of both stores, however it ends
pub record Keeps (source source_now target target_now : View) : Type 0 where
  pub kept : KeepsSource source source_now
  pub desks : target_now.rest.desks_out ≡ target.rest.desks_out
  pub later : target.faults ≤ target_now.faults
  pub calm : steady_at target_now.steady target_now.faults ≡ steady_at target.steady target.faults

-- a run over two stores: its outcome, which its words allow, decides what is printed and the exit status, and what counts show. Words
-- that are refused leave the target as it was.
pub record Runs (words : List (List ℕ)) (exit : ℕ) (source source_now target target_now : View) (before now : Output) : Type 0 where
  pub ended : Outcome
  pub counts : Counts
  pub printed : Bool
  pub allowed : Allows words ended
  pub unasked : (error : OptionError) → options words ≡ Err error → target_now ≡ target
  pub committed : commits ended ≡ true → Commits words ended counts source source_now target target_now
  pub stopped : commits ended ≡ false → Stops ended counts source source_now target target_now
  pub keeps : Keeps source source_now target target_now
  pub shows : IfOk (options words) (λ o. ShowsEnd o ended source source_now target target_now)
  pub too_long : IfTooLong ended Passes
  pub status : exit ≡ status_of ended printed
  pub lines : printed ≡ true → Prints (lines ended counts) before now
  pub unprinted : printed ≡ false → Rose before.faults now.faults

-- a copy between two folders: the first that is not opened is named, or the run over the two stores that were opened has ended
abbrev pub Copies : (S T : Type 0) → store.Ghosts S → store.Ghosts T → (Result S LocalError → Type 0) → (Result T LocalError → Type 0) → List ℕ → List ℕ → List (List ℕ) → ℕ → Output → Output → Type 0
Copies S T of_source of_target OpensSource OpensTarget from to words status before now =
    ((error : LocalError) × OpensSource (Err error) × Says (unopened from error) status before now)
    ⊎ ((source : S) × (error : LocalError) × OpensSource (Ok source) × OpensTarget (Err error) × Says (unopened to error) status before now)
    ⊎ ((source : S) × (source_now : S) × (target : T) × (target_now : T) × OpensSource (Ok source) × OpensTarget (Ok target)
    × Runs words status (view of_source source) (view of_source source_now) (view of_target target) (view of_target target_now) before now)
