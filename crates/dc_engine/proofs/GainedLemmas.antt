-- What has landed of a commit has as many files and bytes as are counted, whatever is told.
use Rattle.std.proofs.Common.{◌≡◌, ℕ, ◌+◌, Bool, true, List, ◌++◌, map, filter, length, sum_by, Option, Result, Ok, Err, IfOk, OnOk, sym, ◌∙◌, ap, subst}
use Rattle.std.proofs.lemmas.List.{length-map}
use Rattle.std.proofs.lemmas.List.Folds.{fold-map}
use Rattle.std.specs.List.{All, list_all}
use Rattle.dc_path.specs.Paths.{Names}
use Rattle.dc_attrs.specs.Trees.{Tree}
use Rattle.dc_fs.specs.Rest.{Rest}
use Rattle.dc_fs.specs.Views.{View}
use Rattle.dc_fs.specs.declared.target.Landed.{Landed}
use Rattle.dc_options.specs.Settings.{Settings}
use Rattle.dc_decide.specs.Plans.{Decisions}
use Rattle.dc_pieces.specs.Cutting.{plan_pieces}
use Rattle.dc_pieces.specs.declared.piece.Piece.{Piece}
use Rattle.dc_commit.specs.Landing.{Landing, is_landing, is_ready, landed_of, landing_of}
use Rattle.dc_commit.specs.declared.landing.Ready.{Ready}
use Rattle.dc_crew.specs.Jobs.{job_of}
use Rattle.dc_crew.specs.Slots.{KeepsTarget}
use Rattle.dc_ready.specs.Laws.{IsKept, copied_bytes, size_with}
use Rattle.dc_ready.proofs.Lawful.{joined_sized}
use Rattle.dc_engine.specs.Committing.{HasCommitted, landings_of, task_of}
use Rattle.dc_engine.specs.Copying.{AreCopied}
use Rattle.dc_engine.specs.Counting.{bytes_copied_of, copied_of}
use Rattle.dc_engine.specs.Finishing.{Gains, IsRunOf}
use Rattle.dc_engine.specs.declared.outcome.Outcome.{Outcome}
use Rattle.dc_engine.specs.declared.outcome.Run.{Run}

-- a sum over a list is that of the numbers
as_numbers : {A : Type 0} (f : A → ℕ) (xs : List A) → sum_by f xs ≡ sum_by (λ (n : ℕ). n) (map f xs)
as_numbers f xs = sym (fold-map (λ (sum n : ℕ). sum + n) f 0 xs)

module _ {P : Type 0} (content : P → Option (List ℕ)) (size : P → ℕ) (plan : Decisions) (files : List (Ready P)) (sized : map (size_with size) files ≡ map copied_bytes (filter is_landing plan.items)) where
  -- what is recorded of the files
  abbrev records : List Landed
  records = map landed_of (landings_of content size plan files)

  many : length records ≡ copied_of plan.items
  many =
      length-map (landings_of content size plan files) landed_of ∙ length-map files (landing_of content size plan) ∙ sym (length-map files (size_with size))
      ∙ ap length sized ∙ length-map (filter is_landing plan.items) copied_bytes

  bytes : sum_by (λ (one : Landed). one.bytes) records ≡ bytes_copied_of plan.items
  bytes =
      fold-map (λ (sum : ℕ) (one : Landed). sum + one.bytes) landed_of 0 (landings_of content size plan files)
      ∙ fold-map (λ (sum : ℕ) (landing : Landing). sum + landing.bytes) (landing_of content size plan) 0 files
      ∙ as_numbers (size_with size) files
      ∙ ap (sum_by (λ (n : ℕ). n)) sized
      ∙ sym (as_numbers copied_bytes (filter is_landing plan.items))

-- ---- what is ready is committed
pub carried_gained : {P : Type 0} (content : P → Option (List ℕ)) (size : P → ℕ) (o : Settings) (old new : Decisions) (paths : List Names) (files : List (Ready P)) → All IsKept old.items → list_all (is_ready new) files ≡ true
    → (older ready newer : View) → KeepsTarget older ready → (from : Option Tree) (tells : Bool) (pieces : List Piece) → pieces ≡ plan_pieces o.blocks old
    → AreCopied (job_of from tells old.items pieces) content size old new files → (r : Result Run Outcome) → IfOk r (IsRunOf new)
    → OnOk r (HasCommitted (task_of content size o o.target new files paths) ready newer) → IfOk r (λ run. Gains run.counts older.rest.landed newer.rest.landed)
carried_gained content size o old new paths files kept all_ready older ready newer keeps from tells pieces cut copied (Ok run) answer done =
    let so : AreCopied (job_of from tells old.items (plan_pieces o.blocks old)) content size old new files = subst (λ (ps : List Piece). AreCopied (job_of from tells old.items ps) content size old new files) cut copied in
    let sized = joined_sized content size from tells o.blocks old new so.parts so.given_up files
    (record { kept = kept; right = so.right; once = so.once; left = so.left; joined = so.joined; ready = all_ready }) in
    record {
      more = records content size new files sized;
      landed = ap (λ (r : Rest). r.landed) done.rest ∙ ap (λ (xs : List Landed). xs ++ records content size new files sized) keeps.landed;
      files = many content size new files sized ∙ sym answer.copied;
      bytes = bytes content size new files sized ∙ sym answer.bytes_copied;
    }
carried_gained content size o old new paths files kept all_ready older ready newer keeps from tells pieces cut copied (Err e) answer done = tt
