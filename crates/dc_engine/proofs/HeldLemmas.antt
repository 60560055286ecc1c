-- What a run shows and tells where nothing is settled, and what it may not answer behind that.
use Rattle.std.proofs.Common.{◌≡◌, ◌⊎◌, inl, inr, ℕ, ◌+◌, ◌-◌, ◌^◌, ◌≤◌, Bool, true, false, ◌&&◌, ◌||◌, List, [], length, map, count_by, Option, Some, None, IfSome, Result, Ok, Err, refl, sym, ◌∙◌, ap, subst, arith}
use Rattle.std.proofs.Math.Nat.{min-le_left}
use Rattle.std.proofs.lemmas.Bool.{false_from_ne_true}
use Rattle.dc_path.specs.Order.{is_ascending}
use Rattle.dc_path.specs.Paths.{Names}
use Rattle.dc_attrs.specs.Trees.{Tree}
use Rattle.dc_fs.specs.Causes.{Rose, counted}
use Rattle.dc_fs.specs.Rest.{Rest, SweepStops}
use Rattle.dc_fs.specs.Views.{BothTrees, OnlyLooks, View}
use Rattle.dc_kills.specs.Entries as kill
use Rattle.dc_options.specs.Settings.{Settings}
use Rattle.dc_listing.specs.Entries.{Entry, rel_of}
use Rattle.dc_listing.specs.Errors.{Passes}
use Rattle.dc_decide.specs.Plans.{Decisions}
use Rattle.dc_pieces.specs.Cutting.{plan_pieces}
use Rattle.dc_pieces.specs.Pieces.{most_pieces}
use Rattle.dc_pieces.specs.declared.piece.Piece.{Piece}
use Rattle.dc_crew.specs.Advances.{is_reached_entry}
use Rattle.dc_crew.specs.Slots.{StandStill, but_forks}
use Rattle.dc_engine.specs.Copying.{IfCopyFailed, IfDiffers, IsToWrite}
use Rattle.dc_engine.specs.Finishing.{HasCreated, HasEnded, IsSure, RenamesIn, ShowsEnd, is_behind_sweep, is_move, is_of_finish, is_of_look}
use Rattle.dc_engine.specs.Inputs.{KillsAre}
use Rattle.dc_engine.specs.Outcomes.{IfTooLong, is_big_pattern, is_changed, is_decided, is_of_survey, is_source_fault, is_target_fault, is_unbuilt}
use Rattle.dc_engine.specs.Preparing.{AreWaves, IsHeldBack}
use Rattle.dc_engine.specs.Running.{IfTargetFault, IsPrepared, IsStopped, IsToCopy, commits, is_look, is_unknown}
use Rattle.dc_engine.specs.Settling.{AreDeletes, EndsFirst, HasWalked, IsPlanned, MayDeny, is_of_settle}
use Rattle.dc_engine.specs.Surveys.{IsSurveyed, SurveyAnswers, asks_report}
use Rattle.dc_engine.specs.Sweeping.{LooksOrSweeps}
use Rattle.dc_engine.specs.Targets.{base_of}
use Rattle.dc_engine.specs.declared.outcome.Outcome.{Outcome}
use Rattle.dc_engine.specs.declared.outcome.Outcome.TheVariants as outcome
use Rattle.dc_engine.specs.declared.outcome.Phase.{Phase}
use Rattle.dc_engine.specs.declared.outcome.Phase.TheVariants as phase_of
use Rattle.dc_engine.specs.declared.outcome.Run.{Run}
use Rattle.dc_engine.proofs.RunEnds.{IsEarly, looked_in, not_begun_stopped}
use Rattle.dc_engine.proofs.RunLemmas.{prepared_told}
use Rattle.dc_engine.proofs.RunRefusals.{refused_first_told, refused_later_told}
use Rattle.dc_engine.proofs.RunShown.{settle_sure, to_write_is}
use Rattle.dc_engine.proofs.ToldPlans.{told_so}

-- ---- how a run may end before anything is copied
-- it does not commit, no file has failed, and no digests differ
pub record IsOfLook (e : Outcome) : Type 1 where
  pub early : IsEarly e
  pub unfailed : (P : Names → Type 0) → IfCopyFailed e P
  pub same : (P : Names → List ℕ → List ℕ → Type 0) → IfDiffers e P

pub look_is : (e : Outcome) → is_of_look e ≡ true → IsOfLook e
look_is outcome.Committed h = absurd (cc)
look_is (outcome.CommittedWithout paths) h = absurd (cc)
look_is (outcome.CopyFailed path) h = absurd (cc)
look_is (outcome.Differs path expected found) h = absurd (cc)
look_is (outcome.Uncertain path) h = absurd (cc)
look_is e h = record { early = record { known = refl; stops = refl }; unfailed = λ P. tt; same = λ P. tt }

-- and from what is settled on
pub record IsOfFinish (e : Outcome) : Type 1 where
  pub source : is_source_fault e ≡ false
  pub big : is_big_pattern e ≡ false
  pub built : is_unbuilt e ≡ false
  pub short : (P : Names → List ℕ → Type 0) → IfTooLong e P
  pub decided : is_decided e ≡ true → commits e ≡ true

pub finish_is : (e : Outcome) → is_of_finish e ≡ true → IsOfFinish e
finish_is (outcome.BadOption error) h = absurd (cc)
finish_is (outcome.NoFile path) h = absurd (cc)
finish_is (outcome.TooBig path) h = absurd (cc)
finish_is (outcome.BadList line) h = absurd (cc)
finish_is (outcome.BadPattern line) h = absurd (cc)
finish_is (outcome.BigPattern line) h = absurd (cc)
finish_is (outcome.BadPlan line) h = absurd (cc)
finish_is (outcome.BadReport line) h = absurd (cc)
finish_is (outcome.NoReport path) h = absurd (cc)
finish_is (outcome.NoSource path) h = absurd (cc)
finish_is (outcome.BadTarget kind) h = absurd (cc)
finish_is (outcome.Duplicate rel one other) h = absurd (cc)
finish_is (outcome.TooMany what) h = absurd (cc)
finish_is (outcome.TooLong parent name) h = absurd (cc)
finish_is (outcome.Clash path) h = absurd (cc)
finish_is (outcome.NotAtBegin path) h = absurd (cc)
finish_is (outcome.StageExists path) h = absurd (cc)
finish_is (outcome.ReportFalse path) h = absurd (cc)
finish_is (outcome.WorkExists path) h = absurd (cc)
finish_is outcome.SourceFault h = absurd (cc)
finish_is outcome.Unbuilt h = absurd (cc)
finish_is outcome.Committed h = record { source = refl; big = refl; built = refl; short = λ P. tt; decided = λ d. refl }
finish_is e h = record { source = refl; big = refl; built = refl; short = λ P. tt; decided = λ d. let no : true ≡ false = sym d in absurd (cc) }

-- ---- what every store shows then
-- a fact of a phase in which the target was only looked at
fault_at : (e : Outcome) (P : Phase → ℕ → Type 0) → ((phase : Phase) (done : ℕ) → is_look phase ≡ true → P phase done) → IfTargetFault e (λ phase done. (is_look phase ≡ true) × (done ≡ 0)) → IfTargetFault e P
fault_at (outcome.TargetFault phase done) P f h = f phase done h.0
fault_at e P f h = tt

look_moves_none : (phase : Phase) → is_look phase ≡ true → is_move phase ≡ false
look_moves_none phase_of.Move h = absurd (cc)
look_moves_none phase h = refl

look_is_before : (phase : Phase) → is_look phase ≡ true → is_behind_sweep phase ≡ false
look_is_before phase_of.FileAttrs h = absurd (cc)
look_is_before phase_of.Delete h = absurd (cc)
look_is_before phase_of.DirAttrs h = absurd (cc)
look_is_before phase_of.Move h = absurd (cc)
look_is_before phase h = refl

pub held_shows : (o : Settings) (e : Outcome) (source source_now target target_now : View) → IsHeldBack o e source source_now target target_now → ShowsEnd o e source source_now target target_now
held_shows o e source source_now target target_now h =
    let is = look_is e h.kind in
    let uncommitted : (commits e ≡ true → false ≡ true) = λ c. sym is.early.stops ∙ c in
    record {
      some = λ k. let no : false ≡ true = uncommitted (ap commits k) in absurd (cc);
      allowed = λ _ c. let no : false ≡ true = uncommitted c in absurd (cc);
      swept = λ c. let no : false ≡ true = uncommitted c in absurd (cc);
      cause = h.target_cause;
      renames = fault_at e (λ phase done. RenamesIn phase target target_now) (λ phase done look. record {
        moving = λ m. let no : false ≡ true = sym (look_moves_none phase look) ∙ m in absurd (cc);
        before = λ _. h.as_it_was.renames;
      }) h.looked;
      emptied = fault_at e (λ phase done. is_behind_sweep phase ≡ true → target_now.rest.scratch ≡ 0)
          (λ phase done look b. let no : false ≡ true = sym (look_is_before phase look) ∙ b in absurd (cc)) h.looked;
      uncertain = λ u. let no : false ≡ true = sym is.early.known ∙ u in absurd (cc);
      given_up = is.unfailed (λ path. o.ignore ≡ false);
      four = is.unfailed _;
      unfailed = λ _ _. is.unfailed (λ path. ⊥);
      differ = is.same _;
      early = λ _. h.as_it_was;
    }

-- ---- what is told then
pub held_told : (from to : Option Tree) (o : Settings) (e : Outcome) (run : Run) (source source_now target target_now : View) → target.tree ≡ to → run.outcome ≡ e → IsHeldBack o e source source_now target target_now
    → (is_changed e ≡ true → BothTrees from to (λ s t. ⊥)) → BothTrees from to (λ s t. HasEnded o s t run source source_now target target_now)
held_told None to o e run source source_now target target_now told is h shown = tt
held_told (Some s) None o e run source source_now target target_now told is h shown = λ v. tt
held_told (Some s) (Some t) o e run source source_now target target_now told is h shown = λ v w.
    let l = look_is e h.kind in
    record {
      copied = λ c. let no : false ≡ true = sym l.early.stops ∙ ap commits (sym is) ∙ c in absurd (cc);
      stopped = λ _. subst (λ (x : Outcome). IsStopped o s t x target target_now) (sym is)
          (not_begun_stopped o s t e target target_now (record { tree = h.as_it_was.tree; landed = h.as_it_was.landed; told = h.looked }) l.early.known told);
      sure = subst IsSure (sym is) (record { shown = false_from_ne_true (is_changed e) (λ c. shown c v w); same = l.same _ });
    }

-- no file has failed
pub held_named : (from to : Option Tree) (o : Settings) (e : Outcome) → is_of_look e ≡ true → BothTrees from to (λ s t. IfCopyFailed e (IsToCopy o s t))
held_named None to o e h = tt
held_named (Some s) None o e h = λ v. tt
held_named (Some s) (Some t) o e h = λ v w. (look_is e h).unfailed (IsToCopy o s t)

-- ---- what is told of what is settled
module _ (A : Tree → Tree → List Entry → Type 0) (B : Tree → Tree → Type 0) where
  -- what holds of all entries between which all is settled
  pub told_of : (from to : Option Tree) → BothTrees from to (λ s t. (entries : List Entry) → A s t entries → B s t) → BothTrees from to (λ s t. (entries : List Entry) × A s t entries) → BothTrees from to B
  told_of None to f h = tt
  told_of (Some s) None f h = λ v. tt
  told_of (Some s) (Some t) f h = λ v w. let p = h v w in f v w p.0 p.1

-- a file that failed was to be copied
failed_at : (e : Outcome) (P Q : Names → Type 0) → ((path : Names) → P path → Q path) → IfCopyFailed e P → IfCopyFailed e Q
failed_at (outcome.CopyFailed path) P Q f h = f path h
failed_at e P Q f h = tt

pub finish_named : (from to : Option Tree) (o : Settings) (plan : Decisions) (paths : List Names) (e : Outcome) → IfCopyFailed e (IsToWrite plan) → BothTrees from to (λ s t. (entries : List Entry) × IsPrepared o s t entries plan paths)
    → BothTrees from to (λ s t. IfCopyFailed e (IsToCopy o s t))
finish_named None to o plan paths e h p = tt
finish_named (Some s) None o plan paths e h p = λ v. tt
finish_named (Some s) (Some t) o plan paths e h p = λ v w.
    let q = p v w in
    failed_at e (IsToWrite plan) (IsToCopy o s t) (λ path k. to_write_is o s t q.0 plan paths q.1 v w path k) h

-- ---- why nothing is settled
either : (b : Bool) → b || true ≡ true
either true = refl
either false = refl

forks_keep : (old new : Rest) → new ≡ old → counted old.fork_faults 0 ≤ new.fork_faults
forks_keep old new same = subst (λ (r : Rest). counted old.fork_faults 0 ≤ r.fork_faults) (sym same) (omega (arith, min-le_left (old.fork_faults + 0) (2 ^ 64 - 1)))

settle_built : (e : Outcome) → is_of_settle e ≡ true → is_unbuilt e ≡ false
settle_built outcome.Unbuilt h = absurd (cc)
settle_built e h = refl

-- a survey ends before that
pub survey_held : {X : Type 0} (o : Settings) (e : Outcome) (source source_now target target_now : View) → is_of_survey e ≡ true
    → OnlyLooks {T = X} {E = Outcome} source source_now (Err e) is_source_fault → OnlyLooks {T = X} {E = Outcome} target target_now (Err e) is_target_fault
    → (is_target_fault e ≡ true → e ≡ outcome.TargetFault phase_of.Check 0) → (is_unbuilt e ≡ true → asks_report o.sync ≡ true) → IfTooLong e Passes
    → BothTrees source.tree target.tree (λ s t. SurveyAnswers o s t (Err e)) → (is_changed e ≡ true → BothTrees source.tree target.tree (λ s t. ⊥)) → IsHeldBack o e source source_now target target_now
survey_held o e source source_now target target_now kind from at phase built long answers changed = record {
  kind = ap (λ b. b || is_of_settle e) kind;
  keeps = record { tree = from.tree; rest = ap but_forks from.rest; forks = forks_keep source.rest source_now.rest from.rest; later = from.cause.later; calm = from.calm };
  source_cause = from.cause.rose;
  as_it_was = record { tree = at.tree; landed = ap (λ (r : Rest). r.landed) at.rest; renames = ap (λ (r : Rest). r.rename_faults) at.rest };
  looked = looked_in phase_of.Check e refl phase;
  later = at.cause.later;
  calm = at.calm;
  target_cause = at.cause.rose;
  first = λ _. at.rest;
  cleared = λ c. let no : true ≡ false = sym kind ∙ c in absurd (cc);
  swept = (target.rest.scratch, omega arith, at.rest);
  left = inl at.rest;
  built = built;
  too_long = long;
  refused = refused_first_told source.tree target.tree o e answers;
  shown = changed;
}

-- a settling ends after a survey that only looked
module _ {X : Type 0} (x : X) (o : Settings) (e : Outcome) (source between source_now target amid target_now : View)
    (from : OnlyLooks {T = X} {E = Outcome} source between (Ok x) is_source_fault) (at : OnlyLooks {T = X} {E = Outcome} target amid (Ok x) is_target_fault) where
  since : {A : Type 0} → A ⊎ Rose amid.faults target_now.faults → A ⊎ Rose target.faults target_now.faults
  since (inl h) = inl h
  since (inr h) = inr (subst (λ (n : ℕ). Rose n target_now.faults) at.cause.still h)

  pub settle_held : {Y : Type 0} (base : Names) (entries : List Entry) → is_of_settle e ≡ true → OnlyLooks {T = Y} {E = Outcome} between source_now (Err e) is_source_fault
      → LooksOrSweeps {T = Y} {E = Outcome} amid target_now (Err e) is_target_fault → (target_now.rest.scratch ≡ 0) ⊎ Rose amid.faults target_now.faults
      → (is_target_fault e ≡ true → e ≡ outcome.TargetFault phase_of.Decide 0) → IfTooLong e Passes → base ≡ base_of o → is_ascending (map rel_of entries) ≡ true → BothTrees source.tree target.tree (λ s t. IsSurveyed o s t entries)
      → EndsFirst o base entries between.tree amid.tree e → (is_changed e ≡ true → MayDeny entries between.tree amid.tree) → IsHeldBack o e source source_now target target_now
  settle_held base entries kind then after cleared phase long given ascending survey ends changed = record {
    kind = ap (λ b. is_of_survey e || b) kind ∙ either (is_of_survey e);
    keeps = record {
      tree = then.tree ∙ from.tree;
      rest = ap but_forks (then.rest ∙ from.rest);
      forks = forks_keep source.rest source_now.rest (then.rest ∙ from.rest);
      later = subst (λ (n : ℕ). n ≤ source_now.faults) from.cause.still then.cause.later;
      calm = then.calm ∙ from.calm;
    };
    source_cause = λ f. subst (λ (n : ℕ). Rose n source_now.faults) from.cause.still (then.cause.rose f);
    as_it_was = record {
      tree = after.tree ∙ at.tree;
      landed = ap (λ (r : Rest). r.landed) after.swept.2 ∙ ap (λ (r : Rest). r.landed) at.rest;
      renames = ap (λ (r : Rest). r.rename_faults) after.swept.2 ∙ ap (λ (r : Rest). r.rename_faults) at.rest;
    };
    looked = looked_in phase_of.Decide e refl phase;
    later = subst (λ (n : ℕ). n ≤ target_now.faults) at.cause.still after.cause.later;
    calm = after.calm ∙ at.calm;
    target_cause = λ f. subst (λ (n : ℕ). Rose n target_now.faults) at.cause.still (after.cause.rose f);
    first = λ c. let no : true ≡ false = sym kind ∙ c in absurd (cc);
    cleared = λ _. since cleared;
    swept = subst (λ (r : Rest). SweepStops r target_now.rest) at.rest after.swept;
    left = inr (since cleared);
    built = λ u. let no : true ≡ false = sym u ∙ settle_built e kind in absurd (cc);
    too_long = long;
    refused = refused_later_told source.tree target.tree o base entries e given survey ascending
        (subst (λ (w : Option Tree). EndsFirst o base entries source.tree w e) at.tree (subst (λ (w : Option Tree). EndsFirst o base entries w amid.tree e) from.tree ends));
    shown = λ c. settle_sure source.tree target.tree o entries ascending survey
        (subst (λ (w : Option Tree). MayDeny entries source.tree w) at.tree (subst (λ (w : Option Tree). MayDeny entries w amid.tree) from.tree (changed c)));
  }

-- ---- what is settled
-- between what two stores tell, after a survey that only looked
pub settled_told : {X : Type 0} (x : X) (o : Settings) (source between target amid : View) → OnlyLooks {T = X} {E = Outcome} source between (Ok x) is_source_fault → OnlyLooks {T = X} {E = Outcome} target amid (Ok x) is_target_fault
    → (base : Names) (entries : List Entry) (plan : Decisions) (paths : List Names) → base ≡ base_of o → is_ascending (map rel_of entries) ≡ true → BothTrees source.tree target.tree (λ s t. IsSurveyed o s t entries)
    → IsPlanned o base entries between.tree amid.tree plan → AreDeletes o amid.tree plan paths → HasWalked o amid.tree plan.base → length (plan_pieces o.blocks plan) ≤ most_pieces
    → BothTrees source.tree target.tree (λ s t. (entries : List Entry) × IsPrepared o s t entries plan paths)
settled_told x o source between target amid from at base entries plan paths given ascending survey planned deletes walked few =
    told_so source.tree target.tree (λ s t. IsPrepared o s t entries plan paths) (λ s t. (entries : List Entry) × IsPrepared o s t entries plan paths) (λ s t h. (entries, h))
    (prepared_told source.tree target.tree o base entries plan paths given ascending survey
    (subst (λ (w : Option Tree). IsPlanned o base entries source.tree w plan) at.tree (subst (λ (w : Option Tree). IsPlanned o base entries w amid.tree plan) from.tree planned))
    (subst (λ (w : Option Tree). AreDeletes o w plan paths) at.tree deletes) (subst (λ (w : Option Tree). HasWalked o w plan.base) at.tree walked) few)

-- its waves, where neither forks nor desks have failed
pub waves_told : (from to : Option Tree) (o : Settings) (plan : Decisions) (paths : List Names) (kills : List kill.Entry) (pieces : List Piece) (source between source_now target amid target_now : View) → between ≡ source → amid ≡ target
    → pieces ≡ plan_pieces o.blocks plan → IfSome from (λ s. KillsAre o.kills s kills) → BothTrees from to (λ s t. (entries : List Entry) × IsPrepared o s t entries plan paths)
    → (StandStill between.rest source_now.rest amid.rest target_now.rest → HasCreated amid.rest target_now.rest (length pieces + count_by (is_reached_entry kills pieces o.buffer) kills))
    → StandStill source.rest source_now.rest target.rest target_now.rest → BothTrees from to (λ s t. AreWaves o s t target.rest target_now.rest)
waves_told None to o plan paths kills pieces source between source_now target amid target_now one two cut stops told created still = tt
waves_told (Some s) None o plan paths kills pieces source between source_now target amid target_now one two cut stops told created still = λ v. tt
waves_told (Some s) (Some t) o plan paths kills pieces source between source_now target amid target_now one two cut stops told created still = λ v w.
    let p = told v w in
    let calm = subst (λ (x : View). StandStill x.rest source_now.rest amid.rest target_now.rest) (sym one) (subst (λ (x : View). StandStill source.rest source_now.rest x.rest target_now.rest) (sym two) still) in
    record {
      entries = p.0;
      plan = plan;
      paths = paths;
      prepared = p.1;
      kills = kills;
      stops = stops;
      created = subst (λ (ps : List Piece). HasCreated target.rest target_now.rest (length ps + count_by (is_reached_entry kills ps o.buffer) kills)) cut
          (subst (λ (x : View). HasCreated x.rest target_now.rest (length pieces + count_by (is_reached_entry kills pieces o.buffer) kills)) two (created calm));
    }
