-- What words that are no options leave, and what a run says of words.
use Rattle.std.proofs.Common.{◌≡◌, ◌≢◌, ◌∙◌, ◌⊎◌, inl, inr, ℕ, Bool, true, false, ◌||◌, List, Option, None, Some, IsSomeAnd, Result, Ok, Err, IfOk, ◌++◌, refl, sym, subst, ap, ◌+◌, ◌<◌, ◌^◌, ◌≤◌, arith}
use Rattle.dc_path.specs.Paths.{Names}
use Rattle.dc_attrs.specs.Trees.{Tree}
use Rattle.dc_fs.specs.Causes.{IsSteady, steady_at}
use Rattle.dc_fs.specs.Rest.{Rest, SweepStops}
use Rattle.dc_fs.specs.Views.{BothTrees, View}
use Rattle.dc_options.specs.Reading.{options}
use Rattle.dc_options.specs.Settings.{Settings}
use Rattle.dc_options.specs.declared.errors.OptionError.{OptionError}
use Rattle.dc_options.specs.declared.errors.OptionError.TheVariants as option
use Rattle.dc_commit.specs.Moving.{RoseBy}
use Rattle.dc_engine.specs.Copying.{IfCopyFailed}
use Rattle.dc_engine.specs.Finishing.{HasEnded, IsSure, ShowsEnd, is_of_finish}
use Rattle.dc_engine.specs.Outcomes.{is_decided, is_source_fault, is_target_fault}
use Rattle.dc_engine.specs.Running.{HasNotBegun, IsRefused, IsStopped, commits, is_unknown}
use Rattle.dc_engine.specs.declared.outcome.Outcome.{Outcome}
use Rattle.dc_engine.specs.declared.outcome.Outcome.TheVariants as outcome
use Rattle.dc_engine.specs.declared.outcome.Run.{Run}
use Rattle.dc_engine.proofs.ToldPlans.{told_so}
use Rattle.dc_cli.specs.Verdict.{DecidesBy, IsVerdict, Settles, SettlesBy, is_refused, is_verdict, outcome_of_words}

-- ---- words that are no options
-- memory ran out, or the outcome tells why they are none
abbrev pub EndsWords : OptionError → Type 0
EndsWords found = (outcome_of_words found ≡ outcome.Memory) ⊎ ((found ≢ option.Memory) × (outcome_of_words found ≡ outcome.BadOption found))

by_words : (found : OptionError) → EndsWords found
by_words (option.UnknownOption word) = inr ((λ e. cc), refl)
by_words (option.Repeated word) = inr ((λ e. cc), refl)
by_words (option.NeedsValue word) = inr ((λ e. cc), refl)
by_words (option.BadNumber word) = inr ((λ e. cc), refl)
by_words (option.BadLetter place) = inr ((λ e. cc), refl)
by_words option.BadStrategy = inr ((λ e. cc), refl)
by_words (option.BadSnapshot word) = inr ((λ e. cc), refl)
by_words (option.BadPath text) = inr ((λ e. cc), refl)
by_words option.UpdateOverwrite = inr ((λ e. cc), refl)
by_words option.UpdateAtomic = inr ((λ e. cc), refl)
by_words option.OverwriteAtomic = inr ((λ e. cc), refl)
by_words option.DeleteAlone = inr ((λ e. cc), refl)
by_words option.AppendAlone = inr ((λ e. cc), refl)
by_words option.AppendSkipCrc = inr ((λ e. cc), refl)
by_words option.DiffAlone = inr ((λ e. cc), refl)
by_words option.RdiffAlone = inr ((λ e. cc), refl)
by_words option.DiffRdiff = inr ((λ e. cc), refl)
by_words option.DiffDelete = inr ((λ e. cc), refl)
by_words option.TmpAlone = inr ((λ e. cc), refl)
by_words option.DiffFilters = inr ((λ e. cc), refl)
by_words option.DiffFiles = inr ((λ e. cc), refl)
by_words option.FilesWithSources = inr ((λ e. cc), refl)
by_words option.NoPaths = inr ((λ e. cc), refl)
by_words option.OneSource = inr ((λ e. cc), refl)
by_words option.Memory = inl refl

same_word : (r : Result Settings OptionError) (a b : OptionError) → r ≡ Err a → r ≡ Err b → outcome.BadOption a ≡ outcome.BadOption b
same_word r a b h e = cc

-- where words are refused, the outcome tells why, or memory ran out
pub due_words : (r : Result Settings OptionError) (found : OptionError) (e : Outcome) → e ≡ outcome_of_words found → (found ≢ option.Memory → r ≡ Err found) → (error : OptionError) → r ≡ Err error → (e ≡ outcome.BadOption error) ⊎ (e ≡ outcome.Memory)
due_words r found e q h error w = by (by_words found)
  where
    by : EndsWords found → (e ≡ outcome.BadOption error) ⊎ (e ≡ outcome.Memory)
    by (inl m) = inr (q ∙ m)
    by (inr p) = inl (q ∙ p.1 ∙ same_word r found error (h p.0) w)

all_ok : (r : Result Settings OptionError) (Q : Settings → Type 0) → ((o : Settings) → Q o) → IfOk r Q
all_ok (Ok o) Q f = f o
all_ok (Err e) Q f = tt

-- what holds of every option where memory ran out holds of what refused words ask for
if_words : (r : Result Settings OptionError) (P : Settings → Outcome → Type 0) (found : OptionError) (e : Outcome) → e ≡ outcome_of_words found → (found ≢ option.Memory → r ≡ Err found) → ((o : Settings) → P o outcome.Memory) → IfOk r (λ o. P o e)
if_words r P found e q h m = by (by_words found)
  where
    by : EndsWords found → IfOk r (λ o. P o e)
    by (inl k) = all_ok r (λ o. P o e) (λ o. subst (P o) (sym (q ∙ k)) (m o))
    by (inr p) = subst (λ (x : Result Settings OptionError). IfOk x (λ o. P o e)) (sym (h p.0)) tt

not_begun : (v : View) → HasNotBegun outcome.Memory v v
not_begun v = record { tree = refl; landed = refl; told = tt }

apart : (b : Bool) → b ≡ false → b ≡ true → ⊥
apart true e f = cc
apart false e f = cc

-- a run that has not begun has stopped
stop_at : (o : Settings) (s t : Tree) (e : Outcome) (v : View) → is_unknown e ≡ false → HasNotBegun e v v → v.tree ≡ Some t → IsStopped o s t e v v
stop_at o s t e v n h q = record {
  early = λ _. inl h;
  unknown = λ u. absurd (apart (is_unknown e) n u);
  spared = λ _ _. subst (λ (k : Option Tree). IsSomeAnd k (λ now. (rest : Names) → now (o.target ++ rest) ≡ t (o.target ++ rest))) (sym q) (λ rest. refl);
}

unbegun : (source : Option Tree) (v : View) (o : Settings) (e : Outcome) → is_unknown e ≡ false → HasNotBegun e v v → (to : Option Tree) → v.tree ≡ to → BothTrees source to (λ s t. IsStopped o s t e v v)
unbegun None v o e n h to q = tt
unbegun (Some s) v o e n h None q = λ w. tt
unbegun (Some s) v o e n h (Some t) q = λ w x. stop_at o s t e v n h q

pub stopped_words : (r : Result Settings OptionError) (found : OptionError) (e : Outcome) (source : Option Tree) (v : View) → e ≡ outcome_of_words found → (found ≢ option.Memory → r ≡ Err found) → IfOk r (λ o. BothTrees source v.tree (λ s t. IsStopped o s t e v v))
stopped_words r found e source v q h = if_words r (λ o k. BothTrees source v.tree (λ s t. IsStopped o s t k v v)) found e q h (λ o. unbegun source v o outcome.Memory refl (not_begun v) v.tree refl)

-- ---- a run of options
pub or_else : (a b : Bool) → a || b ≡ true → a ≡ false → b ≡ true
or_else true b e n = cc
or_else false b e n = e

pub verdict_told : (source target : Option Tree) (words : List (List ℕ)) (o : Settings) (run : Run) (a b c d : View) → options words ≡ Ok o → BothTrees source target (λ s t. HasEnded o s t run a b c d) →
    (is_decided run.outcome ≡ true → commits run.outcome ≡ false → BothTrees source target (λ s t. IsRefused o s t run.outcome)) → is_verdict run.outcome ≡ true → BothTrees source target (λ s t. IsVerdict words s t run.outcome)
verdict_told None target words o run a b c d q h r v = tt
verdict_told (Some s) None words o run a b c d q h r v = λ w. tt
verdict_told (Some s) (Some t) words o run a b c d q h r v = λ w x.
    let ended : HasEnded o s t run a b c d = h w x in
    subst (λ (k : Result Settings OptionError). DecidesBy k s t run.outcome) (sym q) (record {
      allowed = λ m. let copied = ended.copied m in record { entries = copied.entries; job = copied.job; copy = copied.copy; out = copied.out };
      refused = λ m. r (or_else (commits run.outcome) (is_decided run.outcome) v m) m w x;
    })

-- what a run that stops leaves is told of what the words ask for
pub stopped_told : (source target : Option Tree) (words : List (List ℕ)) (o : Settings) (run : Run) (a b c d : View) → options words ≡ Ok o → BothTrees source target (λ s t. HasEnded o s t run a b c d) → commits run.outcome ≡ false →
    IfOk (options words) (λ o. BothTrees source target (λ s t. IsStopped o s t run.outcome c d))
stopped_told source target words o run a b c d q h m =
    subst (λ (k : Result Settings OptionError). IfOk k (λ (o : Settings). BothTrees source target (λ s t. IsStopped o s t run.outcome c d))) (sym q)
    (told_so source target (λ s t. HasEnded o s t run a b c d) (λ s t. IsStopped o s t run.outcome c d) (λ s t ended. ended.stopped m) h)

-- ---- what neither fails nor denies what it showed
no_flip : true ≡ false → ⊥
no_flip e = cc

settled_by : (r : Result Settings OptionError) (s t : Tree) (e : Outcome) → (is_source_fault e ≡ true → ⊥) → (is_target_fault e ≡ true → ⊥) → IsSure e → IfCopyFailed e (λ path. ⊥) → (is_unknown e ≡ true → ⊥) →
    (is_verdict e ≡ true → DecidesBy r s t e) → SettlesBy r s t e
settled_by r s t outcome.Committed n m d c u v = inl (refl, v refl)
settled_by r s t (outcome.CommittedWithout paths) n m d c u v = inl (refl, v refl)
settled_by r s t (outcome.BadOption error) n m d c u v = inl (refl, v refl)
settled_by r s t (outcome.NoFile path) n m d c u v = inl (refl, v refl)
settled_by r s t (outcome.TooBig path) n m d c u v = inl (refl, v refl)
settled_by r s t (outcome.BadList line) n m d c u v = inl (refl, v refl)
settled_by r s t (outcome.BadPattern line) n m d c u v = inl (refl, v refl)
settled_by r s t (outcome.BigPattern line) n m d c u v = inr (inr refl)
settled_by r s t (outcome.BadPlan line) n m d c u v = inl (refl, v refl)
settled_by r s t (outcome.BadReport line) n m d c u v = inl (refl, v refl)
settled_by r s t (outcome.NoReport path) n m d c u v = inl (refl, v refl)
settled_by r s t (outcome.NoSource path) n m d c u v = inl (refl, v refl)
settled_by r s t (outcome.BadTarget kind) n m d c u v = inl (refl, v refl)
settled_by r s t (outcome.Duplicate rel first second) n m d c u v = inl (refl, v refl)
settled_by r s t (outcome.TooMany what) n m d c u v = inl (refl, v refl)
settled_by r s t (outcome.TooLong parent name) n m d c u v = inl (refl, v refl)
settled_by r s t (outcome.Clash path) n m d c u v = inl (refl, v refl)
settled_by r s t (outcome.NotAtBegin path) n m d c u v = inl (refl, v refl)
settled_by r s t (outcome.StageExists path) n m d c u v = inl (refl, v refl)
settled_by r s t (outcome.ReportFalse path) n m d c u v = inl (refl, v refl)
settled_by r s t (outcome.WorkExists path) n m d c u v = inl (refl, v refl)
settled_by r s t outcome.SourceFault n m d c u v = absurd (n refl)
settled_by r s t (outcome.TargetFault phase done) n m d c u v = absurd (m refl)
settled_by r s t (outcome.CopyFailed path) n m d c u v = absurd c
settled_by r s t (outcome.Differs path expected found) n m d c u v = absurd (d.same)
settled_by r s t (outcome.Changed path) n m d c u v = absurd (no_flip d.shown)
settled_by r s t (outcome.Uncertain path) n m d c u v = absurd (u refl)
settled_by r s t outcome.Memory n m d c u v = inr (inl refl)
settled_by r s t outcome.Unbuilt n m d c u v = inl (refl, v refl)

same_count : (b : Bool) (before now : ℕ) → steady_at b now ≡ Some before → now ≡ before
same_count true before now e = cc
same_count false before now e = cc

steady_still : (old new : Bool) (before now : ℕ) → steady_at new now ≡ steady_at old before → IsSteady old before → now ≡ before
steady_still old new before now e s = same_count new before now (e ∙ ap (λ (b : Bool). steady_at b before) s.test)

not_four : (before now : ℕ) → before + 1 < 2 ^ 64 → now ≡ before → RoseBy 4 before now → ⊥
not_four before now below k r = omega (arith, below, k, r)

settled_words : (r : Result Settings OptionError) (s t : Tree) (e : Outcome) (a b c d : View) → (is_source_fault e ≡ true → ⊥) → (is_target_fault e ≡ true → ⊥) → IsSure e → IfOk r (λ o. ShowsEnd o e a b c d) →
    ((error : OptionError) → r ≡ Err error → (e ≡ outcome.BadOption error) ⊎ (e ≡ outcome.Memory)) → a.steady ≡ true → IsSteady c.steady c.faults → steady_at d.steady d.faults ≡ steady_at c.steady c.faults →
    (is_verdict e ≡ true → DecidesBy r s t e) → SettlesBy r s t e
settled_words (Ok o) s t e a b c d n m k h w p q f v =
    settled_by (Ok o) s t e n m k (h.unfailed p q.test) (λ u. not_four c.faults d.faults q.below (steady_still c.steady d.steady c.faults d.faults f q) (h.uncertain u).faults) v
settled_words (Err error) s t e a b c d n m k h w p q f v = by (w error refl)
  where
    by : (e ≡ outcome.BadOption error) ⊎ (e ≡ outcome.Memory) → SettlesBy (Err error) s t e
    by (inl x) = let decided : is_verdict e ≡ true = subst (λ (y : Outcome). is_verdict y ≡ true) (sym x) refl in inl (decided, v decided)
    by (inr x) = inr (inl x)

pub settled_told : (source target : Option Tree) (words : List (List ℕ)) (e : Outcome) (a b c d : View) → (is_source_fault e ≡ true → ⊥) → (is_target_fault e ≡ true → ⊥) → BothTrees source target (λ s t. IsSure e) →
    IfOk (options words) (λ o. ShowsEnd o e a b c d) → ((error : OptionError) → options words ≡ Err error → (e ≡ outcome.BadOption error) ⊎ (e ≡ outcome.Memory)) →
    a.steady ≡ true → IsSteady c.steady c.faults → steady_at d.steady d.faults ≡ steady_at c.steady c.faults → (is_verdict e ≡ true → BothTrees source target (λ s t. IsVerdict words s t e)) → BothTrees source target (λ s t. Settles words s t e)
settled_told None target words e a b c d n m k h w p q f v = tt
settled_told (Some s) None words e a b c d n m k h w p q f v = λ x. tt
settled_told (Some s) (Some t) words e a b c d n m k h w p q f v = λ x y. settled_words (options words) s t e a b c d n m (k x y) h w p q f (λ z. v z x y)

-- ---- refusals
-- what is refused comes before anything is copied
pub refused_early : (e : Outcome) → is_refused e ≡ true → is_of_finish e ≡ false
refused_early outcome.Committed h = cc
refused_early (outcome.CommittedWithout paths) h = cc
refused_early (outcome.BadOption error) h = refl
refused_early (outcome.NoFile path) h = refl
refused_early (outcome.TooBig path) h = refl
refused_early (outcome.BadList line) h = refl
refused_early (outcome.BadPattern line) h = refl
refused_early (outcome.BigPattern line) h = cc
refused_early (outcome.BadPlan line) h = refl
refused_early (outcome.BadReport line) h = refl
refused_early (outcome.NoReport path) h = refl
refused_early (outcome.NoSource path) h = refl
refused_early (outcome.BadTarget kind) h = refl
refused_early (outcome.Duplicate rel first second) h = refl
refused_early (outcome.TooMany what) h = refl
refused_early (outcome.TooLong parent name) h = refl
refused_early (outcome.Clash path) h = refl
refused_early (outcome.NotAtBegin path) h = refl
refused_early (outcome.StageExists path) h = refl
refused_early (outcome.ReportFalse path) h = refl
refused_early (outcome.WorkExists path) h = refl
refused_early outcome.SourceFault h = cc
refused_early (outcome.TargetFault phase done) h = cc
refused_early (outcome.CopyFailed path) h = cc
refused_early (outcome.Differs path expected found) h = cc
refused_early (outcome.Changed path) h = cc
refused_early (outcome.Uncertain path) h = cc
refused_early outcome.Memory h = cc
refused_early outcome.Unbuilt h = refl

-- a sweep that stops at once leaves all
pub unswept : (r : Rest) → SweepStops r r
unswept r =
    let all : r.scratch ≤ r.scratch = omega (arith) in
    (r.scratch, all, refl)
