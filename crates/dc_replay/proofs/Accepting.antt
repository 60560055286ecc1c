-- What the answer of the check gives, and that true reports are accepted.
use Rattle.std.proofs.Common.{◌≡◌, inl, inr, None, refl, sym, ◌∙◌}
use Rattle.dc_attrs.specs.Trees.{at}
use Rattle.dc_path.specs.Paths.{Names}
use Rattle.dc_report.specs.declared.entries.Entry.TheVariants.{Created, Deleted, Renamed}
use Rattle.dc_report.proofs.ToldApart.{told_apart}
use Rattle.dc_replay.specs.Checking.{IsStageFree}
use Rattle.dc_replay.specs.TestAnswers.{Answer, FalseAt, Holds, LongAt, Taken}
use Rattle.dc_replay.specs.Limits.{check_answer}
use Rattle.dc_replay.specs.ListingTests.{listing_answer}
use Rattle.dc_replay.specs.Replaying.{CheckedIsReplayed, IsHeldUnlessLong, NamelessIsNotHidden, TrueReportsAreAccepted}
use Rattle.dc_replay.specs.Tests.{first_false}
use Rattle.dc_replay.specs.Truth.{plain}
use Rattle.dc_attrs.proofs.TreeChanges.{valid_at}
use Rattle.dc_replay.proofs.Checking.{passes_to}
use Rattle.dc_replay.proofs.EndSnapshot.{true_reports_list}
use Rattle.dc_replay.proofs.LimitLaws.{limits_are_exact}
use Rattle.dc_replay.proofs.ListingLaws.{listing_is_tested}
use Rattle.dc_replay.proofs.ReplayLaw.{replaying_holds}
use Rattle.dc_replay.proofs.StageLaws.{stage_is_tested}
use Rattle.dc_replay.proofs.TrueEntries.{plain_valid, true_makes_check_pass}

pub checked_is_replayed : CheckedIsReplayed
checked_is_replayed st d R T told v e =
    let k = (limits_are_exact st d R (at T d)).holds e in
    (replaying_holds st d R T (told_apart R told) v ((stage_is_tested st R (at T d)).1 told k.0) k.1, k.2)

-- the answer is no other where it can be neither of the two
held_unless_long : (a : Answer) → (a ≡ Taken → ⊥) → ((p : Names) → a ≡ FalseAt p → ⊥) → IsHeldUnlessLong a
held_unless_long Holds t f = tt
held_unless_long Taken t f = t refl
held_unless_long (FalseAt p) t f = f p refl
held_unless_long (LongAt p) t f = tt

pub true_reports_are_accepted : TrueReportsAreAccepted
true_reports_are_accepted s st d e R T O N told seen stage v dir w same t =
    let limits = limits_are_exact st d R (at T d) in
    let listing = listing_is_tested e R N in (
      held_unless_long (check_answer st d R (at T d))
          (λ k. let f = sym stage ∙ limits.taken k in cc)
          (λ p k. let f = sym none ∙ (limits.false_at p k).1 in cc),
      held_unless_long (listing_answer e R N) listing.not_taken (λ p k. listing.listable p (true_reports_list s R O N t) k),
    )
  where
    free : IsStageFree st R (at T d)
    free = (stage_is_tested st R (at T d)).1 told stage

    none : first_false R (at T d) ≡ None
    none = passes_to st R (at T d) (told_apart R told) (valid_at T d v dir)
        (true_makes_check_pass s st R (at T d) O (plain s N) (told_apart R told) seen free (valid_at T d v dir) (plain_valid s N w) same t)

pub nameless_is_not_hidden : NamelessIsNotHidden
nameless_is_not_hidden s R h = record {
  deleted = λ p i. h (Deleted p) p i (inl refl);
  renamed = λ a b i. (h (Renamed a b) a i (inl refl), h (Renamed a b) b i (inr (inl refl)));
  created = λ c i. h (Created c) c i (inl refl);
}
