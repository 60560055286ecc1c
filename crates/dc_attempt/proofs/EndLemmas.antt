-- The ends of an attempt.
use Rattle.std.proofs.Common.{◌≡◌, ◌≢◌, inr, ℕ, ◌+◌, ◌<◌, ◌≤◌, Bool, true, false, List, Option, Some, Err, refl, sym, ap, ◌∙◌, subst, arith}
use Rattle.dc_fs.specs.Causes.{raised, Rose}
use Rattle.dc_fs.specs.Digests.{IsDigestAtWork}
use Rattle.dc_fs.specs.Temporaries.{told_if}
use Rattle.dc_fs.specs.declared.errors.DeskError.{DeskError}
use Rattle.dc_fs.specs.declared.errors.DeskError.TheVariants as desk_error
use Rattle.md5.specs.Md5.{Holds, md5}
use Rattle.md5.specs.declared.Md5.{Md5}
use Rattle.dc_attempt.specs.Attempts.{HasFilled, StepFails, IsKilled, IsDifferent, Answers, attempted_of}
use Rattle.dc_attempt.specs.Benches.{Bench, IsCleared}
use Rattle.dc_attempt.specs.Parts.{IsCopied}
use Rattle.dc_attempt.specs.Steps.{Asked, compare_step, seal_step, last_step, filled_before, NoStopBefore, stopped_of}
use Rattle.dc_attempt.proofs.StepLemmas.{all_before}

-- all that was asked for stands in a new temporary
abbrev pub has_all : (asked : Asked) (tells : Bool) (first old new : Bench) (hasher : Md5) → tells ≡ first.tells → new.current ≡ old.current → new.size ≡ old.size → new.made ≡ raised first.made → IsCopied asked asked.count tells old hasher → HasFilled asked asked.count first new
has_all asked tells first old new hasher t e z m c = record {
  counted = m;
  filled = record {
    bytes = c.filled.bytes;
    counted = c.filled.counted;
    sized = z ∙ c.filled.sized;
    at_work = e ∙ (c.filled.at_work ∙ ap (λ (b : Bool). Some (told_if b c.filled.bytes)) t);
    range = c.filled.range;
  };
}

filled_at : (asked : Asked) (step : ℕ) (old new : Bench) → 0 < asked.room → compare_step asked ≤ step → HasFilled asked asked.count old new → HasFilled asked (filled_before asked step) old new
filled_at asked step old new room l h = subst (λ (k : ℕ). HasFilled asked k old new) (sym (all_before step asked.count asked.room l room)) h

-- the stop is the step behind the reads, or the one behind it
pub killed_full : (asked : Asked) (step : ℕ) (old new : Bench) → 0 < asked.room → asked.stop ≡ Some step → compare_step asked ≤ step → step ≤ seal_step asked → HasFilled asked asked.count old new → IsKilled asked old new
killed_full asked step old new room e l m h = record {
  step = step;
  stop = e;
  reached = omega arith;
  desk = record {
    first = λ z. absurd (omega arith);
    work = λ _ _. filled_at asked step old new room l h;
    sealed = λ z. absurd (omega arith);
  };
}

-- the stop is the last step
pub killed_last : (asked : Asked) (step : ℕ) (old new : Bench) → asked.stop ≡ Some step → step ≡ last_step asked → IsCleared old new → IsKilled asked old new
killed_last asked step old new e l h = record {
  step = step;
  stop = e;
  reached = omega arith;
  desk = record {
    first = λ z. absurd (omega arith);
    work = λ a b. absurd (omega arith);
    sealed = λ _. h;
  };
}

-- the comparison fails
compare_fails : (asked : Asked) (most : ℕ → ℕ) (step : ℕ) (old new : Bench) → 0 < asked.room → step ≡ compare_step asked → asked.count ≤ most step → NoStopBefore asked.stop (step + 1) → HasFilled asked asked.count old new → StepFails asked most old new
compare_fails asked most step old new room e l b h = record {
  step = step;
  early = omega arith;
  begun = b;
  desk = record {
    first = λ z. absurd (omega arith);
    work = λ _ _. record { done = asked.count; least = (let a = all_before step asked.count asked.room (omega arith) room in omega arith); within = l; has = h };
    seal = λ z. absurd (omega arith);
  };
}

-- the seal fails
seal_fails : (asked : Asked) (most : ℕ → ℕ) (step : ℕ) (old new : Bench) → step ≡ seal_step asked → NoStopBefore asked.stop (step + 1) → IsCleared old new → StepFails asked most old new
seal_fails asked most step old new e b h = record {
  step = step;
  early = omega arith;
  begun = b;
  desk = record {
    first = λ z. absurd (omega arith);
    work = λ a k. absurd (omega arith);
    seal = λ _. h;
  };
}

module _ {P : Type 0} where
  -- a desk's refusal of the digest
  pub digest_refused : (content : P → Option (List ℕ)) (size : P → ℕ) (asked : Asked) (step : ℕ) (old new : Bench) (before now : ℕ) (e : DeskError) → 0 < asked.room → step ≡ compare_step asked → NoStopBefore asked.stop (step + 1) →
      HasFilled asked asked.count old new → (e ≡ desk_error.Fault → Rose old.faults new.faults) → Answers content size asked old new before now (attempted_of (Err (stopped_of e)))
  digest_refused content size asked step old new before now desk_error.Fault room q b h r = record {
    rose = inr (r refl);
    stops = compare_fails asked (λ k. filled_before asked (k + 1)) step old new room q (let a = all_before (step + 1) asked.count asked.room (omega arith) room in omega arith) b h;
  }
  digest_refused content size asked step old new before now desk_error.Memory room q b h r =
      compare_fails asked (filled_before asked) step old new room q (let a = all_before step asked.count asked.room (omega arith) room in omega arith) b h

  -- a desk's refusal to seal
  pub seal_refused : (content : P → Option (List ℕ)) (size : P → ℕ) (asked : Asked) (step : ℕ) (old new : Bench) (before now : ℕ) (e : DeskError) → step ≡ seal_step asked → NoStopBefore asked.stop (step + 1) →
      IsCleared old new → (e ≡ desk_error.Fault → Rose old.faults new.faults) → Answers content size asked old new before now (attempted_of (Err (stopped_of e)))
  seal_refused content size asked step old new before now desk_error.Fault q b h r = record { rose = inr (r refl); stops = seal_fails asked (λ k. filled_before asked (k + 1)) step old new q b h }
  seal_refused content size asked step old new before now desk_error.Memory q b h r = seal_fails asked (filled_before asked) step old new q b h

differs_by : (tells : Bool) (bytes expected found : List ℕ) → expected ≡ md5 bytes → IsDigestAtWork (Some (told_if tells bytes)) found → expected ≢ found → tells ≡ false
differs_by true bytes expected found e d n = absurd (n (e ∙ sym d))
differs_by false bytes expected found e d n = refl

-- two digests that differ
pub digests_differ : (asked : Asked) (step : ℕ) (tells : Bool) (first old new : Bench) (hasher : Md5) (expected found : List ℕ) → tells ≡ first.tells → new.current ≡ old.current → new.size ≡ old.size → new.made ≡ raised first.made →
    IsCopied asked asked.count tells old hasher → step ≡ compare_step asked → NoStopBefore asked.stop (step + 1) →
    ((m : List ℕ) → Holds hasher m → expected ≡ md5 m) → IsDigestAtWork old.current found → expected ≢ found → IsDifferent asked expected found first new
digests_differ asked step tells first old new hasher expected found t e z m c q b x d n = record {
  differ = n;
  begun = subst (λ (k : ℕ). NoStopBefore asked.stop (k + 1)) q b;
  desk = has_all asked tells first old new hasher t e z m c;
  read = x c.filled.bytes c.hashed;
  held = subst (λ (o : Option (Option (List ℕ))). IsDigestAtWork o found) (sym e) d;
  untold = sym t ∙ differs_by tells c.filled.bytes expected found (x c.filled.bytes c.hashed) (subst (λ (o : Option (Option (List ℕ))). IsDigestAtWork o found) c.filled.at_work d) n;
}
