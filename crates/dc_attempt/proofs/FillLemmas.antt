-- Temporaries that are filled a bufferful at a time.
use Rattle.std.proofs.Common.{◌≡◌, ◌⊎◌, inl, inr, ℕ, ◌+◌, ◌-◌, ◌<◌, ◌≤◌, min, Bool, true, false, List, [], ◌++◌, length, take, Option, Some, None, IfSome, refl, sym, ap, ◌∙◌, subst, arith, length-append, length-take, append-nil}
use Rattle.dc_path.specs.Paths.{Names}
use Rattle.dc_attrs.specs.Trees.{Tree}
use Rattle.dc_fs.specs.Causes.{Rose}
use Rattle.dc_fs.specs.Temporaries.{told_if, more, AppendStops}
use Rattle.dc_fs.specs.declared.errors.DeskError.{DeskError}
use Rattle.dc_fs.specs.declared.errors.DeskError.TheVariants as desk_error
use Rattle.md5.specs.Md5.{Holds}
use Rattle.md5.specs.declared.Md5.{Md5}
use Rattle.dc_attempt.specs.Benches.{Bench}
use Rattle.dc_attempt.specs.Parts.{IsAdded, IsHashed, AddsPart, PartStops, IsCopied, ReadFails, RangeStops}
use Rattle.dc_attempt.specs.Ranges.{told_range}
use Rattle.dc_attempt.specs.Steps.{Asked, filled_before, NoStopBefore, IsFilled}
use Rattle.dc_attempt.specs.declared.stopping.Stopped.{Stopped}
use Rattle.dc_attempt.specs.declared.stopping.Stopped.TheVariants as stopped
use Rattle.dc_attempt.proofs.RangeLemmas.{told_more, told_front, part_lacks}
use Rattle.dc_attempt.proofs.StepLemmas.{step_reads, done_more}

more_none : (current : Option (Option (List ℕ))) → current ≡ more [] current
more_none None = refl
more_none (Some None) = refl
more_none (Some (Some xs)) = ap (λ (ys : List ℕ). Some (Some ys)) (sym (append-nil xs))

-- nothing was added
pub none_added : (tree : Option Tree) (path : Names) (at : ℕ) (desk : Bench) → IsAdded tree path at 0 desk desk
none_added tree path at desk = record { bytes = []; counted = refl; longer = omega arith; appended = more_none desk.current; range = λ some. absurd (omega arith) }

-- a front of what was read was added
pub front_added : (tree : Option Tree) (path : Names) (at front : ℕ) (into : List ℕ) (old new : Bench) → front ≤ length into →
    new.current ≡ more (take front into) old.current → new.size ≡ old.size + front →
    IfSome tree (λ _. told_range tree path at (length into) ≡ Some into) → IsAdded tree path at front old new
front_added tree path at front into old new within added longer read = record {
  bytes = take front into;
  counted = (let l = length-take {A = ℕ} front into in omega arith);
  longer = longer;
  appended = added;
  range = λ _. told_front tree path at (length into) front into within read;
}

pub append_failed : (tree : Option Tree) (path : Names) (at len : ℕ) (into : List ℕ) (old new : Bench) (e : DeskError) → e ≡ desk_error.Fault → length into ≡ len →
    AppendStops into old.current old.size new.current new.size e → IfSome tree (λ _. told_range tree path at len ≡ Some into) → AddsPart tree path at len old new
append_failed tree path at len into old new desk_error.Fault q l s r = record {
  front = s.count;
  within = (let f = s.front in omega arith);
  added = front_added tree path at s.count into old new s.front s.added s.longer (subst (λ (k : ℕ). IfSome tree (λ _. told_range tree path at k ≡ Some into)) (sym l) r);
}
append_failed tree path at len into old new desk_error.Memory q l s r = absurd (cc)

more_told : (tells : Bool) (xs ys : List ℕ) (old new : Option (Option (List ℕ))) → old ≡ Some (told_if tells xs) → new ≡ more ys old → new ≡ Some (told_if tells (xs ++ ys))
more_told true xs ys old new o n = n ∙ ap (more ys) o
more_told false xs ys old new o n = n ∙ ap (more ys) o

sum_length : (xs ys : List ℕ) (a b : ℕ) → length xs ≡ a → length ys ≡ b → length (xs ++ ys) ≡ a + b
sum_length xs ys a b e f = let l = length-append xs ys in omega arith

-- what was copied, and what was added to it
pub filled_more : (asked : Asked) (done n : ℕ) (tells : Bool) (old new : Bench) (f : IsFilled asked done tells old) (a : IsAdded asked.tree asked.path (asked.from + done) n old new) → IsFilled asked (done + n) tells new
filled_more asked done n tells old new f a = record {
  bytes = f.bytes ++ a.bytes;
  counted = sum_length f.bytes a.bytes done n f.counted a.counted;
  sized = (let l = a.longer in let s = f.sized in omega arith);
  at_work = more_told tells f.bytes a.bytes old.current new.current f.at_work a.appended;
  range = told_more asked.tree asked.path asked.from done n f.bytes a.bytes f.counted a.counted f.range a.range;
}

pub copied_more : (asked : Asked) (done n : ℕ) (tells : Bool) (old new : Bench) (hasher after : Md5) → IsCopied asked done tells old hasher → IsHashed asked.tree asked.path (asked.from + done) n old new hasher after → IsCopied asked (done + n) tells new after
copied_more asked done n tells old new hasher after c h = record {
  filled = record {
    bytes = c.filled.bytes ++ h.added.bytes;
    counted = sum_length c.filled.bytes h.added.bytes done n c.filled.counted h.added.counted;
    sized = (let l = h.added.longer in let s = c.filled.sized in omega arith);
    at_work = more_told tells c.filled.bytes h.added.bytes old.current new.current c.filled.at_work h.added.appended;
    range = told_more asked.tree asked.path asked.from done n c.filled.bytes h.added.bytes c.filled.counted h.added.counted c.filled.range h.added.range;
  };
  hashed = h.hashed c.filled.bytes c.hashed;
}

pub begin_copied : (asked : Asked) (tells : Bool) (desk : Bench) (hasher : Md5) → desk.current ≡ Some (told_if tells []) → desk.size ≡ 0 → Holds hasher [] → IsCopied asked 0 tells desk hasher
begin_copied asked tells desk hasher work size holds = record {
  filled = record { bytes = []; counted = refl; sized = size; at_work = work; range = λ some. absurd (omega arith) };
  hashed = holds;
}

-- ---- a read that fails
fails_at : (asked : Asked) (most : ℕ → ℕ) (tells : Bool) (step done n : ℕ) (old new : Bench) → 0 < asked.room → 1 ≤ step → done ≡ filled_before asked step → done < asked.count → NoStopBefore asked.stop (step + 1) →
    done + n ≤ most step → IsFilled asked done tells old → IsAdded asked.tree asked.path (asked.from + done) n old new → ReadFails asked most tells new
fails_at asked most tells step done n old new room some d left begun within f a = record {
  step = step;
  read = (some, step_reads step asked.count asked.room done some d left room);
  begun = begun;
  done = done + n;
  least = omega arith;
  within = within;
  filled = filled_more asked done n tells old new f a;
}

pub part_stops : (asked : Asked) (tells : Bool) (step done want : ℕ) (first old new : Bench) (before mid now : ℕ) (e : Stopped) → 0 < asked.room → 1 ≤ step → done ≡ filled_before asked step → done < asked.count →
    want ≡ min (asked.count - done) asked.room → NoStopBefore asked.stop (step + 1) → IsFilled asked done tells old → mid ≡ before → old.faults ≡ first.faults →
    PartStops asked.tree asked.path (asked.from + done) want old new mid now e → RangeStops asked tells first new before now e
part_stops asked tells step done want first old new before mid now stopped.Killed room some d left w begun f r q h = absurd h
part_stops asked tells step done want first old new before mid now stopped.Fault room some d left w begun f r q h =
    let whole : done + want ≡ filled_before asked (step + 1) = done_more step asked.count asked.room done want some d left w in
    let l = h.1.within in (
      subst (λ (k : ℕ). Rose before now ⊎ Rose k new.faults) q (subst (λ (k : ℕ). Rose k now ⊎ Rose old.faults new.faults) r h.0),
      fails_at asked (λ k. filled_before asked (k + 1)) tells step done h.1.front old new room some d left begun (omega arith) f h.1.added,
    )
part_stops asked tells step done want first old new before mid now (stopped.Differs x y) room some d left w begun f r q h = absurd h
part_stops asked tells step done want first old new before mid now stopped.Changed room some d left w begun f r q h = (
  part_lacks asked.tree asked.path asked.from done want asked.count (omega arith) h.0,
  fails_at asked (filled_before asked) tells step done 0 old new room some d left begun (omega arith) f h.1,
)
part_stops asked tells step done want first old new before mid now stopped.Memory room some d left w begun f r q h =
    fails_at asked (filled_before asked) tells step done 0 old new room some d left begun (omega arith) f h

-- ---- a fault has its cause
pub read_rose : (before now old new : ℕ) → Rose before now → Rose before now ⊎ Rose old new
read_rose before now old new h = inl h

pub desk_rose : (before now old new : ℕ) → Rose old new → Rose before now ⊎ Rose old new
desk_rose before now old new h = inr h
