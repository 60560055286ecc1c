-- The numbers of a wave, and what its workers give.
use Rattle.std.specs.Prelude.{◌≡◌, ◌⊎◌, ℕ, ◌+◌, ◌<◌, ◌≤◌, Bool, true, false, List, [], ◌∷◌, ◌++◌, map, length, get_or, All, Contains, count_by}
use Rattle.atomic_table.specs.Seated.{TableId}
use Rattle.dc_split.specs.Bundles.{times}
use Rattle.dc_pool.specs.Drawing.{weight}
use Rattle.dc_pool.specs.Drawers.{IsNewAt}
use Rattle.dc_pool.specs.Counts.{RoseWith, Gained}
use Rattle.dc_pool.specs.declared.draws.Drawer.{Drawer}
use Rattle.dc_pool.specs.declared.results.Wave.{Wave}

-- each number is below the count
abbrev pub AreBelow : ℕ → List ℕ → Type 0
AreBelow count numbers = All (λ n. n < count) numbers

module _ {R E : Type 0} where
  -- how often a number stands in the five lists together
  abbrev pub stands : ℕ → Wave R E → ℕ
  stands x w = times x (map (λ r. r.number) w.done) + times x w.failed + times x w.killed + times x w.lost + times x (map (λ r. r.number) w.ended)

  -- each receipt and each end is right for its number, what is done was not to be killed, and what was killed was
  abbrev pub AllRight : (ℕ → R → Type 0) → (ℕ → E → Type 0) → (ℕ → Bool) → Wave R E → Type 0
  AllRight right right_end doomed w = All (λ r. right r.number r.value × (doomed r.number ≡ false)) w.done × All (λ n. doomed n ≡ true) w.killed × All (λ e. right_end e.number e.value) w.ended

  -- the lists of two waves, one behind the other
  abbrev pub IsJoined : Wave R E → Wave R E → Wave R E → Type 0
  IsJoined a b w =
      (w.done ≡ a.done ++ b.done)
      × (w.failed ≡ a.failed ++ b.failed)
      × (w.killed ≡ a.killed ++ b.killed)
      × (w.lost ≡ a.lost ++ b.lost)
      × (w.ended ≡ a.ended ++ b.ended)

  -- how many things were made for what is done and for what was killed late, at least
  abbrev pub made_for : (ℕ → Bool) → Wave R E → ℕ
  made_for late w = length w.done + count_by late w.killed

  -- only what is lost has changed
  abbrev pub with_lost : List ℕ → Wave R E → Wave R E
  with_lost lost w = record { done = w.done; failed = w.failed; killed = w.killed; lost = lost; ended = w.ended }

-- how often x stands in the bundle with the number b
abbrev pub in_bundle : List (List ℕ) → ℕ → ℕ → ℕ
in_bundle bundles x b = times x (get_or bundles b [])

-- the weight of all that these drawers drew
abbrev pub drawn_weight : (ℕ → ℕ) → List Drawer → ℕ
drawn_weight h [] = 0
drawn_weight h (d ∷ ds) = weight h d.seat.me.0.drawn + drawn_weight h ds

-- how many of these drawers were told that all bundles are given
abbrev pub endings : List Drawer → ℕ
endings drawers = count_by (λ d. d.ended) drawers

-- a drawer of this table with one seat
abbrev pub IsSeated : TableId → ℕ → Drawer → Type 0
IsSeated table bundles d = (d.seat.table_id ≡ table) × (d.bundles ≡ bundles) × (d.seat.me.0.seats ≡ 1)

module _ {S : Type 0} where
  -- slots that are fit, and a new drawer for each
  abbrev pub AreReady : (S → Type 0) → TableId → ℕ → List S → List Drawer → Type 0
  AreReady fit table bundles slots drawers = All fit slots × (length drawers ≡ length slots) × (0 < length slots) × All (IsNewAt table bundles) drawers

-- a number stands in a bundle behind one that was killed with its worker
pub record IsBehind (stopping : ℕ → Bool) (bundles : List (List ℕ)) (dead : List ℕ) (n : ℕ) : Type 0 where
  pub front : List ℕ
  pub stopper : ℕ
  pub rest : List ℕ
  pub bundle : Contains bundles (front ++ stopper ∷ rest)
  pub killed : Contains dead stopper
  pub stops : stopping stopper ≡ true
  pub behind : Contains rest n

-- Why a number is lost: it stands behind one that was killed with its worker, or as many numbers stopped workers as there are slots
abbrev pub HasLoss : (ℕ → Bool) → List (List ℕ) → List ℕ → ℕ → ℕ → Type 0
HasLoss stopping bundles dead slots n = IsBehind stopping bundles dead n ⊎ (slots ≤ count_by stopping dead)

-- what stands behind a number in its bundle is lost
pub record IsLast (bundles : List (List ℕ)) (lost : List ℕ) (n : ℕ) : Type 0 where
  pub front : List ℕ
  pub rest : List ℕ
  pub bundle : Contains bundles (front ++ n ∷ rest)
  pub gone : All (Contains lost) rest

-- a number that is killed with its worker is the last of its bundle that was begun
abbrev pub HasStopped : (ℕ → Bool) → List (List ℕ) → List ℕ → ℕ → Type 0
HasStopped stopping bundles lost n = stopping n ≡ true → IsLast bundles lost n

-- each of these numbers leaves its worker going
abbrev pub LeaveGoing : (ℕ → Bool) → List ℕ → Type 0
LeaveGoing stopping dead = All (λ n. stopping n ≡ false) dead

-- the last number that was begun stopped the worker, the first to do so, and what stands behind it is lost
pub record Stopped (stopping : ℕ → Bool) (all : List ℕ) (old_lost dead gone : List ℕ) : Type 0 where
  pub front : List ℕ
  pub stopper : ℕ
  pub rest : List ℕ
  pub before : List ℕ
  pub numbers : all ≡ front ++ stopper ∷ rest
  pub killed : dead ≡ before ++ stopper ∷ []
  pub spared : LeaveGoing stopping before
  pub stops : stopping stopper ≡ true
  pub lost : gone ≡ old_lost ++ rest

module _ {S R E : Type 0} where
  -- what a worker has added to a wave is right, and the counts of its slot rose for it
  pub record IsAdded (good : ℕ → R → Type 0) (good_end : ℕ → E → Type 0) (dooms lates : ℕ → Bool) (fault_count make_count : S → ℕ) (old new : S) (before after : Wave R E) : Type 0 where
    pub right : AllRight good good_end dooms after
    pub faults : RoseWith (fault_count old) (length before.failed) (length after.failed) (fault_count new)
    pub makes : RoseWith (make_count old) (made_for lates before) (made_for lates after) (make_count new)

  -- what the workers of these slots give
  pub record IsGathered (good : ℕ → R → Type 0) (good_end : ℕ → E → Type 0) (dooms stopping lates : ℕ → Bool) (fault_count make_count : S → ℕ) (bundles : List (List ℕ)) (old new : List S) (drawers : List Drawer) (w : Wave R E) : Type 0 where
    pub right : AllRight good good_end dooms w
    pub numbers : (x : ℕ) → stands x w ≡ drawn_weight (in_bundle bundles x) drawers
    pub faults : Gained fault_count (length w.failed) old new
    pub makes : Gained make_count (made_for lates w) old new
    pub lost : All (IsBehind stopping bundles w.killed) w.lost
    pub stopped : All (HasStopped stopping bundles w.lost) w.killed
    pub few : count_by stopping w.killed ≤ length old
    pub halted : length old ≤ count_by stopping w.killed + endings drawers
