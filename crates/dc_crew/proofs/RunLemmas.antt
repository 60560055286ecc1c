-- What the slots of a copy leave in the stores.
use Rattle.std.proofs.Common.{◌≡◌, ◌⊎◌, inl, inr, ◌&&◌, ℕ, ◌+◌, ◌<◌, ◌≤◌, Bool, true, false, List, [], ◌∷◌, length, All, sum_by, Option, refl, ap, ◌∙◌, ⊎_elim, arith}
use Rattle.std.specs.List.{list_all}
use Rattle.std.specs.Option.{is_some}
use Rattle.dc_attrs.specs.Trees.{Tree}
use Rattle.std.proofs.lemmas.Bool.{cases_lt, lt-ltb}
use Rattle.std.proofs.lemmas.List.Sums.{sum_by-cons}
use Rattle.std.proofs.lemmas.List.Elements.{All-head, All-tail}
use Rattle.dc_fs.specs.Causes.{counted, steady_at}
use Rattle.dc_fs.specs.Rest.{Rest}
use Rattle.dc_fs.specs.Views.{View}
use Rattle.dc_fs.specs.declared.store.Store as store
use Rattle.dc_fs.specs.declared.desk.Desk as desk
use Rattle.dc_pool.specs.Counts.{last, below_last, Gained}
use Rattle.std.specs.Cmp.Derive.{both_true}
use Rattle.dc_crew.specs.declared.crew.Place.{Place}
use Rattle.dc_crew.specs.Slots.{Scene, scene_of, IsFit, slot_faults, slot_makes, source_faults, desk_faults, ComeTo, RoseTogether, MadeMore, with_desks_out, with_desks_back, OpensDesks, TakesForksBack, TakesDesksBack, KeepsTarget}

same_steady : (b c : Bool) (m n : ℕ) → steady_at c n ≡ steady_at b m → c ≡ b
same_steady true true m n e = refl
same_steady false false m n e = refl
same_steady true false m n e = cc
same_steady false true m n e = cc

-- a target that has not changed makes the same scene
pub same_scene : {S T : Type 0} (from : store.Ghosts S) (to : store.Ghosts T) (source : S) (old new : T) → to.tree new ≡ to.tree old → steady_at (to.steady new) (to.faults new) ≡ steady_at (to.steady old) (to.faults old) → scene_of from to source new ≡ scene_of from to source old
same_scene from to source old new e c =
    ap (λ (t : Option Tree). record { tree = from.tree source; tells = is_some t; steady = from.steady source && to.steady new }) e
    ∙ ap (λ (b : Bool). record { tree = from.tree source; tells = is_some (to.tree old); steady = from.steady source && b }) (same_steady (to.steady old) (to.steady new) (to.faults old) (to.faults new) c)

-- the desks that were opened came back
pub keeps_target : (desks made failed : ℕ) (old between new : View) → OpensDesks desks old between → TakesDesksBack desks made failed between new → KeepsTarget old new
keeps_target desks made failed old between new o b =
    let e : with_desks_back 0 0 0 new.rest ≡ with_desks_back desks made failed (with_desks_out desks old.rest) = b.rest ∙ ap (with_desks_back desks made failed) o.rest in
    record {
      tree = b.tree ∙ o.tree;
      landed = ap (λ (r : Rest). r.landed) e;
      desks_out = (let d = ap (λ (r : Rest). r.desks_out) e in omega arith);
      rename_faults = ap (λ (r : Rest). r.rename_faults) e;
      fork_faults = ap (λ (r : Rest). r.fork_faults) e;
      scratch = (let d = ap (λ (r : Rest). r.scratch) e in omega arith);
      created = (let d = ap (λ (r : Rest). r.created) e in omega arith);
      desk_faults = (let d = ap (λ (r : Rest). r.desk_faults) e in omega arith);
      faults = (let d = b.faults in let f = o.faults in omega arith);
      calm = ap (λ (c : Bool). steady_at c new.faults) b.steady ∙ (ap (steady_at between.steady) b.faults ∙ o.calm);
    }

-- the forks that came back have failed, or have not
pub keeps_source : (more : ℕ) (old new : View) → TakesForksBack more old new → TakesForksBack 0 old new
keeps_source more old new t = record {
  tree = t.tree;
  rest = t.rest;
  forks = (let f = t.forks in omega arith);
  faults = t.faults;
  steady = t.steady;
}

-- nothing was done
pub source_still : (v : View) → TakesForksBack 0 v v
source_still v = record { tree = refl; rest = refl; forks = omega arith; faults = refl; steady = refl }

pub target_still : (v : View) → KeepsTarget v v
target_still v = record {
  tree = refl;
  landed = refl;
  desks_out = refl;
  rename_faults = refl;
  fork_faults = refl;
  scratch = omega arith;
  created = omega arith;
  desk_faults = omega arith;
  faults = omega arith;
  calm = refl;
}

module _ {S : Type 0} where
  full_or_not : (f g : S → ℕ) (slots : List S) → ((s : S) → f s ≤ g s) → (list_all (below_last f) slots ≡ true) ⊎ (last ≤ sum_by g slots)
  full_or_not f g [] le = inl refl
  full_or_not f g (x ∷ xs) le =
      let c = sum_by-cons g x xs in
      ⊎_elim
      (λ (l : f x < last). ⊎_elim
      (λ (r : list_all (below_last f) xs ≡ true). inl (both_true (lt-ltb (f x) last l) r))
      (λ (r : last ≤ sum_by g xs). inr (omega arith))
      (full_or_not f g xs le))
      (λ (r : last ≤ f x). let e = le x in inr (omega arith))
      (cases_lt (f x) last)

  sum_le : (f g : S → ℕ) (slots : List S) → ((s : S) → f s ≤ g s) → sum_by f slots ≤ sum_by g slots
  sum_le f g [] le = omega arith
  sum_le f g (x ∷ xs) le = let a = sum_by-cons f x xs in let b = sum_by-cons g x xs in let i = sum_le f g xs le in let j = le x in omega arith

  -- what the counts come to, or a sum that passes every count
  pub come_to_sum : (f g : S → ℕ) (n : ℕ) (slots : List S) → ((s : S) → f s ≤ g s) → ComeTo f slots n → (n ≤ sum_by g slots) ⊎ (last ≤ sum_by g slots)
  come_to_sum f g n slots le h = ⊎_elim
      (λ (a : list_all (below_last f) slots ≡ true). let x = h a in let y = sum_le f g slots le in inl (omega arith))
      (λ (r : last ≤ sum_by g slots). inr r)
      (full_or_not f g slots le)

  pub come_to : (f : S → ℕ) (n : ℕ) (old new : List S) → Gained f n old new → ComeTo f new n
  come_to f n old new p all = let x = p all in let u = x.1 in omega arith

  -- what each slot has none of, all have none of
  none_fell : (f : S → ℕ) (slots : List S) → All (λ s. f s ≡ 0) slots → (list_all (below_last f) slots ≡ true) × (sum_by f slots ≡ 0)
  none_fell f [] h = (refl, refl)
  none_fell f (x ∷ xs) h =
      let c = sum_by-cons f x xs in
      let z = All-head (λ s. f s ≡ 0) x xs h in
      let i = none_fell f xs (All-tail (λ s. f s ≡ 0) x xs h) in
      let s = i.1 in
      (both_true (lt-ltb (f x) last (omega arith)) i.0, omega arith)

  pub come_to_none : (f : S → ℕ) (n : ℕ) (slots : List S) → All (λ s. f s ≡ 0) slots → ComeTo f slots n → n ≡ 0
  come_to_none f n slots none h = let z = none_fell f slots none in let s = z.1 in let x = h z.0 in omega arith

module _ {S D T : Type 0} where
  sum_split : (source : store.Ghosts S) (desks : desk.Ghosts D T) (slots : List (Place S D T)) → sum_by (λ (p : Place S D T). source.faults p.source + desks.faults p.desk) slots ≡ sum_by (source_faults {D = D} {P = T} source) slots + sum_by (desk_faults {S = S} desks) slots
  sum_split source desks [] = refl
  sum_split source desks (x ∷ xs) =
      let c = sum_by-cons (λ (p : Place S D T). source.faults p.source + desks.faults p.desk) x xs in
      let d = sum_by-cons (source_faults {D = D} {P = T} source) x xs in
      let e = sum_by-cons (desk_faults {S = S} desks) x xs in
      let i = sum_split source desks xs in
      omega arith

  -- the failures in slots are counted in the stores
  rose_by : (source : store.Ghosts S) (desks : desk.Ghosts D T) (n : ℕ) (slots : List (Place S D T)) (from from_now to to_now : Rest) → ComeTo (slot_faults source desks) slots n → n ≤ last
      → counted from.fork_faults (sum_by (source_faults source) slots) ≤ from_now.fork_faults → counted to_now.desk_faults 0 ≡ counted to.desk_faults (sum_by (desk_faults desks) slots) → RoseTogether from from_now to to_now n
  rose_by source desks n slots from from_now to to_now h small f d low low' =
      let s = sum_split source desks slots in
      ⊎_elim (λ (x : n ≤ sum_by (λ (p : Place S D T). source.faults p.source + desks.faults p.desk) slots). omega arith) (λ (x : last ≤ sum_by (λ (p : Place S D T). source.faults p.source + desks.faults p.desk) slots). omega arith)
      (come_to_sum (slot_faults source desks) (λ (p : Place S D T). source.faults p.source + desks.faults p.desk) n slots (λ p. omega arith) h)

  made_by : (desks : desk.Ghosts D T) (n before now : ℕ) (slots : List (Place S D T)) → ComeTo (slot_makes desks) slots n → counted now 0 ≡ counted before (sum_by (slot_makes desks) slots) → counted before n ≤ now
  made_by desks n before now slots h e =
      ⊎_elim (λ (x : n ≤ sum_by (slot_makes {S = S} desks) slots). omega arith) (λ (x : last ≤ sum_by (slot_makes {S = S} desks) slots). omega arith) (come_to_sum (slot_makes desks) (slot_makes desks) n slots (λ p. omega arith) h)

  -- the desks that came back, after the target opened them
  out_and_back : (desks : desk.Ghosts D T) (slots : List (Place S D T)) (old between new : View) → OpensDesks (length slots) old between → TakesDesksBack (length slots) (sum_by (slot_makes desks) slots) (sum_by (desk_faults desks) slots) between new
      → with_desks_back 0 0 0 new.rest ≡ with_desks_back (length slots) (sum_by (slot_makes desks) slots) (sum_by (desk_faults desks) slots) (with_desks_out (length slots) old.rest)
  out_and_back desks slots old between new o b = b.rest ∙ ap (with_desks_back (length slots) (sum_by (slot_makes {S = S} desks) slots) (sum_by (desk_faults {S = S} desks) slots)) o.rest

  -- what was made in slots is counted in the target
  pub made_more : (desks : desk.Ghosts D T) (n : ℕ) (slots : List (Place S D T)) (old between new : View) → OpensDesks (length slots) old between → TakesDesksBack (length slots) (sum_by (slot_makes desks) slots) (sum_by (desk_faults desks) slots) between new
      → ComeTo (slot_makes desks) slots n → MadeMore old.rest new.rest n
  made_more desks n slots old between new o b h =
      let e = out_and_back desks slots old between new o b in
      record {
        scratch = made_by desks n old.rest.scratch new.rest.scratch slots h (ap (λ (r : Rest). r.scratch) e);
        created = made_by desks n old.rest.created new.rest.created slots h (ap (λ (r : Rest). r.created) e);
      }

  -- what failed in slots is counted in the stores
  pub failed_more : (source : store.Ghosts S) (desks : desk.Ghosts D T) (n : ℕ) (slots : List (Place S D T)) (from from_now old between new : View) → TakesForksBack (sum_by (source_faults source) slots) from from_now → OpensDesks (length slots) old between
      → TakesDesksBack (length slots) (sum_by (slot_makes desks) slots) (sum_by (desk_faults desks) slots) between new → n ≤ last → ComeTo (slot_faults source desks) slots n → RoseTogether from.rest from_now.rest old.rest new.rest n
  failed_more source desks n slots from from_now old between new f o b small h =
      rose_by source desks n slots from.rest from_now.rest old.rest new.rest h small f.forks (ap (λ (r : Rest). r.desk_faults) (out_and_back desks slots old between new o b))

  calm_slots : (source : store.Ghosts S) (desks : desk.Ghosts D T) (scene : Scene) (size : ℕ) (slots : List (Place S D T)) → scene.steady ≡ true → All (IsFit source desks scene size) slots → All (λ p. slot_faults source desks p ≡ 0) slots
  calm_slots source desks scene size slots steady fit k d l = let c = (fit k d l).calm steady in let a = c.no_source_faults in let b = c.no_desk_faults in omega arith

  -- where both stores are steady, nothing fails in slots
  pub calm_none : (source : store.Ghosts S) (desks : desk.Ghosts D T) (scene : Scene) (size n : ℕ) (slots : List (Place S D T)) → scene.steady ≡ true → All (IsFit source desks scene size) slots → ComeTo (slot_faults source desks) slots n → n ≡ 0
  calm_none source desks scene size n slots steady fit h = come_to_none (slot_faults source desks) n slots (calm_slots source desks scene size slots steady fit) h
