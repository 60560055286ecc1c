-- The moves into the stage.
use Rattle.std.proofs.Common.{◌≡◌, inl, inr, ℕ, ◌≤◌, List, [], ◌∷◌, ◌++◌, Bool, true, false, cond, Option, Some, None, length, refl, sym, ◌∙◌, ap, subst, arith}
use Rattle.std.proofs.Math.Path.{fun_ext}
use Rattle.dc_attrs.specs.Attributes.{default_dir}
use Rattle.dc_attrs.specs.Trees.{Dir, Node, Tree, moved as tree_moved, with_node, IsThere}
use Rattle.dc_path.specs.Names.{same_name}
use Rattle.dc_path.specs.Paths.{Names, at_cut, cut}
use Rattle.dc_report.specs.Carrying.{Carried, Carry, Has, Stays, With, carrier, old_lt, or_carried}
use Rattle.dc_replay.specs.Checking.{IsOff}
use Rattle.dc_replay.specs.Steps.{AreAllowed, IsAllowed, after, step}
use Rattle.dc_report.specs.Moves.{staging, label_of}
use Rattle.dc_report.specs.declared.entries.Move.{Move}
use Rattle.dc_report.specs.declared.entries.Move.TheVariants.{Make, Shift}
use Rattle.dc_report.proofs.Sorting.{IsSorted}
use Rattle.dc_path.proofs.PathOrder.{cut-less}
use Rattle.dc_report.proofs.Labels.{other_labels}
use Rattle.dc_path.proofs.PathLemmas.{same_name-refl, name_decides, same_name-flip, at_cond}
use Rattle.dc_report.proofs.Carriers.{carrier_stays}

-- ---- one list of moves after the other
pub after-append : (ms ns : List Move) (t : Tree) → after (ms ++ ns) t ≡ after ns (after ms t)
after-append [] ns t = refl
after-append (m ∷ ms) ns t = after-append ms ns (step m t)

pub allowed-append : (ms ns : List Move) (t : Tree) → AreAllowed t ms → AreAllowed (after ms t) ns → AreAllowed t (ms ++ ns)
allowed-append [] ns t a b = b
allowed-append (m ∷ ms) ns t a b = (a.0, allowed-append ms ns (step m t) a.1 b)

-- ---- the tree while items are staged
abbrev pub kept : Carried → Option Node → Option Node
kept Stays n = n
kept (With c r) n = None

-- without what these carry
abbrev pub away : List Carry → Tree → Tree
away cs A q = kept (carrier cs q) (A q)

-- under each label the item without what was carried before
abbrev pub slot : List Carry → Tree → List ℕ → Names → Option Node
slot [] A x r = None
slot (c ∷ cs) A x r = cond (same_name (label_of (length cs)) x) (away cs A (c.old ++ r)) (slot cs A x r)

abbrev pub slots : List Carry → Tree → Names → Option Node
slots cs A [] = Some (Dir default_dir)
slots cs A (x ∷ r) = slot cs A x r

abbrev pub staged : List ℕ → List Carry → Tree → Tree
staged st cs A q = at_cut (cut (st ∷ []) q) (away cs A q) (slots cs A)

pub or_stays : (k : Carried) → or_carried k Stays ≡ k
or_stays Stays = refl
or_stays (With c r) = refl

kept_none : (k : Carried) (c : Carry) (r : Names) (n : Option Node) → kept (or_carried k (With c r)) n ≡ None
kept_none Stays c r n = refl
kept_none (With d s) c r n = refl

start_at : (st : List ℕ) (A : Tree) (y : List ℕ) (p : Names) (b : Bool) → ((r : Names) → A (st ∷ r) ≡ None) → same_name st y ≡ b → with_node A (st ∷ []) (Dir default_dir) (y ∷ p) ≡ staged st [] A (y ∷ p)
start_at st A y p false free e = rw e refl
start_at st A y [] true free e = rw e refl
start_at st A y (x ∷ r) true free e = let s : st ≡ y = (name_decides st y).0 e in let f : A (y ∷ x ∷ r) ≡ None = rw s at (free (x ∷ r)) in rw e f

stage_start_at : (st : List ℕ) (A : Tree) (q : Names) → ((r : Names) → A (st ∷ r) ≡ None) → with_node A (st ∷ []) (Dir default_dir) q ≡ staged st [] A q
stage_start_at st A [] free = refl
stage_start_at st A (y ∷ p) free = start_at st A y p (same_name st y) free refl

pub stage_start : (st : List ℕ) (A : Tree) → ((r : Names) → A (st ∷ r) ≡ None) → step (Make (st ∷ [])) A ≡ staged st [] A
stage_start st A free = fun_ext (λ q. stage_start_at st A q free)

-- the name of what goes, y ∷ d, is not that of the stage
away_step : (cs : List Carry) (A : Tree) (c : Carry) (q : Names) (o : Option Names) → cut c.old q ≡ o → at_cut o (away cs A q) (λ r. None) ≡ away (c ∷ cs) A q
away_step cs A c q None e = rw (e, or_stays) refl
away_step cs A c q (Some r) e = rw (e, kept_none) refl

step_at : (st : List ℕ) (cs : List Carry) (A : Tree) (c : Carry) (y : List ℕ) (d : Names) (z : List ℕ) (q : Names) (b : Bool) → c.old ≡ y ∷ d → same_name st y ≡ false → same_name st z ≡ b → tree_moved (staged st cs A) c.old (st ∷ label_of (length cs) ∷ []) (z ∷ q) ≡ staged st (c ∷ cs) A (z ∷ q)
step_at st cs A c y d z q false e n b = rw b (away_step cs A c (z ∷ q) (cut c.old (z ∷ q)) refl)
step_at st cs A c y d z [] true e n b =
    let s : st ≡ z = (name_decides st z).0 b in
    let f : same_name y z ≡ false = same_name-flip y z ∙ rw (← s) n in
    rw (b, e, f) refl
step_at st cs A c y d z (x ∷ r) true e n b =
    let s : st ≡ z = (name_decides st z).0 b in
    let f : same_name y z ≡ false = same_name-flip y z ∙ rw (← s) n in
    rw (b, e, f, n) (at_cond (same_name (label_of (length cs)) x) r (slot cs A x r) (λ (s : Names). away cs A (y ∷ (d ++ s))))

stage_step_at : (st : List ℕ) (cs : List Carry) (A : Tree) (c : Carry) (q : Names) → IsOff st c.old → tree_moved (staged st cs A) c.old (st ∷ label_of (length cs) ∷ []) q ≡ staged st (c ∷ cs) A q
stage_step_at st cs A c [] off = away_step cs A c [] (cut c.old []) refl
stage_step_at st cs A c (z ∷ q) off = step_at st cs A c off.first off.rest z q (same_name st z) off.path off.other refl

pub stage_step : (st : List ℕ) (cs : List Carry) (A : Tree) (c : Carry) → IsOff st c.old → step (Shift c.old (st ∷ label_of (length cs) ∷ [])) (staged st cs A) ≡ staged st (c ∷ cs) A
stage_step st cs A c off = fun_ext (λ q. stage_step_at st cs A c q off)

-- the tree after the staging moves
pub staging_gives : (st : List ℕ) (cs : List Carry) (A : Tree) → ((c : Carry) → Has cs c → IsOff st c.old) → after (staging st cs) (staged st [] A) ≡ staged st cs A
staging_gives st [] A off = refl
staging_gives st (c ∷ cs) A off =
    after-append (staging st cs) (Shift c.old (st ∷ label_of (length cs) ∷ []) ∷ []) (staged st [] A)
    ∙ ap (λ (t : Tree). step (Shift c.old (st ∷ label_of (length cs) ∷ [])) t) (staging_gives st cs A (λ d h. off d (inr h)))
    ∙ stage_step st cs A c (off c (inl refl))

-- ---- the staging moves are not refused
abbrev pub IsAscending : List Carry → Type 0
IsAscending cs = IsSorted old_lt cs

pub slot_past : (cs : List Carry) (A : Tree) (k : ℕ) (r : Names) → length cs ≤ k → slot cs A (label_of k) r ≡ None
slot_past [] A k r h = refl
slot_past (c ∷ cs) A k r h =
    let f : same_name (label_of (length cs)) (label_of k) ≡ false = other_labels (length cs) k (λ e. absurd (omega arith)) in
    rw f (slot_past cs A k r (omega arith))

pub staged_off : (st : List ℕ) (cs : List Carry) (A : Tree) (p : Names) → IsOff st p → staged st cs A p ≡ away cs A p
staged_off st cs A p off = rw (off.path, off.other) refl

pub stage_dir : (st : List ℕ) (cs : List Carry) (A : Tree) → staged st cs A (st ∷ []) ≡ Some (Dir default_dir)
stage_dir st cs A = rw (same_name-refl st) refl

shift_allowed : (st : List ℕ) (cs : List Carry) (A : Tree) (c : Carry) → IsOff st c.old → IsThere A c.old → carrier cs c.old ≡ Stays → IsAllowed (staged st cs A) (Shift c.old (st ∷ label_of (length cs) ∷ []))
shift_allowed st cs A c off there stays = (
  (there.0, staged_off st cs A c.old off ∙ rw stays there.1),
  record {
    absent = rw (same_name-refl st) (slot_past cs A (length cs) [] (omega arith));
    parent = st ∷ [];
    name = label_of (length cs);
    path = refl;
    dir = (default_dir, stage_dir st cs A);
  },
  (let f : same_name off.first st ≡ false = same_name-flip off.first st ∙ off.other in rw (off.path, f) refl),
)

pub staging_allowed : (st : List ℕ) (cs : List Carry) (A : Tree) → ((c : Carry) → Has cs c → IsOff st c.old) → ((c : Carry) → Has cs c → IsThere A c.old) → IsAscending cs → AreAllowed (staged st [] A) (staging st cs)
staging_allowed st [] A off there asc = tt
staging_allowed st (c ∷ cs) A off there asc =
    allowed-append (staging st cs) (Shift c.old (st ∷ label_of (length cs) ∷ []) ∷ []) (staged st [] A)
    (staging_allowed st cs A (λ d h. off d (inr h)) (λ d h. there d (inr h)) asc.1)
    (subst (λ (t : Tree). AreAllowed t (Shift c.old (st ∷ label_of (length cs) ∷ []) ∷ [])) (sym (staging_gives st cs A (λ d h. off d (inr h))))
    (shift_allowed st cs A c (off c (inl refl)) (there c (inl refl)) (carrier_stays cs c.old (λ d h. cut-less d.old c.old (asc.0 d h))), tt))
