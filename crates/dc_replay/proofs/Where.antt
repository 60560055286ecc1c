-- Where a report leads a path.
use Rattle.std.proofs.Common.{ℕ, ◌≡◌, ◌⊎◌, inl, inr, ⊎_elim, ◌<◌, List, [], ◌∷◌, ◌++◌, true, false, Option, Some, None, length, refl, sym, ◌∙◌, ap, arith, append_assoc}
use Rattle.std.proofs.lemmas.List.{append-nil, append_cancel_left}
use Rattle.dc_attrs.specs.Trees.{IsTree, Node, Tree}
use Rattle.dc_path.specs.Names.{same_name}
use Rattle.dc_path.specs.Order.{path_lt}
use Rattle.dc_path.specs.Paths.{Names, at_cut, cut}
use Rattle.dc_replay.specs.Arrivals.{Arrival, From, Here, arrival, source}
use Rattle.dc_report.specs.Carrying.{Carried, Carry, Has, Place, Stays, With, carried_by, carrier, moved, moved_as, new_gt, or_carried, then_rest}
use Rattle.dc_report.specs.Moves.{label_of}
use Rattle.dc_replay.proofs.Staging.{kept, away, slot, IsAscending}
use Rattle.dc_report.proofs.Sorting.{IsSorted}
use Rattle.dc_report.proofs.Labels.{other_labels, same_label}
use Rattle.dc_path.proofs.PathLemmas.{same_name-refl, cut-append, append-cut, cut_front}
use Rattle.dc_path.proofs.PathOrder.{cut-less, cut-longer}
use Rattle.dc_report.proofs.Carriers.{carrier_stays, carrier_rest}
use Rattle.dc_attrs.proofs.TreeChanges.{there_front}

-- ---- paths of a valid tree
-- ---- what carries a path
pub by_some : (c d : Carry) (o : Option Names) (r : Names) → carried_by d o ≡ With c r → (c ≡ d) × (o ≡ Some r)
by_some c d None r e = absurd (cc)
by_some c d (Some s) r e = (cc, cc)

pub by_none : (d : Carry) (o : Option Names) → carried_by d o ≡ Stays → o ≡ None
by_none d None e = refl
by_none d (Some r) e = absurd (cc)

pub or_with : (k l : Carried) (c : Carry) (r : Names) → or_carried k l ≡ With c r → (k ≡ With c r) ⊎ ((k ≡ Stays) × (l ≡ With c r))
or_with Stays l c r e = inr (refl, e)
or_with (With d s) l c r e = inl e

pub or_none : (k l : Carried) → or_carried k l ≡ Stays → (k ≡ Stays) × (l ≡ Stays)
or_none Stays l e = (refl, e)
or_none (With d s) l e = absurd (cc)

pub stays_front : (cs : List Carry) (p s : Names) → carrier cs (p ++ s) ≡ Stays → carrier cs p ≡ Stays
stays_front [] p s e = refl
stays_front (d ∷ cs) p s e =
    let k = or_none (carrier cs (p ++ s)) (carried_by d (cut d.old (p ++ s))) e in
    rw (stays_front cs p s k.0, cut_front d.old p s (by_none d (cut d.old (p ++ s)) k.1)) refl

-- what carries a path carries each front that is not shorter than its old path
pub carrier_front : (cs : List Carry) (c : Carry) (u s r : Names) → carrier cs ((c.old ++ u) ++ s) ≡ With c r → carrier cs (c.old ++ u) ≡ With c u
carrier_front [] c u s r e = absurd (cc)
carrier_front (d ∷ cs) c u s r e =
    ⊎_elim (λ k. rw (carrier_front cs c u s r k) refl)
    (λ k. let b = by_some c d (cut d.old ((c.old ++ u) ++ s)) r k.1 in
    rw (stays_front cs (c.old ++ u) s k.0, ← b.0, cut-append c.old u) refl)
    (or_with (carrier cs ((c.old ++ u) ++ s)) (carried_by d (cut d.old ((c.old ++ u) ++ s))) c r e)

-- ---- the renamed items and their labels
abbrev pub IsPlaceOf : List Carry → Place → Type 0
IsPlaceOf [] n = ⊥
IsPlaceOf (c ∷ cs) n = ((c.new ≡ Some n.new) × (c.old ≡ n.old) × (n.label ≡ length cs)) ⊎ IsPlaceOf cs n

pub label_below : (cs : List Carry) (n : Place) → IsPlaceOf cs n → n.label < length cs
label_below [] n h = absurd h
label_below (c ∷ cs) n (inl h) = let e = h.2 in omega arith
label_below (c ∷ cs) n (inr h) = let k = label_below cs n h in omega arith

-- the carry that an item comes from
pub place_carry : (cs : List Carry) (n : Place) → IsPlaceOf cs n → (c : Carry) × Has cs c × (c.old ≡ n.old) × (c.new ≡ Some n.new)
place_carry [] n h = absurd h
place_carry (c ∷ cs) n (inl e) = (c, inl refl, e.1, e.0)
place_carry (c ∷ cs) n (inr h) = let k = place_carry cs n h in (k.0, inr k.1, k.2, k.3)

other_label : (cs : List Carry) (n : Place) → IsPlaceOf cs n → same_name (label_of (length cs)) (label_of n.label) ≡ false
other_label cs n h = other_labels (length cs) n.label (λ e. let k = label_below cs n h in absurd (omega arith))

-- an item that stands in the stage
pub record InStage (cs : List Carry) (A : Tree) (n : Place) (r : Names) (x : Node) : Type 0 where
  pub carry : Carry
  pub by : carrier cs (n.old ++ r) ≡ With carry r
  pub old : carry.old ≡ n.old
  pub new : carry.new ≡ Some n.new
  pub was : A (n.old ++ r) ≡ Some x

kept_some : (k : Carried) (o : Option Node) (x : Node) → kept k o ≡ Some x → (k ≡ Stays) × (o ≡ Some x)
kept_some Stays o x e = (refl, e)
kept_some (With c r) o x e = absurd (cc)

pub slot_found : (cs : List Carry) (A : Tree) (n : Place) (r : Names) (x : Node) → IsPlaceOf cs n → slot cs A (label_of n.label) r ≡ Some x → InStage cs A n r x
slot_found [] A n r x h e = absurd h
slot_found (c ∷ cs) A n r x (inl h) e =
    let f : away cs A (c.old ++ r) ≡ Some x = rw (same_label (length cs) n.label (sym h.2)) at e in
    let k = kept_some (carrier cs (c.old ++ r)) (A (c.old ++ r)) x f in
    record {
      carry = c;
      by = rw (← h.1, k.0, cut-append c.old r) refl;
      old = h.1;
      new = h.0;
      was = rw (← h.1) k.1;
    }
slot_found (c ∷ cs) A n r x (inr h) e =
    let k = slot_found cs A n r x h (rw (other_label cs n h) at e) in
    record { carry = k.carry; by = rw k.by refl; old = k.old; new = k.new; was = k.was }

-- the item itself is in the stage under its label
pub slot_own : (cs : List Carry) (A : Tree) (n : Place) → IsAscending cs → IsPlaceOf cs n → slot cs A (label_of n.label) [] ≡ A n.old
slot_own [] A n a h = absurd h
slot_own (c ∷ cs) A n a (inl h) =
    let s : carrier cs n.old ≡ Stays = rw (← h.1) (carrier_stays cs c.old (λ d k. cut-less d.old c.old (a.0 d k))) in
    rw (same_label (length cs) n.label (sym h.2), append-nil, h.1, s) refl
slot_own (c ∷ cs) A n a (inr h) = rw (other_label cs n h) (slot_own cs A n a.1 h)

pub record OwnCarry (cs : List Carry) (n : Place) : Type 0 where
  pub carry : Carry
  pub by : carrier cs n.old ≡ With carry []
  pub old : carry.old ≡ n.old
  pub new : carry.new ≡ Some n.new

pub carrier_own : (cs : List Carry) (n : Place) → IsAscending cs → IsPlaceOf cs n → OwnCarry cs n
carrier_own [] n a h = absurd h
carrier_own (c ∷ cs) n a (inl h) = record {
  carry = c;
  by = rw (← h.1, carrier_stays cs c.old (λ d k. cut-less d.old c.old (a.0 d k))) (ap (carried_by c) (rw append-nil at (cut-append c.old [])));
  old = h.1;
  new = h.0;
}
carrier_own (c ∷ cs) n a (inr h) = let k = carrier_own cs n a.1 h in record { carry = k.carry; by = rw k.by refl; old = k.old; new = k.new }

-- what is carried to a new path is in the stage
pub record Sent (cs : List Carry) (A : Tree) (p : Names) (c : Carry) (b r : Names) : Type 0 where
  pub item : Place
  pub is : IsPlaceOf cs item
  pub new : item.new ≡ b
  pub old : item.old ≡ c.old
  pub stands : slot cs A (label_of item.label) r ≡ A p

pub carrier_sent : (cs : List Carry) (A : Tree) (p : Names) (c : Carry) (b r : Names) → carrier cs p ≡ With c r → c.new ≡ Some b → Sent cs A p c b r
carrier_sent [] A p c b r e n = absurd (cc)
carrier_sent (d ∷ cs) A p c b r e n =
    ⊎_elim
    (λ k. let s = carrier_sent cs A p c b r k n in
    record { item = s.item; is = inr s.is; new = s.new; old = s.old; stands = rw (other_label cs s.item s.is) s.stands })
    (λ k. let f = by_some c d (cut d.old p) r k.1 in
    record {
      item = record { new = b; old = d.old; label = length cs };
      is = inl (sym (ap (λ (g : Carry). g.new) f.0) ∙ n, refl, refl);
      new = refl;
      old = ap (λ (g : Carry). g.old) (sym f.0);
      stands = rw (same_name-refl (label_of (length cs)), ← append-cut d.old p r f.1, k.0) refl;
    })
    (or_with (carrier cs p) (carried_by d (cut d.old p)) c r e)

-- ---- what stands where, outside of the stage
abbrev pub arrived_as : List Carry → Tree → Names → Arrival → Option Node
arrived_as cs A q Here = away cs A q
arrived_as cs A q (From n r) = slot cs A (label_of n.label) r

abbrev pub arrived : List Carry → Tree → List Place → Tree
arrived cs A ns q = arrived_as cs A q (arrival ns q)

abbrev pub IsDescending : List Place → Type 0
IsDescending ns = IsSorted new_gt ns

at_cut_from : (o : Option Names) (k : Arrival) (m n : Place) (r : Names) → at_cut o k (λ s. From m s) ≡ From n r → ((o ≡ None) × (k ≡ From n r)) ⊎ ((o ≡ Some r) × (n ≡ m))
at_cut_from None k m n r e = inl (refl, e)
at_cut_from (Some s) k m n r e = inr (cc, cc)

at_cut_here : (o : Option Names) (k : Arrival) (m : Place) → at_cut o k (λ s. From m s) ≡ Here → (o ≡ None) × (k ≡ Here)
at_cut_here None k m e = (refl, e)
at_cut_here (Some s) k m e = absurd (cc)

pub arrival_has : (ns : List Place) (q : Names) (n : Place) (r : Names) → arrival ns q ≡ From n r → Has ns n × (q ≡ n.new ++ r)
arrival_has [] q n r e = absurd (cc)
arrival_has (m ∷ ns) q n r e =
    ⊎_elim (λ k. let h = arrival_has ns q n r k.1 in (inr h.0, h.1))
    (λ k. (inl k.1, append-cut n.new q r (rw k.1 k.0)))
    (at_cut_from (cut m.new q) (arrival ns q) m n r e)

pub arrival_here : (ns : List Place) (q : Names) (m : Place) → arrival ns q ≡ Here → Has ns m → cut m.new q ≡ None
arrival_here [] q m e h = absurd h
arrival_here (n ∷ ns) q m e (inl h) = rw h (at_cut_here (cut n.new q) (arrival ns q) n e).0
arrival_here (n ∷ ns) q m e (inr h) = arrival_here ns q m (at_cut_here (cut n.new q) (arrival ns q) n e).1 h

-- the longest one decides
pub arrival_top : (ns : List Place) (q : Names) (n : Place) (r : Names) (m : Place) (s : Names) → IsDescending ns → arrival ns q ≡ From n r → Has ns m → cut m.new q ≡ Some s → (n ≡ m) ⊎ (path_lt m.new n.new ≡ true)
arrival_top [] q n r m s d e h f = absurd h
arrival_top (k ∷ ns) q n r m s d e (inl h) f =
    ⊎_elim (λ g. let no : Some s ≡ None = sym f ∙ ap (λ (u : Place). cut u.new q) h ∙ g.0 in absurd (cc)) (λ g. inl (g.1 ∙ sym h)) (at_cut_from (cut k.new q) (arrival ns q) k n r e)
arrival_top (k ∷ ns) q n r m s d e (inr h) f =
    ⊎_elim (λ g. arrival_top ns q n r m s d.1 g.1 h f) (λ g. inr (rw g.1 (d.0 m h))) (at_cut_from (cut k.new q) (arrival ns q) k n r e)

-- what arrived came from where moved says
pub record CameFrom (cs : List Carry) (A : Tree) (ns : List Place) (q : Names) (x : Node) : Type 0 where
  pub path : Names
  pub was : A path ≡ Some x
  pub goes : moved cs path ≡ Some q
  pub from : path ≡ source ns q
  pub by : (carrier cs path ≡ Stays) ⊎ ((n : Place) × (c : Carry) × (r : Names) × Has ns n × (carrier cs path ≡ With c r) × (c.new ≡ Some n.new))

came_at : (cs : List Carry) (A : Tree) (ns : List Place) (q : Names) (x : Node) (k : Arrival) → ((n : Place) → Has ns n → IsPlaceOf cs n) → arrival ns q ≡ k → arrived_as cs A q k ≡ Some x → CameFrom cs A ns q x
came_at cs A ns q x Here sound e f =
    let k = kept_some (carrier cs q) (A q) x f in
    record { path = q; was = k.1; goes = rw k.0 refl; from = rw e refl; by = inl k.0 }
came_at cs A ns q x (From n r) sound e f =
    let h = arrival_has ns q n r e in
    let s = slot_found cs A n r x (sound n h.0) f in
    record {
      path = n.old ++ r;
      was = s.was;
      goes = rw (s.by, s.new, h.1) refl;
      from = rw e refl;
      by = inr (n, s.carry, r, h.0, s.by, s.new);
    }

pub arrived_came : (cs : List Carry) (A : Tree) (ns : List Place) (q : Names) (x : Node) → ((n : Place) → Has ns n → IsPlaceOf cs n) → arrived cs A ns q ≡ Some x → CameFrom cs A ns q x
arrived_came cs A ns q x sound f = came_at cs A ns q x (arrival ns q) sound refl f

-- what is moved to q arrives there, if nothing else is moved to a new path
pub record IsSettled (cs : List Carry) (all : List Place) (A : Tree) : Type 0 where
  pub valid : IsTree A
  pub ascending : IsAscending cs
  pub descending : IsDescending all
  pub sound : (n : Place) → Has all n → IsPlaceOf cs n
  pub complete : (n : Place) → IsPlaceOf cs n → Has all n
  pub own : (n : Place) (p : Names) (x : Node) → Has all n → A p ≡ Some x → moved cs p ≡ Some n.new → p ≡ n.old

stays_at : (cs : List Carry) (all : List Place) (A : Tree) (q : Names) (x : Node) (k : Arrival) → IsSettled cs all A → A q ≡ Some x → carrier cs q ≡ Stays → arrival all q ≡ k → arrived_as cs A q k ≡ Some x
stays_at cs all A q x Here s a c e = rw c a
stays_at cs all A q x (From n r) s a c e =
    let h = arrival_has all q n r e in
    let t = there_front A n.new r x s.valid (rw h.1 at a) in
    let f : carrier cs n.new ≡ Stays = stays_front cs n.new r (rw h.1 at c) in
    let o : n.new ≡ n.old = s.own n n.new t.0 h.0 t.1 (rw f refl) in
    let w = carrier_own cs n s.ascending (s.sound n h.0) in
    let no : With w.carry [] ≡ Stays = sym w.by ∙ ap (carrier cs) (sym o) ∙ f in
    absurd (cc)

sent_at : (cs : List Carry) (all : List Place) (A : Tree) (p q : Names) (x : Node) (c : Carry) (b r : Names) (k : Arrival) → IsSettled cs all A → A p ≡ Some x → carrier cs p ≡ With c r → c.new ≡ Some b → q ≡ b ++ r → arrival all q ≡ k → arrived_as cs A q k ≡ Some x
sent_at cs all A p q x c b r Here s a e n g f =
    let m = carrier_sent cs A p c b r e n in
    let no : Some r ≡ None = sym (cut-append b r) ∙ rw (sym g, sym m.new) (arrival_here all q m.item f (s.complete m.item m.is)) in
    absurd (cc)
sent_at cs all A p q x c b r (From n u) s a e w g f =
    let m = carrier_sent cs A p c b r e w in
    let h = arrival_has all q n u f in
    let cm : cut m.item.new q ≡ Some r = rw (m.new, g) (cut-append b r) in
    let cn : cut n.new q ≡ Some u = rw h.1 (cut-append n.new u) in
    ⊎_elim (λ i. same m h.1 i) (λ l. longer m h (cut-longer m.item.new n.new q r u l cm cn)) (arrival_top all q n u m.item r s.descending f (s.complete m.item m.is) cm)
  where
    same : (m : Sent cs A p c b r) → q ≡ n.new ++ u → n ≡ m.item → slot cs A (label_of n.label) u ≡ Some x
    same m h i =
        let ru : r ≡ u = append_cancel_left b r u (sym g ∙ h ∙ ap (λ (o : Place). o.new ++ u) i ∙ ap (λ (o : Names). o ++ u) m.new) in
        rw (i, ← ru) (m.stands ∙ a)

    longer : (m : Sent cs A p c b r) → Has all n × (q ≡ n.new ++ u) → (y : List ℕ) × (v : Names) × (n.new ≡ m.item.new ++ y ∷ v) → slot cs A (label_of n.label) u ≡ Some x
    longer m h l =
        let y = l.0 in
        let v = l.1 in
        let new : n.new ≡ b ++ y ∷ v = l.2 ∙ ap (λ (o : Names). o ++ y ∷ v) m.new in
        let ru : r ≡ (y ∷ v) ++ u = append_cancel_left b r ((y ∷ v) ++ u) (sym g ∙ h.1 ∙ ap (λ (o : Names). o ++ u) new ∙ append_assoc b (y ∷ v) u) in
        let pp : p ≡ (c.old ++ y ∷ v) ++ u = carrier_rest cs p c r e ∙ ap (λ (o : Names). c.old ++ o) ru ∙ sym (append_assoc c.old (y ∷ v) u) in
        let front : carrier cs (c.old ++ y ∷ v) ≡ With c (y ∷ v) = carrier_front cs c (y ∷ v) u r (sym (ap (carrier cs) pp) ∙ e) in
        let t = there_front A (c.old ++ y ∷ v) u x s.valid (sym (ap A pp) ∙ a) in
        let own : c.old ++ y ∷ v ≡ n.old = s.own n (c.old ++ y ∷ v) t.0 h.0 t.1 (rw (front, w, new) refl) in
        let k = carrier_own cs n s.ascending (s.sound n h.0) in
        let no : With c (y ∷ v) ≡ With k.carry [] = sym front ∙ ap (carrier cs) own ∙ k.by in
        absurd (cc)

goes_at : (cs : List Carry) (all : List Place) (A : Tree) (p q : Names) (x : Node) (k : Carried) → IsSettled cs all A → A p ≡ Some x → carrier cs p ≡ k → moved_as p k ≡ Some q → arrived cs A all q ≡ Some x
goes_at cs all A p q x Stays s a c e =
    let f : p ≡ q = cc in
    stays_at cs all A q x (arrival all q) s (rw f at a) (rw f at c) refl
goes_at cs all A p q x (With c r) s a e f = goes_to c.new refl (f)
  where
    goes_to : (o : Option Names) → c.new ≡ o → then_rest c.new r ≡ Some q → arrived cs A all q ≡ Some x
    goes_to None n g = let no : None ≡ Some q = rw n at g in absurd (cc)
    goes_to (Some b) n g = let h : Some (b ++ r) ≡ Some q = rw n at g in sent_at cs all A p q x c b r (arrival all q) s a e n (cc) refl

pub moved_arrives : (cs : List Carry) (all : List Place) (A : Tree) (p q : Names) (x : Node) → IsSettled cs all A → A p ≡ Some x → moved cs p ≡ Some q → arrived cs A all q ≡ Some x
moved_arrives cs all A p q x s a e = goes_at cs all A p q x (carrier cs p) s a refl e
