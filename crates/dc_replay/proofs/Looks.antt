-- One path alone can lead to a place.
use Rattle.std.proofs.Common.{ℕ, ◌≡◌, ◌⊎◌, inl, inr, ⊎_elim, List, [], ◌∷◌, ◌++◌, Bool, true, false, cond, not, Option, Some, None, refl, sym, ◌∙◌, ap, subst, append_assoc}
use Rattle.std.specs.List.{list_any}
use Rattle.std.proofs.lemmas.List.{append-nil, append_cancel_left}
use Rattle.dc_attrs.specs.Trees.{Dir, IsTree, Node, Tree, IsThere}
use Rattle.dc_path.specs.Order.{path_lt}
use Rattle.dc_path.specs.Paths.{Names, cut, same_path}
use Rattle.dc_replay.specs.Arrivals.{Arrival, From, Here, arrival, source, source_as}
use Rattle.dc_report.specs.Carrying.{Carried, Carry, Has, Place, Plan, Stays, With, carrier, moved, moved_as, new_gt, then_rest}
use Rattle.dc_replay.specs.Checking.{Looked, look, others}
use Rattle.dc_replay.proofs.Staging.{IsAscending}
use Rattle.dc_replay.proofs.Where.{IsPlaceOf, IsDescending, carrier_own, carrier_front, carrier_sent, Sent, stays_front, arrival_has, arrival_here, arrival_top}
use Rattle.dc_replay.proofs.Allowed.{Checked}
use Rattle.dc_replay.proofs.Final.{leads_true}
use Rattle.dc_replay.proofs.TrueReport.{IsForm}
use Rattle.dc_path.proofs.PathLemmas.{cut-append, same_path-refl, same_path-true}
use Rattle.dc_path.proofs.PathOrder.{cut-longer, path_lt-irrefl, prefix_or_less}
use Rattle.dc_path.proofs.OrderLemmas.{path_lt-trans}
use Rattle.std.proofs.lemmas.Option.{same_Some}
use Rattle.dc_report.proofs.HasLemmas.{filter_from, has_filter, filter_sorted, filter_true}
use Rattle.dc_report.proofs.Carriers.{carrier_rest}
use Rattle.dc_report.specs.Landings.{is_at}
use Rattle.dc_attrs.proofs.TreeChanges.{there_front}

-- what is known before one question about q is asked
pub record Asks (cs : List Carry) (L : List Place) (A : Tree) (q : Names) : Type 0 where
  pub valid : IsTree A
  pub ascending : IsAscending cs
  pub descending : IsDescending L
  pub sound : (n : Place) → Has L n → IsPlaceOf cs n
  pub own : (n : Place) (p u : Names) (x : Node) → Has L n → q ≡ n.new ++ u → A p ≡ Some x → moved cs p ≡ Some n.new → p ≡ n.old

stays_source : (cs : List Carry) (L : List Place) (A : Tree) (q : Names) (x : Node) (k : Arrival) → Asks cs L A q → A q ≡ Some x → carrier cs q ≡ Stays → arrival L q ≡ k → q ≡ source_as q k
stays_source cs L A q x Here s a c e = refl
stays_source cs L A q x (From n r) s a c e =
    let h = arrival_has L q n r e in
    let t = there_front A n.new r x s.valid (rw h.1 at a) in
    let f : carrier cs n.new ≡ Stays = stays_front cs n.new r (rw h.1 at c) in
    let o : n.new ≡ n.old = s.own n n.new r t.0 h.0 h.1 t.1 (rw f refl) in
    let w = carrier_own cs n s.ascending (s.sound n h.0) in
    let impossible : With w.carry [] ≡ Stays = sym w.by ∙ ap (carrier cs) (sym o) ∙ f in
    absurd (cc)

sent_source : (cs : List Carry) (L : List Place) (A : Tree) (p q : Names) (x : Node) (c : Carry) (b r : Names) (k : Arrival) → Asks cs L A q → A p ≡ Some x → carrier cs p ≡ With c r → c.new ≡ Some b → q ≡ b ++ r → (m : Sent cs A p c b r) → Has L m.item → arrival L q ≡ k → p ≡ source_as q k
sent_source cs L A p q x c b r Here s a e w g m i f =
    let impossible : Some r ≡ None = sym (cut-append b r) ∙ rw (sym g, sym m.new) (arrival_here L q m.item f i) in
    absurd (cc)
sent_source cs L A p q x c b r (From n u) s a e w g m i f =
    let h = arrival_has L q n u f in
    let cm : cut m.item.new q ≡ Some r = rw (m.new, g) (cut-append b r) in
    let cn : cut n.new q ≡ Some u = rw h.1 (cut-append n.new u) in
    ⊎_elim (λ j. same h.1 j) (λ l. longer h (cut-longer m.item.new n.new q r u l cm cn)) (arrival_top L q n u m.item r s.descending f i cm)
  where
    same : q ≡ n.new ++ u → n ≡ m.item → p ≡ n.old ++ u
    same h j =
        let ru : r ≡ u = append_cancel_left b r u (sym g ∙ h ∙ ap (λ (o : Place). o.new ++ u) j ∙ ap (λ (o : Names). o ++ u) m.new) in
        carrier_rest cs p c r e ∙ ap (λ (o : Names). c.old ++ o) ru ∙ ap (λ (o : Names). o ++ u) (sym m.old ∙ ap (λ (o : Place). o.old) (sym j))

    longer : Has L n × (q ≡ n.new ++ u) → (y : List ℕ) × (v : Names) × (n.new ≡ m.item.new ++ y ∷ v) → p ≡ n.old ++ u
    longer h l =
        let y = l.0 in
        let v = l.1 in
        let new : n.new ≡ b ++ y ∷ v = l.2 ∙ ap (λ (o : Names). o ++ y ∷ v) m.new in
        let ru : r ≡ (y ∷ v) ++ u = append_cancel_left b r ((y ∷ v) ++ u) (sym g ∙ h.1 ∙ ap (λ (o : Names). o ++ u) new ∙ append_assoc b (y ∷ v) u) in
        let pp : p ≡ (c.old ++ y ∷ v) ++ u = carrier_rest cs p c r e ∙ ap (λ (o : Names). c.old ++ o) ru ∙ sym (append_assoc c.old (y ∷ v) u) in
        let front : carrier cs (c.old ++ y ∷ v) ≡ With c (y ∷ v) = carrier_front cs c (y ∷ v) u r (sym (ap (carrier cs) pp) ∙ e) in
        let t = there_front A (c.old ++ y ∷ v) u x s.valid (sym (ap A pp) ∙ a) in
        let own : c.old ++ y ∷ v ≡ n.old = s.own n (c.old ++ y ∷ v) u t.0 h.0 h.1 t.1 (rw (front, w, new) refl) in
        let k = carrier_own cs n s.ascending (s.sound n h.0) in
        let impossible : With c (y ∷ v) ≡ With k.carry [] = sym front ∙ ap (carrier cs) own ∙ k.by in
        absurd (cc)

-- the one path that is looked for is the one that is moved to q
source_to : (cs : List Carry) (L : List Place) (A : Tree) (p q r : Names) (x : Node) (c : Carry) (o : Option Names) → Asks cs L A q → ((m : Place) → IsPlaceOf cs m → Has L m) → A p ≡ Some x → carrier cs p ≡ With c r → c.new ≡ o → then_rest o r ≡ Some q → p ≡ source L q
source_to cs L A p q r x c None s all a e n f = absurd (cc)
source_to cs L A p q r x c (Some b) s all a e n f = let m = carrier_sent cs A p c b r e n in sent_source cs L A p q x c b r (arrival L q) s a e n (sym (same_Some (b ++ r) q f)) m (all m.item m.is) refl

source_at : (cs : List Carry) (L : List Place) (A : Tree) (p q : Names) (x : Node) (k : Carried) → Asks cs L A q → ((m : Place) → IsPlaceOf cs m → Has L m) → A p ≡ Some x → carrier cs p ≡ k → moved_as p k ≡ Some q → p ≡ source L q
source_at cs L A p q x Stays s all a e f =
    let pq = same_Some p q f in
    pq ∙ stays_source cs L A q x (arrival L q) s (sym (ap A pq) ∙ a) (sym (ap (carrier cs) pq) ∙ e) refl
source_at cs L A p q x (With c r) s all a e f = source_to cs L A p q r x c c.new s all a e refl f

pub moved_source : (cs : List Carry) (L : List Place) (A : Tree) (p q : Names) (x : Node) → Asks cs L A q → ((m : Place) → IsPlaceOf cs m → Has L m) → A p ≡ Some x → moved cs p ≡ Some q → p ≡ source L q
moved_source cs L A p q x s all a f = source_at cs L A p q x (carrier cs p) s all a refl f

look_is : (cs : List Carry) (L : List Place) (p q : Names) → p ≡ source L q → moved cs p ≡ Some q → look cs L q ≡ Some p
look_is cs L p q e m = rw (← e, m, same_path-refl q) refl

pub look_leads : (cs : List Carry) (L : List Place) (p q : Names) → look cs L q ≡ Some p → (p ≡ source L q) × (moved cs p ≡ Some q)
look_leads cs L p q e = by_test (is_at (moved cs (source L q)) q) refl e
  where
    by_test : (b : Bool) → is_at (moved cs (source L q)) q ≡ b → cond b (Some (source L q)) None ≡ Some p → (p ≡ source L q) × (moved cs p ≡ Some q)
    by_test true l k = let s : source L q ≡ p = same_Some (source L q) p k in (sym s, rw (← s) (leads_true (moved cs (source L q)) q l))
    by_test false l k = absurd (cc)

-- the lesser ones of a descending list stand behind
abbrev Covers : List Place → List Place → Type 0
Covers all [] = Unit {0}
Covers all (n ∷ ns) = (k : Place) → Has all k → path_lt k.new n.new ≡ true → Has ns k

covers_step : (all ns : List Place) (n m k : Place) → Covers all (n ∷ m ∷ ns) → path_lt m.new n.new ≡ true → Has all k → path_lt k.new m.new ≡ true → Has ns k
covers_step all ns n m k c l h i = ⊎_elim
    (λ e. let no : true ≡ false = sym i ∙ ap (λ (u : Place). path_lt u.new m.new) e ∙ path_lt-irrefl m.new in absurd (cc))
    (λ g. g) (c k h (path_lt-trans k.new m.new n.new i l))

covers_tail : (all ns : List Place) (n : Place) → IsDescending (n ∷ ns) → Covers all (n ∷ ns) → Covers all ns
covers_tail all [] n d c = tt
covers_tail all (m ∷ ns) n d c = λ k h l. covers_step all ns n m k c (d.0 m (inl refl)) h l

covers_all : (all : List Place) → Covers all all
covers_all [] = tt
covers_all (n ∷ ns) = λ k h l. ⊎_elim (λ e. let no : true ≡ false = sym l ∙ ap (λ (u : Place). path_lt u.new n.new) e ∙ path_lt-irrefl n.new in absurd (cc)) (λ g. g) h

-- one item for one new path
one_item : (ns : List Place) (n m : Place) → IsDescending ns → Has ns n → Has ns m → n.new ≡ m.new → n ≡ m
one_item [] n m d h k e = absurd h
one_item (x ∷ ns) n m d (inl h) (inl k) e = h ∙ sym k
one_item (x ∷ ns) n m d (inl h) (inr k) e =
    let no : true ≡ false = sym (d.0 m k) ∙ ap (λ (u : Names). path_lt u x.new) (sym e ∙ ap (λ (u : Place). u.new) h) ∙ path_lt-irrefl x.new in absurd (cc)
one_item (x ∷ ns) n m d (inr h) (inl k) e =
    let no : true ≡ false = sym (d.0 n h) ∙ ap (λ (u : Names). path_lt u x.new) (e ∙ ap (λ (u : Place). u.new) k) ∙ path_lt-irrefl x.new in absurd (cc)
one_item (x ∷ ns) n m d (inr h) (inr k) e = one_item ns n m d.1 h k e

other_true : (m n : Place) → same_path m.new n.new ≡ false → not (same_path m.new n.new) ≡ true
other_true m n e = rw e refl

other_false : (m n : Place) → not (same_path m.new n.new) ≡ true → m.new ≡ n.new → ⊥
other_false m n h e = let k : false ≡ true = sym (ap not (ap (λ (u : Names). same_path u n.new) e ∙ same_path-refl n.new)) ∙ h in cc

-- no other path of A is moved to this new path
abbrev pub IsOwn : List Carry → Tree → Place → Type 0
IsOwn cs A n = (p : Names) (x : Node) → A p ≡ Some x → moved cs p ≡ Some n.new → p ≡ n.old

-- what is known before the look for a new path: to each lesser one nothing else is moved
pub asks_own : (st : List ℕ) (P : Plan) (A : Tree) (n : Place) (ns : List Place) → IsForm st P → IsTree A → Has P.news n → Covers P.news (n ∷ ns) → ((m : Place) → Has ns m → IsOwn P.carries A m) → Asks P.carries (others n P.news) A n.new
asks_own st P A n ns form v h c own = record {
  valid = v;
  ascending = form.ascending;
  descending = filter_sorted new_gt (λ m. not (same_path m.new n.new)) P.news form.descending;
  sound = λ m i. form.sound m (filter_from (λ k. not (same_path k.new n.new)) P.news m i);
  own = λ m p u x i e a f. own m (behind m u i (prefix_or_less m.new u n.new e) e) p x a f;
}
  where
    behind : (m : Place) (u : Names) → Has (others n P.news) m → (u ≡ []) ⊎ (path_lt m.new n.new ≡ true) → n.new ≡ m.new ++ u → Has ns m
    behind m u i (inl z) e = absurd (other_false m n (filter_true (λ k. not (same_path k.new n.new)) P.news m i) (sym (e ∙ ap (λ (w : Names). m.new ++ w) z ∙ append-nil m.new)))
    behind m u i (inr l) e = c m (filter_from (λ k. not (same_path k.new n.new)) P.news m i) l

own_sent : (st : List ℕ) (P : Plan) (A : Tree) (n : Place) (p r b : Names) (x : Node) (c : Carry) (t : Bool) → IsForm st P → Has P.news n → Asks P.carries (others n P.news) A n.new → A p ≡ Some x → carrier P.carries p ≡ With c r → c.new ≡ Some b → n.new ≡ b ++ r → (m : Sent P.carries A p c b r) → same_path m.item.new n.new ≡ t → (p ≡ source (others n P.news) n.new → p ≡ n.old) → p ≡ n.old
own_sent st P A n p r b x c true form h s a e w g m i go =
    let mn : m.item.new ≡ n.new = same_path-true m.item.new n.new i in
    let one : m.item ≡ n = one_item P.news m.item n form.descending (form.complete m.item m.is) h mn in
    let z : [] ≡ r = append_cancel_left b [] r (append-nil b ∙ sym m.new ∙ mn ∙ g) in
    carrier_rest P.carries p c r e ∙ ap (λ (u : Names). c.old ++ u) (sym z) ∙ append-nil c.old ∙ sym m.old ∙ ap (λ (u : Place). u.old) one
own_sent st P A n p r b x c false form h s a e w g m i go =
    go (sent_source P.carries (others n P.news) A p n.new x c b r (arrival (others n P.news) n.new) s a e w g m
    (has_filter (λ k. not (same_path k.new n.new)) P.news m.item (form.complete m.item m.is) (other_true m.item n i)) refl)

own_to : (st : List ℕ) (P : Plan) (A : Tree) (n : Place) (p r : Names) (x : Node) (c : Carry) (o : Option Names) → IsForm st P → Has P.news n → Asks P.carries (others n P.news) A n.new → A p ≡ Some x → carrier P.carries p ≡ With c r → c.new ≡ o → then_rest o r ≡ Some n.new → (p ≡ source (others n P.news) n.new → p ≡ n.old) → p ≡ n.old
own_to st P A n p r x c None form h s a e w f go = absurd (cc)
own_to st P A n p r x c (Some b) form h s a e w f go =
    let m = carrier_sent P.carries A p c b r e w in
    own_sent st P A n p r b x c (same_path m.item.new n.new) form h s a e w (sym (same_Some (b ++ r) n.new f)) m refl go

own_at : (st : List ℕ) (P : Plan) (A : Tree) (n : Place) (p : Names) (x : Node) (k : Carried) → IsForm st P → Has P.news n → Asks P.carries (others n P.news) A n.new → A p ≡ Some x → carrier P.carries p ≡ k → moved_as p k ≡ Some n.new → (p ≡ source (others n P.news) n.new → p ≡ n.old) → p ≡ n.old
own_at st P A n p x Stays form h s a e f go =
    let pq = same_Some p n.new f in
    go (pq ∙ stays_source P.carries (others n P.news) A n.new x (arrival (others n P.news) n.new) s (sym (ap A pq) ∙ a) (sym (ap (carrier P.carries) pq) ∙ e) refl)
own_at st P A n p x (With c r) form h s a e f go = own_to st P A n p r x c c.new form h s a e refl f go

-- one look decides whether anything else is moved to a new path
pub own_by_look : (st : List ℕ) (P : Plan) (A : Tree) (n : Place) → IsForm st P → Has P.news n → Asks P.carries (others n P.news) A n.new → ((p : Names) → look P.carries (others n P.news) n.new ≡ Some p → IsThere A p → p ≡ n.old) → IsOwn P.carries A n
own_by_look st P A n form h s test p x a m = own_at st P A n p x (carrier P.carries p) form h s a refl m (λ e. test p (look_is P.carries (others n P.news) p n.new e m) (x, a))

all_own : (st : List ℕ) (P : Plan) (A : Tree) (ns : List Place) → IsForm st P → IsTree A → Looked P A → ((n : Place) → Has ns n → Has P.news n) → IsDescending ns → Covers P.news ns → (m : Place) → Has ns m → IsOwn P.carries A m
all_own st P A [] form v looked sub d c m h = absurd h
all_own st P A (n ∷ ns) form v looked sub d c m (inr h) = all_own st P A ns form v looked (λ k i. sub k (inr i)) d.1 (covers_tail P.news ns n d c) m h
all_own st P A (n ∷ ns) form v looked sub d c m (inl e) =
    let ih = all_own st P A ns form v looked (λ k i. sub k (inr i)) d.1 (covers_tail P.news ns n d c) in
    let h = sub n (inl refl) in
    subst (λ (k : Place). IsOwn P.carries A k) (sym e) (own_by_look st P A n form h (asks_own st P A n ns form v h c ih) (λ p. looked.own n p h))

pub looks_own : (st : List ℕ) (P : Plan) (A : Tree) → IsForm st P → IsTree A → Looked P A → (n : Place) → Has P.news n → IsOwn P.carries A n
looks_own st P A form v looked = all_own st P A P.news form v looked (λ n h. h) form.descending (covers_all P.news)

-- before any other question
pub asks_all : (st : List ℕ) (P : Plan) (A : Tree) (q : Names) → IsForm st P → IsTree A → ((n : Place) → Has P.news n → IsOwn P.carries A n) → Asks P.carries P.news A q
asks_all st P A q form v own = record { valid = v; ascending = form.ascending; descending = form.descending; sound = form.sound; own = λ n p u x h e a m. own n h p x a m }

-- a look finds what is moved to q
pub found : (st : List ℕ) (P : Plan) (A : Tree) (p q : Names) (x : Node) → IsForm st P → IsTree A → ((n : Place) → Has P.news n → IsOwn P.carries A n) → A p ≡ Some x → moved P.carries p ≡ Some q → look P.carries P.news q ≡ Some p
found st P A p q x form v own a m = look_is P.carries P.news p q (moved_source P.carries P.news A p q x (asks_all st P A q form v own) form.complete a m) m

-- ---- what the tests say, the looks see
pub checked_looked : (st : List ℕ) (P : Plan) (A : Tree) → IsForm st P → Checked st P A → ((q p : Names) → list_any (λ c. same_path c q) P.places ≡ true → IsThere A p → moved P.carries p ≡ Some q → ⊥) → Looked P A
checked_looked st P A form ok places = record {
  own = λ n p h l t. ok.settled.own n p t.0 h t.1 (look_leads P.carries (others n P.news) p n.new l).1;
  parent = λ n d x h e. ⊎_elim (λ i. inl i)
      (λ i. inr (⊎_elim (λ j. inl (j.0, j.1, found st P A j.0 d (Dir j.1.0) form ok.settled.valid (λ m k p y a f. ok.settled.own m p y k a f) j.1.1 j.2)) (λ j. inr j) i))
      (ok.landing n d x h e);
  places = λ q p h l t. places q p h t (look_leads P.carries P.news p q l).1;
  made = λ q p h l t. ok.unmade q p t.0 h t.1 (look_leads P.carries P.news p q l).1;
}
