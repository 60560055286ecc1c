-- True reports pass the tests, over what is carried.
use Rattle.std.proofs.Common.{◌≡◌, ◌⊎◌, inl, inr, ⊎_elim, ℕ, List, [], ◌∷◌, ◌++◌, true, false, not, Option, Some, None, refl, sym, ◌∙◌, ap, append_assoc}
use Rattle.std.specs.List.{list_any}
use Rattle.std.proofs.lemmas.List.{append-nil}
use Rattle.std.proofs.lemmas.Bool.{and_parts, and_right}
use Rattle.dc_attrs.specs.Attributes.{Attributes}
use Rattle.dc_attrs.specs.Trees.{Dir, File, IsDirAt, IsTree, Node, Tree, is_dir, IsThere}
use Rattle.dc_path.specs.Paths.{Names, same_path, is_above}
use Rattle.dc_report.specs.Carrying.{Carried, Carry, Has, Place, Plan, Stays, With, carrier, is_fresh, is_made, moved, moved_as, then_rest}
use Rattle.dc_replay.specs.Arrivals.{came, source}
use Rattle.dc_replay.specs.Checking.{IsOff}
use Rattle.dc_replay.proofs.Staging.{IsAscending}
use Rattle.dc_replay.proofs.Where.{IsPlaceOf, IsDescending, IsSettled, carrier_own, carrier_front, carrier_sent, stays_front, moved_arrives, place_carry}
use Rattle.dc_path.proofs.Fronts.{above_append}
use Rattle.dc_report.proofs.WalkLemmas.{fresh_snoc}
use Rattle.dc_replay.proofs.Allowed.{Checked, verdict_true}
use Rattle.dc_replay.proofs.Final.{came_arrives, leads_true, cond_some}
use Rattle.dc_path.proofs.PathLemmas.{same_path-refl, same_ends, by_last_name, ended_cons}
use Rattle.std.proofs.lemmas.Option.{same_Some}
use Rattle.dc_report.proofs.HasLemmas.{has_any}
use Rattle.dc_report.proofs.Carriers.{carrier_rest}
use Rattle.dc_report.specs.Landings.{is_at}
use Rattle.dc_attrs.proofs.TreeChanges.{there_front}

-- what the form of a report and the first test give
pub record IsForm (st : List ℕ) (P : Plan) : Type 0 where
  pub ascending : IsAscending P.carries
  pub descending : IsDescending P.news
  pub sound : (n : Place) → Has P.news n → IsPlaceOf P.carries n
  pub complete : (n : Place) → IsPlaceOf P.carries n → Has P.news n
  pub olds_off : (c : Carry) → Has P.carries c → IsOff st c.old
  pub news_off : (n : Place) → Has P.news n → IsOff st n.new
  pub no_root : list_any (λ c. same_path c []) P.places ≡ false

-- a report that is true, by what it carries
pub record IsTrueReport (P : Plan) (O N : Tree) : Type 0 where
  pub olds : (c : Carry) → Has P.carries c → IsThere O c.old
  pub apart : (p q r : Names) → IsThere O p → IsThere O q → moved P.carries p ≡ Some r → moved P.carries q ≡ Some r → p ≡ q
  pub leads : (p q : Names) (x : Node) → O p ≡ Some x → moved P.carries p ≡ Some q → (y : Node) × (N q ≡ Some y) × (is_dir x ≡ is_dir y)
  pub created : (d : Names) (y : List ℕ) → list_any (λ c. same_path c (d ++ y ∷ [])) P.places ≡ true → (p : Names) × IsDirAt O p × (moved P.carries p ≡ Some d)
  pub places : (q p : Names) → list_any (λ c. same_path c q) P.places ≡ true → IsThere O p → moved P.carries p ≡ Some q → ⊥
  pub fresh : (q : Names) → IsThere N q → ((p : Names) → IsThere O p → moved P.carries p ≡ Some q → ⊥) → is_fresh P q ≡ true

-- what leads to a child leads to its parent, unless a new path is the child
pub record LeadsUp (cs : List Carry) (p q : Names) : Type 0 where
  pub parent : Names
  pub name : List ℕ
  pub path : p ≡ parent ++ name ∷ []
  pub goes : moved cs parent ≡ Some q

pub moved_with : (cs : List Carry) (p b r : Names) (c : Carry) → carrier cs p ≡ With c r → c.new ≡ Some b → moved cs p ≡ Some (b ++ r)
moved_with cs p b r c e n = rw (e, n) refl

up_with : (P : Plan) (p q b r : Names) (y : List ℕ) (c : Carry) → ((n : Place) → IsPlaceOf P.carries n → n.new ≡ q ++ y ∷ [] → ⊥) → (O : Tree) → carrier P.carries p ≡ With c r → c.new ≡ Some b → b ++ r ≡ q ++ y ∷ [] → LeadsUp P.carries p q
up_with P p q b [] y c off O e n s =
    let k = carrier_sent P.carries O p c b [] e n in
    absurd (off k.item k.is (k.new ∙ sym (append-nil b) ∙ s))
up_with P p q b (x ∷ r) y c off O e n s =
    let k = ended_cons x r in
    let bq : b ++ k.front ≡ q = (same_ends (b ++ k.front) q k.name y (append_assoc b k.front (k.name ∷ []) ∙ ap (λ (u : Names). b ++ u) (sym k.path) ∙ s)).0 in
    let pp : p ≡ (c.old ++ k.front) ++ k.name ∷ [] = carrier_rest P.carries p c (x ∷ r) e ∙ ap (λ (u : Names). c.old ++ u) k.path ∙ sym (append_assoc c.old k.front (k.name ∷ [])) in
    let f : carrier P.carries (c.old ++ k.front) ≡ With c k.front = carrier_front P.carries c k.front (k.name ∷ []) (x ∷ r) (sym (ap (carrier P.carries) pp) ∙ e) in
    record { parent = c.old ++ k.front; name = k.name; path = pp; goes = moved_with P.carries (c.old ++ k.front) b k.front c f n ∙ ap (λ (u : Names). Some u) bq }

up_to : (P : Plan) (p q r : Names) (y : List ℕ) (c : Carry) (o : Option Names) → ((n : Place) → IsPlaceOf P.carries n → n.new ≡ q ++ y ∷ [] → ⊥) → (O : Tree) → carrier P.carries p ≡ With c r → c.new ≡ o → then_rest o r ≡ Some (q ++ y ∷ []) → LeadsUp P.carries p q
up_to P p q r y c None off O e n s = absurd (cc)
up_to P p q r y c (Some b) off O e n s = up_with P p q b r y c off O e n (same_Some (b ++ r) (q ++ y ∷ []) s)

up_at : (P : Plan) (p q : Names) (y : List ℕ) (k : Carried) → ((n : Place) → IsPlaceOf P.carries n → n.new ≡ q ++ y ∷ [] → ⊥) → (O : Tree) → carrier P.carries p ≡ k → moved_as p k ≡ Some (q ++ y ∷ []) → LeadsUp P.carries p q
up_at P p q y Stays off O e s =
    let pq : p ≡ q ++ y ∷ [] = same_Some p (q ++ y ∷ []) s in
    record { parent = q; name = y; path = pq; goes = rw (stays_front P.carries q (y ∷ []) (rw pq at e)) refl }
up_at P p q y (With c r) off O e s = up_to P p q r y c c.new off O e refl s

pub moved_up : (P : Plan) (O : Tree) (p q : Names) (y : List ℕ) → ((n : Place) → IsPlaceOf P.carries n → n.new ≡ q ++ y ∷ [] → ⊥) → moved P.carries p ≡ Some (q ++ y ∷ []) → LeadsUp P.carries p q
moved_up P O p q y off s = up_at P p q y (carrier P.carries p) off O refl s

pub any_new : (ns : List Place) (n : Place) (q : Names) → Has ns n → n.new ≡ q → list_any (λ m. same_path m.new q) ns ≡ true
any_new ns n q h e = has_any (λ m. same_path m.new q) ns n h (ap (λ (p : Names). same_path p q) e ∙ same_path-refl q)

pub root_fresh : (P : Plan) → list_any (λ c. same_path c []) P.places ≡ false → is_fresh P [] ≡ false
root_fresh P h = rw h (and_right (not (list_any (λ n. same_path n.new []) P.news)) false refl)

module _ (st : List ℕ) (P : Plan) (O N : Tree) (form : IsForm st P) (is_true : IsTrueReport P O N) where
  -- nothing is moved to what is fresh
  fresh_up : (d : Names) (y : List ℕ) (p : Names) → IsTree O → IsThere O p → moved P.carries p ≡ Some (d ++ y ∷ []) → list_any (λ n. same_path n.new (d ++ y ∷ [])) P.news ≡ false → ((u : Names) → IsThere O u → moved P.carries u ≡ Some d → ⊥) → ⊥
  fresh_up d y p v t m no_new ih =
      let g = moved_up P O p d y (λ n is e. let k : true ≡ false = sym (any_new P.news n (d ++ y ∷ []) (form.complete n is) e) ∙ no_new in cc) m in
      ih g.parent (there_front O g.parent (g.name ∷ []) t.0 v (ap O (sym g.path) ∙ t.1)) g.goes

  fresh_unmoved : IsTree O → (q : Names) → is_fresh P q ≡ true → (p : Names) → IsThere O p → moved P.carries p ≡ Some q → ⊥
  fresh_unmoved v = by_last_name (λ q. is_fresh P q ≡ true → (p : Names) → IsThere O p → moved P.carries p ≡ Some q → ⊥)
      (λ f p t m. let e : true ≡ false = sym f ∙ root_fresh P form.no_root in cc)
      (λ d y ih f p t m. ⊎_elim (λ i. is_true.places (d ++ y ∷ []) p i t m) (λ i. fresh_up d y p v t m i.0 (ih i.1))
      (verdict_true (list_any (λ c. same_path c (d ++ y ∷ [])) P.places) (list_any (λ n. same_path n.new (d ++ y ∷ [])) P.news) (is_fresh P d) (sym (fresh_snoc P d y) ∙ f)))

  own : (n : Place) (p : Names) (x : Node) → Has P.news n → O p ≡ Some x → moved P.carries p ≡ Some n.new → p ≡ n.old
  own n p x h e m =
      let k = carrier_own P.carries n form.ascending (form.sound n h) in
      let c = place_carry P.carries n (form.sound n h) in
      let t = is_true.olds c.0 c.1 in
      is_true.apart p n.old n.new (x, e) (t.0, ap O (sym c.2) ∙ t.1) m (moved_with P.carries n.old n.new [] k.carry k.by k.new ∙ ap (λ (u : Names). Some u) (append-nil n.new))

  settled : IsTree O → IsSettled P.carries P.news O
  settled v = record { valid = v; ascending = form.ascending; descending = form.descending; sound = form.sound; complete = form.complete; own = own }

  dir_of : (x y : Node) (a : Attributes) → is_dir x ≡ is_dir y → y ≡ Dir a → (b : Attributes) × (x ≡ Dir b)
  dir_of (Dir b) y a e f = (b, refl)
  dir_of (File c b) y a e f = let g : false ≡ true = e ∙ ap is_dir f in absurd (cc)

  -- to the parent of a new path a directory is moved, or it is to be made
  parent_at : (v : IsTree O) (n : Place) (d : Names) (y : List ℕ) (o : Option Node) → Has P.news n → n.new ≡ d ++ y ∷ [] → IsDirAt N d → came P O d ≡ o → ((p : Names) × IsDirAt O p × (moved P.carries p ≡ Some d)) ⊎ (is_made P P.news d ≡ true)
  parent_at v n d y None h e i c = inr (
      let f = is_true.fresh d (Dir i.0, i.1) (λ p t m.
      let a : Some t.0 ≡ None = sym (sym (came_arrives P O d (settled v)) ∙ moved_arrives P.carries P.news O p d t.0 (settled v) t.1 m) ∙ c in cc) in
      rw (f, has_any (λ m. is_above d m.new) P.news n h (above_append d y [] n.new e)) refl)
  parent_at v n d y (Some x) h e i c = inl (
      let k = cond_some (is_at (moved P.carries (source P.news d)) d) (O (source P.news d)) x c in
      let m = leads_true (moved P.carries (source P.news d)) d k.0 in
      let l = is_true.leads (source P.news d) d x k.1 m in
      let same : l.0 ≡ Dir i.0 = same_Some l.0 (Dir i.0) (sym l.1 ∙ i.1) in
      let b = dir_of x l.0 i.0 l.2 same in
      (source P.news d, (b.0, k.1 ∙ ap (λ (u : Node). Some u) b.1), m))

  -- each new path stands in the later tree
  pub new_there : (n : Place) → Has P.news n → IsThere N n.new
  new_there n h =
      let k = carrier_own P.carries n form.ascending (form.sound n h) in
      let c = place_carry P.carries n (form.sound n h) in
      let t = is_true.olds c.0 c.1 in
      let l = is_true.leads n.old n.new t.0 (ap O (sym c.2) ∙ t.1) (moved_with P.carries n.old n.new [] k.carry k.by k.new ∙ ap (λ (u : Names). Some u) (append-nil n.new)) in
      (l.0, l.1)

  -- a true report passes the tests on the earlier tree
  pub true_passes : IsTree O → IsTree N → O (st ∷ []) ≡ None → Checked st P O
  true_passes v w s = record {
    settled = settled v;
    stage = s;
    olds_off = form.olds_off;
    news_off = form.news_off;
    no_root = form.no_root;
    olds = is_true.olds;
    created = is_true.created;
    landing = λ n d y h e. let t = new_there n h in inr (parent_at v n d y (came P O d) h e (w.parents d y t.0 (ap N (sym e) ∙ t.1)) refl);
    unmade = λ q p x m e g. fresh_unmoved v q (and_parts (is_fresh P q) (list_any (λ n. is_above q n.new) P.news) m).0 p (x, e) g;
  }
