-- With a true report the moves, and the copy of what is listed, reach the later snapshot.
use Rattle.std.proofs.Common.{ℕ, ◌≡◌, ⊎_elim, List, [], ◌∷◌, ◌++◌, Bool, true, false, cond, Option, Some, None, refl, sym, ◌∙◌, ap}
use Rattle.std.specs.List.{list_any}
use Rattle.std.specs.Option.{option_or}
use Rattle.std.proofs.lemmas.Bool.{and_parts, or_parts}
use Rattle.std.proofs.lemmas.Option.{same_Some}
use Rattle.dc_attrs.specs.Trees.{Dir, IsDirAt, IsTree, Node, Tree, at}
use Rattle.dc_attrs.proofs.TreeLemmas.{front_is_dir}
use Rattle.dc_path.specs.Paths.{Names, is_above, has_name}
use Rattle.dc_path.proofs.PathLemmas.{same_path-refl}
use Rattle.dc_replay.specs.Arrivals.{came, shifted, source}
use Rattle.dc_report.specs.Carrying.{Has, carries_of, is_fresh, moved, plan}
use Rattle.dc_report.specs.Apart.{IsReport}
use Rattle.dc_report.specs.Moves.{moves_of}
use Rattle.dc_replay.specs.Checking.{IsStageFree, NoneMovedTo, Passes, is_to_be_made, where_to}
use Rattle.dc_replay.specs.Replaying.{CopyIsOne, EndIsReached, IsShifted, TrueReportsList}
use Rattle.dc_replay.specs.Steps.{after}
use Rattle.dc_replay.specs.Truth.{HasNoHidden, HasSameKinds, IsLikeness, IsTrueOf, KeepsNodes, are_alike, is_listed, kind, plain, takes_modified}
use Rattle.dc_report.specs.declared.entries.Entry.{Entry}
use Rattle.dc_report.specs.declared.entries.Entry.TheVariants.{Modified}
use Rattle.dc_replay.proofs.Base.{graft_at}
use Rattle.dc_report.proofs.HasLemmas.{any_has, has_any}
use Rattle.dc_replay.proofs.Where.{moved_arrives}
use Rattle.dc_replay.proofs.Allowed.{Checked, above_rest, off_root, none_or}
use Rattle.dc_replay.proofs.Final.{came_arrives, leads_true, cond_some, none_cond}
use Rattle.dc_replay.proofs.TrueReport.{IsForm, new_there, true_passes}
use Rattle.dc_replay.proofs.PlanLemmas.{form_of}
use Rattle.dc_replay.proofs.TrueEntries.{plan_true, plain_some, plain_at, plain_there, plain_valid, from_seen, true_makes_check_pass}
use Rattle.dc_replay.proofs.Replaying.{replaying, shifted_is}
use Rattle.dc_report.proofs.Carriers.{carrier_stays}
use Rattle.dc_report.specs.Landings.{is_at}
use Rattle.dc_attrs.proofs.TreeChanges.{valid_at}

-- ---- nodes that count as the same
like_some : (like : Node → Node → Bool) (a o : Option Node) (x : Node) → are_alike like a o ≡ true → o ≡ Some x → (y : Node) × (a ≡ Some y) × (like y x ≡ true)
like_some like None None x s e = absurd (cc)
like_some like None (Some z) x s e = absurd (cc)
like_some like (Some y) None x s e = absurd (cc)
like_some like (Some y) (Some z) x s e = (y, refl, ap (like y) (same_Some x z (sym e)) ∙ s)

like_there : (like : Node → Node → Bool) (a o : Option Node) (y : Node) → are_alike like a o ≡ true → a ≡ Some y → (x : Node) × (o ≡ Some x)
like_there like None o y s e = absurd (cc)
like_there like (Some z) None y s e = absurd (cc)
like_there like (Some z) (Some x) y s e = (x, refl)

like_none : (like : Node → Node → Bool) (a o : Option Node) → a ≡ None → are_alike like a o ≡ true → o ≡ None
like_none like None None e s = refl
like_none like None (Some x) e s = absurd (cc)
like_none like (Some y) o e s = absurd (cc)

like_kind : (like : Node → Node → Bool) → IsLikeness like → (a o : Option Node) → are_alike like a o ≡ true → kind a ≡ kind o
like_kind like is None None s = refl
like_kind like is None (Some y) s = absurd (cc)
like_kind like is (Some x) None s = absurd (cc)
like_kind like is (Some x) (Some y) s = ap Some (is.kinds x y s)

module _ (s st : List ℕ) (R : List Entry) (A O N : Tree) (like : Node → Node → Bool) (likeness : IsLikeness like)
    (is : IsReport R) (seen : HasNoHidden s R) (free : IsStageFree st R A) (v : IsTree A) (o : IsTree O) (w : IsTree N)
    (same : (p : Names) → (p ≡ [] → ⊥) → are_alike like (plain s A p) (O p) ≡ true) (t : IsTrueOf R O N) (keeps : KeepsNodes R O N) where
  kinds : HasSameKinds s A O
  kinds [] = ap kind v.root.1 ∙ ap kind (sym o.root.1)
  kinds (x ∷ p) = like_kind like likeness (plain s A (x ∷ p)) (O (x ∷ p)) (same (x ∷ p) (λ e. cc))

  pub end_passes : Passes st R A
  end_passes = true_makes_check_pass s st R A O N is seen free v w kinds t

  form : IsForm st (plan R)
  form = form_of st R is free.deleted free.renamed

  no_stage : O (st ∷ []) ≡ None
  no_stage = like_none like (plain s A (st ∷ [])) (O (st ∷ [])) (rw free.stage (none_cond (has_name s (st ∷ [])))) (same (st ∷ []) (λ e. cc))

  of_begin : Checked st (plan R) O
  of_begin = true_passes st (plan R) O N form (plan_true st R O N t) o w no_stage

  is_shifted : IsShifted R A (shifted (plan R) A)
  is_shifted = shifted_is st R A is v end_passes

  root_goes : moved (carries_of R) [] ≡ Some []
  root_goes = rw (carrier_stays (carries_of R) [] (λ c k. off_root st c.old [] (form.olds_off c k) refl)) refl

  not_root : (p q : Names) → (q ≡ [] → ⊥) → where_to R p ≡ Some q → p ≡ [] → ⊥
  not_root p q off m e = off (same_Some q [] (sym m ∙ ap (moved (carries_of R)) e ∙ root_goes))

  unmodified : (p q : Names) → (p ≡ [] → ⊥) → list_any (takes_modified R q) R ≡ false → where_to R p ≡ Some q → Has R (Modified p) → ⊥
  unmodified [] q low un m h = low refl
  unmodified (y ∷ p) q low un m h =
      let k : true ≡ false = sym (has_any (takes_modified R q) R (Modified (y ∷ p)) h (ap (λ (u : Option Names). is_at u q) m ∙ same_path-refl q)) ∙ un in cc

  survivor : (q : Names) (x y : Node) → list_any (takes_modified R q) R ≡ false → (q ≡ [] → ⊥) → came (plan R) O q ≡ Some x → are_alike like (shifted (plan R) A q) (N q) ≡ true
  survivor q x y un root c =
      let p = source (plan R).news q in
      let k = cond_some (is_at (where_to R p) q) (O p) x c in
      let m : where_to R p ≡ Some q = leads_true (where_to R p) q k.0 in
      let low = not_root p q root m in
      let i : N q ≡ Some x = keeps p q x (unmodified p q low un m) low k.1 m in
      let l = like_some like (plain s A p) (O p) x (same p low) k.1 in
      let a : A p ≡ Some l.0 = (plain_some (has_name s p) (A p) l.0 l.1).1 in
      rw (is_shifted.moved p q l.0 a m, i) l.2

  no_survivor : (q : Names) → came (plan R) O q ≡ None → NoneMovedTo R O q
  no_survivor q c p i m = let f : Some i.0 ≡ None = sym (sym (came_arrives (plan R) O q of_begin.settled) ∙ moved_arrives (carries_of R) (plan R).news O p q i.0 of_begin.settled i.1 m) ∙ c in cc

  -- what is made stands above a new path, which stands in the later snapshot
  made_there : (q : Names) → is_to_be_made R q ≡ true → IsDirAt N q
  made_there q k =
      let n = any_has (λ m. is_above q m.new) (plan R).news (and_parts (is_fresh (plan R) q) (list_any (λ m. is_above q m.new) (plan R).news) k).1 in
      let r = above_rest q n.0.new n.2 in
      let y = new_there st (plan R) O N form (plan_true st R O N t) n.0 n.1 in
      front_is_dir N q r.name r.rest y.0 (N q) w (ap N (sym r.path) ∙ y.1) refl

  -- and where nothing stands there, the moves leave nothing
  pub both_none : (q : Names) → (q ≡ [] → ⊥) → has_name s q ≡ false → N q ≡ None → shifted (plan R) A q ≡ None
  both_none q root h n = none_or (shifted (plan R) A q) (λ x e. ⊎_elim (λ k. from_path x k) (λ k. let d = made_there q k in let f : Some (Dir d.0) ≡ None = sym d.1 ∙ n in cc) (is_shifted.only q x e))
    where
      from_path : (x : Node) → (p : Names) × (A p ≡ Some x) × (where_to R p ≡ Some q) → ⊥
      from_path x k =
          let a : plain s A k.0 ≡ Some x = plain_at s A k.0 (from_seen s R seen k.0 q h k.2) ∙ k.1 in
          let b = like_there like (plain s A k.0) (O k.0) x (same k.0 (not_root k.0 q root k.2)) a in
          let l = t.leads k.0 q b.0 b.1 k.2 in
          let f : Some l.0 ≡ None = sym l.1 ∙ n in cc

  -- where nothing is listed, the moves alone give the later snapshot
  pub end_snapshot : (q : Names) → (q ≡ [] → ⊥) → has_name s q ≡ false → is_listed R q ≡ false → are_alike like (shifted (plan R) A q) (N q) ≡ true
  end_snapshot q root h un = by_end (N q) refl (came (plan R) O q) refl
    where
      parts : (is_fresh (plan R) q ≡ false) × (list_any (takes_modified R q) R ≡ false)
      parts = or_parts (is_fresh (plan R) q) (list_any (takes_modified R q) R) un

      by_end : (n : Option Node) → N q ≡ n → (c : Option Node) → came (plan R) O q ≡ c → are_alike like (shifted (plan R) A q) (N q) ≡ true
      by_end None e c f = rw (both_none q root h e, e) refl
      by_end (Some y) e None f = let g : true ≡ false = sym (t.fresh q (y, e) (no_survivor q f)) ∙ parts.0 in absurd (cc)
      by_end (Some y) e (Some x) f = survivor q x y parts.1 root f

pub end_reached : EndIsReached
end_reached s st d R T O N Y like is seen free v dir o w likeness t keeps same copied p root = by_hidden (has_name s p) refl
  where
    A : Tree
    A = at T d

    ok : Passes st R A
    ok = end_passes s st R A (plain s O) (plain s N) like likeness is seen free (valid_at T d v dir) (plain_valid s O o) (plain_valid s N w) same t keeps

    X : Tree
    X = at (after (moves_of st d R) T) d

    goes : X p ≡ shifted (plan R) A p
    goes = ap (λ (u : Tree). u (d ++ p)) (replaying st d R T is v dir ok).gives ∙ graft_at d T (shifted (plan R) A) p

    -- where nothing is listed, the moves alone lead there
    unlisted : has_name s p ≡ false → is_listed R p ≡ false → are_alike like (Y p) (N p) ≡ true
    unlisted h l =
        let k = end_snapshot s st R A (plain s O) (plain s N) like likeness is seen free (valid_at T d v dir) (plain_valid s O o) (plain_valid s N w) same t keeps p root h l in
        ap (λ (u : Option Node). are_alike like u (N p)) (copied.off p root h l ∙ goes) ∙ ap (are_alike like (shifted (plan R) A p)) (sym (plain_at s N p h)) ∙ k

    -- what is listed counts as what stands there, and where nothing stands the moves leave nothing
    by_node : has_name s p ≡ false → is_listed R p ≡ true → (n : Option Node) → N p ≡ n → are_alike like (Y p) n ≡ true
    by_node h l None e =
        let k = both_none s st R A (plain s O) (plain s N) like likeness is seen free (valid_at T d v dir) (plain_valid s O o) (plain_valid s N w) same t keeps p root h (plain_at s N p h ∙ e) in
        ap (λ (u : Option Node). are_alike like u None) (copied.absent p root h e ∙ goes ∙ k)
    by_node h l (Some y) e = copied.listed p y root h l e

    by_listed : has_name s p ≡ false → (b : Bool) → is_listed R p ≡ b → are_alike like (Y p) (N p) ≡ true
    by_listed h true l = by_node h l (N p) refl
    by_listed h false l = unlisted h l

    by_hidden : (b : Bool) → has_name s p ≡ b → are_alike like (cond b None (Y p)) (cond b None (N p)) ≡ true
    by_hidden true h = refl
    by_hidden false h = by_listed h (is_listed R p) refl

-- ---- a copy of whole nodes is a copy
pub copy_is_one : CopyIsOne
copy_is_one s R N X like likeness = record {
  off = λ q root h l. rw l refl;
  absent = λ q root h e. absent_at q (is_listed R q) e;
  listed = λ q x root h l e. rw (l, e) (likeness.same x);
}
  where
    absent_at : (q : Names) (b : Bool) → N q ≡ None → cond b (option_or (N q) (X q)) (X q) ≡ X q
    absent_at q true e = rw e refl
    absent_at q false e = refl

-- ---- what the listing looks for
pub true_reports_list : TrueReportsList
true_reports_list s R O N t = record {
  modified = λ x p q h m. let o = t.modified x p h in let n = t.leads (x ∷ p) q o.0 o.1 m in plain_there s N q (n.0, n.1);
  created = λ c q h e. plain_there s N q (t.places c q h e).0;
}
