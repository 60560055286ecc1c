-- Where names go that may pass the limits of a path.
use Rattle.std.proofs.Common.{◌≡◌, inl, inr, ℕ, ◌+◌, ◌-◌, ◌≤◌, List, [], ◌∷◌, ◌++◌, Bool, true, false, cond, length, take, drop, slice_get, Option, Some, None, Ok, Err, refl, sym, ◌∙◌, ap, subst, arith, append_assoc, length-append}
use Rattle.std.proofs.lemmas.List.{append-nil, length-drop, take-append-drop, take_all}
use Rattle.std.proofs.Math.Seq.{drop-append_seam}
use Rattle.std.specs.Option.{is_some}
use Rattle.dc_path.specs.Names.{same_name}
use Rattle.dc_path.specs.Paths.{IsWithin, Names, cut, is_under}
use Rattle.dc_path.specs.Reading.{within_limits}
use Rattle.dc_path.specs.declared.path.PathError.{PathError}
use Rattle.dc_path.proofs.LimitLemmas.{front_within, within_is}
use Rattle.dc_path.proofs.PathLemmas.{append-cut, cut-append, name_decides}
use Rattle.dc_report.specs.Carries.{IsFitting, OldsFit, hit_of}
use Rattle.dc_report.specs.Carrying.{Carried, Carry, Stays, With, carried_by, carrier, moved, moved_as, or_carried, then_rest}
use Rattle.dc_report.proofs.Lists.{drop_get}
use Rattle.dc_report.proofs.Carriers.{Leads, goes_by, goes_on, then_nothing}

-- ---- what is under a path with names more
cut_longer : (d p r t : Names) → cut d p ≡ Some r → cut d (p ++ t) ≡ Some (r ++ t)
cut_longer d p r t e =
    ap (λ (u : Names). cut d (u ++ t)) (append-cut d p r e) ∙ ap (cut d) (append_assoc d r t) ∙ cut-append d (r ++ t)

-- what is longer than the front and begins like the whole has the next name
past_front : (d p : Names) (x : List ℕ) (r s : Names) → cut d p ≡ None → cut d (p ++ x ∷ r) ≡ Some s → (u : Names) × (d ≡ p ++ x ∷ u)
past_front [] p x r s n e = absurd (cc)
past_front (a ∷ d) [] x r s n e = by_name (same_name a x) refl e
  where
    by_name : (b : Bool) → same_name a x ≡ b → cond b (cut d r) None ≡ Some s → (u : Names) × (a ∷ d ≡ x ∷ u)
    by_name true k f = (d, ap (λ (y : List ℕ). y ∷ d) ((name_decides a x).0 k))
    by_name false k f = absurd (cc)
past_front (a ∷ d) (b ∷ p) x r s n e = by_name (same_name a b) refl n e (past_front d p x r s)
  where
    by_name : (t : Bool) → same_name a b ≡ t → cond t (cut d p) None ≡ None → cond t (cut d (p ++ x ∷ r)) None ≡ Some s
        → (cut d p ≡ None → cut d (p ++ x ∷ r) ≡ Some s → (u : Names) × (d ≡ p ++ x ∷ u)) → (u : Names) × (a ∷ d ≡ (b ∷ p) ++ x ∷ u)
    by_name true k f g ih = let u = ih f g in (u.0, ap (λ (y : List ℕ). y ∷ d) ((name_decides a b).0 k) ∙ ap (λ (q : Names). b ∷ q) u.1)
    by_name false k f g ih = absurd (cc)

-- ---- the same carrier, with names more of rest
abbrev longer : Names → Carried → Carried
longer t Stays = Stays
longer t (With c r) = With c (r ++ t)

longer_or : (t : Names) (k l : Carried) → or_carried (longer t k) (longer t l) ≡ longer t (or_carried k l)
longer_or t Stays l = refl
longer_or t (With c r) l = refl

moved_longer : (p t : Names) (k : Carried) → moved_as (p ++ t) (longer t k) ≡ then_rest (moved_as p k) t
moved_longer p t Stays = refl
moved_longer p t (With c r) = by_new c.new
  where
    by_new : (o : Option Names) → then_rest o (r ++ t) ≡ then_rest (then_rest o r) t
    by_new None = refl
    by_new (Some b) = ap Some (sym (append_assoc b r t))

-- an old path within the limits does not reach past a front that is the longest within them
not_past : (d p : Names) (x : List ℕ) (r : Names) → IsWithin d → (IsWithin (p ++ x ∷ []) → ⊥) → cut d p ≡ None → cut d (p ++ x ∷ r) ≡ None
not_past d p x r w n e = by_cut (cut d (p ++ x ∷ r)) refl
  where
    by_cut : (o : Option Names) → cut d (p ++ x ∷ r) ≡ o → o ≡ None
    by_cut None f = refl
    by_cut (Some s) f =
        let u = past_front d p x r s e f in
        absurd (n (front_within (p ++ x ∷ []) u.0 (subst IsWithin (u.1 ∙ sym (append_assoc p (x ∷ []) u.0)) w)))

carrier_longer : (cs : List Carry) (p : Names) (x : List ℕ) (r : Names) → OldsFit cs → (IsWithin (p ++ x ∷ []) → ⊥) → carrier cs (p ++ x ∷ r) ≡ longer (x ∷ r) (carrier cs p)
carrier_longer [] p x r w n = refl
carrier_longer (c ∷ cs) p x r w n =
    ap (λ (k : Carried). or_carried k (carried_by c (cut c.old (p ++ x ∷ r)))) (carrier_longer cs p x r (λ d h. w d (inr h)) n)
    ∙ ap (or_carried (longer (x ∷ r) (carrier cs p))) (by_cut (cut c.old p) refl)
    ∙ longer_or (x ∷ r) (carrier cs p) (carried_by c (cut c.old p))
  where
    by_cut : (o : Option Names) → cut c.old p ≡ o → carried_by c (cut c.old (p ++ x ∷ r)) ≡ longer (x ∷ r) (carried_by c o)
    by_cut None e = ap (carried_by c) (not_past c.old p x r (w c (inl refl)) n e)
    by_cut (Some s) e = ap (carried_by c) (cut_longer c.old p s (x ∷ r) e)

-- names go where their longest front within the limits goes
pub fitting_moves : (cs : List Carry) (front names : Names) → OldsFit cs → (k : IsFitting front names) → then_rest (moved cs front) k.rest ≡ moved cs names
fitting_moves cs front names w k = by_rest k.rest refl
  where
    by_rest : (r : Names) → k.rest ≡ r → then_rest (moved cs front) k.rest ≡ moved cs names
    by_rest [] e =
        ap (then_rest (moved cs front)) e ∙ then_nothing (moved cs front)
        ∙ ap (moved cs) (sym (k.path ∙ ap (λ (u : Names). front ++ u) e ∙ append-nil front))
    by_rest (x ∷ r) e =
        ap (then_rest (moved cs front)) e ∙ sym (moved_longer front (x ∷ r) (carrier cs front))
        ∙ ap (moved_as (front ++ x ∷ r)) (sym (carrier_longer cs front x r w (k.longest x r e)))
        ∙ ap (moved cs) (sym (k.path ∙ ap (λ (u : Names). front ++ u) e))

-- ---- what follows the old path
-- the names behind the old path are the rest
rest_behind : (cs : List Carry) (front old rest : Names) (new : Option Names) → (k : Leads cs front old new) → drop (length old) (front ++ rest) ≡ k.rest ++ rest
rest_behind cs front old rest new k =
    ap (λ (u : Names). drop (length old) (u ++ rest)) k.path ∙ ap (drop (length old)) (append_assoc old k.rest rest)
    ∙ drop-append_seam old (k.rest ++ rest)

-- the old path is not longer than what has the front
pub old_short : (cs : List Carry) (front old names r : Names) (new : Option Names) → hit_of (carrier cs front) ≡ Some (old, new) → cut front names ≡ Some r → length old ≤ length names
old_short cs front old names r new h e =
    let k = goes_by cs front old new h in
    let a = ap length k.path in
    let b = length-append old k.rest in
    let c = ap length (append-cut front names r e) in
    let d = length-append front r in
    omega (arith, a, b, c, d)

-- ---- the names so far
-- the next name passes a limit
pub fitting_stops : (front names : Names) (i : ℕ) (x : List ℕ) (e : PathError) → front ≡ take i names → slice_get names i ≡ Some x → within_limits (front ++ x ∷ []) ≡ Err e → IsFitting front names
fitting_stops front names i x e f g l = record {
  rest = drop i names;
  path = sym (take-append-drop i names) ∙ ap (λ (u : Names). u ++ drop i names) (sym f);
  longest = λ y r k w.
      let q : x ∷ drop (i + 1) names ≡ y ∷ r = sym (drop_get names i x g) ∙ k in
      let s : x ≡ y = cc in
      let n : Ok (front ++ y ∷ []) ≡ Err e = sym (within_is (front ++ y ∷ []) w) ∙ ap (λ (u : List ℕ). within_limits (front ++ u ∷ [])) (sym s) ∙ l in
      cc;
}

-- what is put together is where the front goes, and the rest
pub put_together : (cs : List Carry) (front old rest names new to : Names) → hit_of (carrier cs front) ≡ Some (old, Some new) → names ≡ front ++ rest
    → to ≡ new ++ take (length names - length old) (drop (length old) names) → Some to ≡ then_rest (moved cs front) rest
put_together cs front old rest names new to h e t =
    let k = goes_by cs front old (Some new) h in
    ap Some (t ∙ ap (λ (u : Names). new ++ u) (to_end ∙ ap (drop (length old)) e ∙ rest_behind cs front old rest (Some new) k))
    ∙ sym (goes_on cs front old rest (Some new) k)
  where
    to_end : take (length names - length old) (drop (length old) names) ≡ drop (length old) names
    to_end = let l = length-drop (length old) names in take_all (length names - length old) (drop (length old) names) (omega (arith, l))

-- names are under each of their fronts
pub under_front : (front rest names : Names) → names ≡ front ++ rest → is_under front names ≡ true
under_front front rest names e = ap is_some (ap (cut front) e ∙ cut-append front rest)
