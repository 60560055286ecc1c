-- The two looks of a new path share their front.
use Rattle.std.proofs.Common.{◌≡◌, ⊎_elim, ℕ, List, [], ◌∷◌, ◌++◌, Bool, true, false, cond, not, Option, Some, None, refl, sym, ◌∙◌, ap, append_assoc}
use Rattle.dc_path.specs.Paths.{Names, at_cut, cut, same_path}
use Rattle.dc_path.proofs.PathLemmas.{cut_more, cut_none, not_longer, append-cut, same_path-refl, same_path-true}
use Rattle.dc_report.specs.Carrying.{Place}
use Rattle.dc_replay.specs.Arrivals.{Arrival, From, Here, arrival, source, source_as}
use Rattle.dc_replay.specs.Checking.{others}
use Rattle.dc_replay.specs.Limits.{LooksShareFront}
use Rattle.dc_replay.proofs.Looks.{look_leads}

-- the same arrival, with one name more of rest
abbrev more : List ℕ → Arrival → Arrival
more x Here = Here
more x (From m r) = From m (r ++ x ∷ [])

-- a path is not under one that is longer
not_under : (d : Names) (x : List ℕ) → cut (d ++ x ∷ []) d ≡ None
not_under d x = by_cut (cut (d ++ x ∷ []) d) refl
  where
    by_cut : (o : Option Names) → cut (d ++ x ∷ []) d ≡ o → o ≡ None
    by_cut None e = refl
    by_cut (Some r) e = absurd (not_longer d x r (append-cut (d ++ x ∷ []) d r e))

module _ (n : Place) (d : Names) (x : List ℕ) (new : n.new ≡ d ++ x ∷ []) where
  passed_by : (m : Place) (ns : List Place) (b : Bool) (o : Option Names) → same_path m.new n.new ≡ b → cut m.new d ≡ o
      → arrival (others n ns) (d ++ x ∷ []) ≡ more x (arrival ns d)
      → arrival (cond (not b) (m ∷ others n ns) (others n ns)) (d ++ x ∷ []) ≡ more x (at_cut o (arrival ns d) (λ r. From m r))
  passed_by m ns true None e c ih = ih
  passed_by m ns true (Some r) e c ih =
      let k : m.new ≡ d ++ x ∷ [] = same_path-true m.new n.new e ∙ new in
      let f : Some r ≡ None = sym c ∙ ap (λ (u : Names). cut u d) k ∙ not_under d x in absurd (cc)
  passed_by m ns false (Some r) e c ih = rw (cut_more m.new d r x c) refl
  passed_by m ns false None e c ih = ⊎_elim (λ k. rw k ih)
      (λ k. let f : false ≡ true = sym e ∙ ap (λ (u : Names). same_path u n.new) (k ∙ sym new) ∙ same_path-refl n.new in absurd (cc))
      (cut_none m.new d x c)

  arrives_so : (ns : List Place) → arrival (others n ns) (d ++ x ∷ []) ≡ more x (arrival ns d)
  arrives_so [] = refl
  arrives_so (m ∷ ns) = passed_by m ns (same_path m.new n.new) (cut m.new d) refl refl (arrives_so ns)

  source_more : (a : Arrival) → source_as (d ++ x ∷ []) (more x a) ≡ source_as d a ++ x ∷ []
  source_more Here = refl
  source_more (From m r) = sym (append_assoc m.old r (x ∷ []))

  pub sources : (ns : List Place) → source (others n ns) (d ++ x ∷ []) ≡ source ns d ++ x ∷ []
  sources ns = ap (source_as (d ++ x ∷ [])) (arrives_so ns) ∙ source_more (arrival ns d)

pub looks_share_front : LooksShareFront
looks_share_front cs ns n d p q x new a b =
    (look_leads cs (others n ns) p n.new a).0
    ∙ ap (source (others n ns)) new
    ∙ sources n d x new ns
    ∙ ap (λ (u : Names). u ++ x ∷ []) (sym (look_leads cs ns q d b).0)
