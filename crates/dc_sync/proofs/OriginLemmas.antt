-- The path that a report leads to another, by the map from new paths to old ones.
use Rattle.std.proofs.Common.{◌≡◌, ℕ, ◌-◌, Bool, true, false, cond, not, List, [], ◌∷◌, ◌++◌, length, Option, Some, None, slice_get, Result, Ok, Err, IfOk, refl, sym, ◌∙◌, ap}
use Rattle.dc_path.specs.Paths.{Names, front_of, same_path}
use Rattle.dc_path.proofs.PathLemmas.{front_of-append}
use Rattle.dc_report.specs.Carries.{carries_in}
use Rattle.dc_report.specs.Carrying.{Carry, Place, carries_of, moved, plan, then_rest}
use Rattle.dc_report.specs.Landings.{is_at, sources_of}
use Rattle.dc_report.specs.declared.entries.Entry.{Entry}
use Rattle.dc_replay.specs.Arrivals.{Here, arrival, source, source_as}
use Rattle.dc_replay.specs.Checking.{look, others}
use Rattle.dc_replay.proofs.LookFronts.{sources}
use Rattle.dc_replay.proofs.SourceMaps.{leads_back}
use Rattle.dc_listing.specs.Roots.{last_of}
use Rattle.dc_listing.proofs.NameLemmas.{last_is}
use Rattle.dc_sync.specs.Checks.{source_beside}

-- ---- the path that may lead to another
pub leads_none : (R : List Entry) (es : List (Names × Option Names)) (q : Names) → es ≡ sources_of (carries_of R) → None ≡ moved (carries_in es) q → ⊥
leads_none R es q e h = let k : None ≡ Some (source (plan R).news q) = h ∙ ap (λ xs. moved (carries_in xs) q) e ∙ leads_back R q in cc

pub leads_some : (R : List Entry) (es : List (Names × Option Names)) (q p : Names) → es ≡ sources_of (carries_of R) → Some p ≡ moved (carries_in es) q → p ≡ source (plan R).news q
leads_some R es q p e h = let k : Some p ≡ Some (source (plan R).news q) = h ∙ ap (λ xs. moved (carries_in xs) q) e ∙ leads_back R q in cc

-- the look by the path
pub look_at : (R : List Entry) (ns : List Place) (p q : Names) → p ≡ source ns q → cond (is_at (moved (carries_of R) p) q) (Some p) None ≡ look (carries_of R) ns q
look_at R ns p q e = ap (λ (u : Names). cond (is_at (moved (carries_of R) u) q) (Some u) None) e

-- ---- the rename to a path left out
-- nothing is renamed to the root but by the rename that is left out
root_arrival : (n : Place) (ns : List Place) → n.new ≡ [] → arrival (others n ns) [] ≡ Here
root_arrival n [] e = refl
root_arrival n (m ∷ ns) e = by m.new (same_path m.new n.new) refl refl (root_arrival n ns e)
  where
    by : (new : Names) (b : Bool) → m.new ≡ new → same_path m.new n.new ≡ b → arrival (others n ns) [] ≡ Here → arrival (cond (not b) (m ∷ others n ns) (others n ns)) [] ≡ Here
    by new true f g ih = ih
    by [] false f g ih = let k : false ≡ true = sym g ∙ ap (λ (u : Names). same_path u n.new) f ∙ ap (same_path []) e in absurd (cc)
    by (x ∷ p) false f g ih = rw f ih

beside_root : (R : List Entry) (n : Place) (p : Names) → n.new ≡ [] → Some p ≡ Some [] → p ≡ source (others n (plan R).news) n.new
beside_root R n p e h =
    let k : p ≡ [] = cc in
    k ∙ sym (ap (source (others n (plan R).news)) e ∙ ap (source_as []) (root_arrival n (plan R).news e))

-- a path that is not the root, by its front and its last name
record Ends (p : Names) : Type 0 where
  front : Names
  last : List ℕ
  is : p ≡ front ++ last ∷ []
  name : last_of p ≡ last ∷ []

ends : (x : List ℕ) (p : Names) → Ends (x ∷ p)
ends x [] = record { front = []; last = x; is = refl; name = refl }
ends x (y ∷ p) = let k = ends y p in record { front = x ∷ k.front; last = k.last; is = ap (λ (u : Names). x ∷ u) k.is; name = k.name }

pub beside : (R : List Entry) (es : List (Names × Option Names)) (n : Place) (p q : Names) → es ≡ sources_of (carries_of R) → n.new ≡ q → Some p ≡ source_beside (carries_in es) q
    → p ≡ source (others n (plan R).news) n.new
beside R es n p [] e f h = beside_root R n p f h
beside R es n p (x ∷ q) e f h =
    let k = ends x q in
    let new : n.new ≡ k.front ++ k.last ∷ [] = f ∙ k.is in
    let front : front_of (x ∷ q) ≡ k.front = ap front_of k.is ∙ front_of-append k.front k.last in
    let by : Some p ≡ Some (source (plan R).news k.front ++ k.last ∷ []) =
    h
    ∙ ap (λ (u : Names). then_rest (moved (carries_in es) u) (last_of (x ∷ q))) front
    ∙ ap (λ (u : Names). then_rest (moved (carries_in es) k.front) u) k.name
    ∙ ap (λ xs. then_rest (moved (carries_in xs) k.front) (k.last ∷ [])) e
    ∙ ap (λ (o : Option Names). then_rest o (k.last ∷ [])) (leads_back R k.front) in
    let is : p ≡ source (plan R).news k.front ++ k.last ∷ [] = cc in
    is ∙ sym (ap (source (others n (plan R).news)) new ∙ sources n k.front k.last new (plan R).news)

pub beside_none : (R : List Entry) (es : List (Names × Option Names)) (q : Names) → es ≡ sources_of (carries_of R) → None ≡ source_beside (carries_in es) q → ⊥
beside_none R es [] e h = cc
beside_none R es (x ∷ q) e h =
    let by : None ≡ Some (source (plan R).news (front_of (x ∷ q)) ++ last_of (x ∷ q)) =
    h
    ∙ ap (λ xs. then_rest (moved (carries_in xs) (front_of (x ∷ q))) (last_of (x ∷ q))) e
    ∙ ap (λ (o : Option Names). then_rest o (last_of (x ∷ q))) (leads_back R (front_of (x ∷ q))) in cc

pub other_looks : {E : Type 0} (R : List Entry) (es : List (Names × Option Names)) (p q u : Names) (result : Result (Option Names) E) → es ≡ sources_of (carries_of R) → u ≡ q → Some p ≡ source_beside (carries_in es) q
    → IfOk result (λ found. found ≡ cond (is_at (moved (carries_of R) p) u) (Some p) None) → IfOk result (λ found. (n : Place) → n.new ≡ q → found ≡ look (carries_of R) (others n (plan R).news) n.new)
other_looks R es p q u (Err e) s f h k = tt
other_looks R es p q u (Ok found) s f h k = λ n i.
    k ∙ ap (λ (v : Names). cond (is_at (moved (carries_of R) p) v) (Some p) None) (f ∙ sym i) ∙ look_at R (others n (plan R).news) p n.new (beside R es n p q s i h)

-- the last name behind where the parent came from
pub beside_is : (cs : List Carry) (q : Names) (last : List ℕ) (path : Names) → slice_get q (length q - 1) ≡ Some last → Some path ≡ moved cs (front_of q) → Some (path ++ last ∷ []) ≡ source_beside cs q
beside_is cs [] last path e h = absurd (cc)
beside_is cs (x ∷ q) last path e h =
    ap (λ (o : Option Names). then_rest o (last ∷ [])) h ∙ ap (then_rest (moved cs (front_of (x ∷ q)))) (sym (last_is (x ∷ q) last e))
