-- The map from new paths to old ones leads back to the one path that may have gone to a path.
use Rattle.std.proofs.Common.{ℕ, ◌≡◌, ◌≤◌, List, [], ◌∷◌, ◌++◌, length, drop, Option, Some, None, refl, sym, ◌∙◌, ap, length-append, arith}
use Rattle.std.specs.List.{filter_map}
use Rattle.std.proofs.lemmas.List.{map-append}
use Rattle.dc_path.specs.Paths.{Names, at_cut, cut}
use Rattle.dc_report.specs.Carries.{carries_in, carry_to}
use Rattle.dc_report.specs.Carrying.{Carried, Carry, Place, Stays, With, carried_by, carrier, carries_of, items_of, moved, moved_as, new_gt, or_carried, plan, sort_by}
use Rattle.dc_report.specs.Landings.{ascending, old_in, sources_of}
use Rattle.dc_report.specs.Moves.{moves_for, root_moves}
use Rattle.dc_report.specs.declared.entries.Entry.{Entry}
use Rattle.dc_replay.specs.Arrivals.{Arrival, From, Here, arrival, source, source_as}
use Rattle.dc_replay.specs.Replaying.{made_by}
use Rattle.dc_replay.specs.Tests.{made_list}
use Rattle.dc_replay.proofs.Bounds.{makes_are_parents, news_length}

-- ---- leading back
or_stays : (k : Carried) → k ≡ or_carried k Stays
or_stays Stays = refl
or_stays (With c r) = refl

or_assoc : (k l m : Carried) → or_carried (or_carried k l) m ≡ or_carried k (or_carried l m)
or_assoc Stays l m = refl
or_assoc (With c r) l m = refl

carrier_last : (cs : List Carry) (c : Carry) (p : Names) → carrier (cs ++ c ∷ []) p ≡ or_carried (carried_by c (cut c.old p)) (carrier cs p)
carrier_last [] c p = or_stays (carried_by c (cut c.old p))
carrier_last (d ∷ cs) c p =
    ap (λ (k : Carried). or_carried k (carried_by d (cut d.old p))) (carrier_last cs c p)
    ∙ or_assoc (carried_by c (cut c.old p)) (carrier cs p) (carried_by d (cut d.old p))

-- what carries a path by the map of new paths
abbrev back : Arrival → Carried
back Here = Stays
back (From n r) = With (carry_to n.new (Some n.old)) r

carrier_back : (ns : List Place) (q : Names) → carrier (carries_in (ascending old_in ns)) q ≡ back (arrival ns q)
carrier_back [] q = refl
carrier_back (n ∷ ns) q =
    ap (λ (cs : List Carry). carrier cs q) (map-append (λ (e : Names × Option Names). carry_to e.0 e.1) (ascending old_in ns) ((n.new, Some n.old) ∷ []))
    ∙ carrier_last (carries_in (ascending old_in ns)) (carry_to n.new (Some n.old)) q
    ∙ by_cut (cut n.new q) (carrier_back ns q)
  where
    by_cut : (o : Option Names) → carrier (carries_in (ascending old_in ns)) q ≡ back (arrival ns q)
        → or_carried (carried_by (carry_to n.new (Some n.old)) o) (carrier (carries_in (ascending old_in ns)) q) ≡ back (at_cut o (arrival ns q) (λ r. From n r))
    by_cut None ih = ih
    by_cut (Some r) ih = refl

moved_back : (q : Names) (a : Arrival) → moved_as q (back a) ≡ Some (source_as q a)
moved_back q Here = refl
moved_back q (From n r) = refl

pub leads_back : (R : List Entry) (q : Names) → moved (carries_in (sources_of (carries_of R))) q ≡ Some (source (plan R).news q)
leads_back R q = ap (moved_as q) (carrier_back (plan R).news q) ∙ moved_back q (arrival (plan R).news q)

-- ---- how many there are
ascending_length : {V : Type 0} (f : Place → V) (ns : List Place) → length (ascending f ns) ≡ length ns
ascending_length f [] = refl
ascending_length f (n ∷ ns) = let ih = ascending_length f ns in let k = length-append (ascending f ns) ((n.new, f n) ∷ []) in omega (arith, ih, k)

pub sources_few : (R : List Entry) → length (sources_of (carries_of R)) ≤ length R
sources_few R = let k = ascending_length old_in (plan R).news in let l = news_length R in omega (arith, k, l)

-- ---- the directories that the moves make behind the stage
tail_same : (x y : Names) (xs ys : List Names) → x ∷ xs ≡ y ∷ ys → xs ≡ ys
tail_same x y xs ys h = cc

pub made_behind : (st : List ℕ) (R : List Entry) → filter_map made_by (drop 1 (root_moves st R)) ≡ made_list (plan R) (plan R).news
made_behind st R = by (carries_of R) refl
  where
    by : (cs : List Carry) → carries_of R ≡ cs → filter_map made_by (drop 1 (moves_for st (plan R) cs)) ≡ made_list (plan R) (plan R).news
    by [] e = let f : (plan R).news ≡ [] = ap (λ (cs : List Carry). sort_by new_gt (items_of cs)) e in sym (ap (made_list (plan R)) f)
    by (c ∷ cs) e = tail_same (st ∷ []) (st ∷ []) _ _ (makes_are_parents st (plan R))
