-- How many moves a report has.
use Rattle.std.proofs.Common.{◌≡◌, ℕ, suc, ◌+◌, ◌*◌, ◌≤◌, inl, inr, List, [], ◌∷◌, ◌++◌, Bool, true, false, cond, Option, Some, None, length, map, refl, ◌∙◌, ap, arith, length-append}
use Rattle.std.specs.List.{filter, filter_map, flat_map}
use Rattle.std.proofs.lemmas.List.{append-nil, length-map}
use Rattle.dc_path.specs.Paths.{Names, front_of}
use Rattle.dc_report.specs.Carrying.{Carry, Has, Place, Plan, add_item, carries_of, carry_of, insert_by, items_of, new_gt, old_lt, place, place_of, plan, sort_by}
use Rattle.dc_report.specs.Moves.{below, fronts, is_new_parent, label_of, moves, moves_for, parents, placing, staging}
use Rattle.dc_report.specs.Told.{AreTold}
use Rattle.dc_report.specs.declared.entries.Entry.{Entry}
use Rattle.dc_report.specs.declared.entries.Entry.TheVariants.{Created, Deleted, Modified, Renamed}
use Rattle.dc_report.specs.declared.entries.Move.{Move}
use Rattle.dc_report.specs.declared.entries.Move.TheVariants.{Clear, Make, Shift}
use Rattle.dc_replay.specs.Checking.{look, others}
use Rattle.dc_replay.specs.Limits.{all_looks, entry_looks, free_looks, new_looks, path_of_look}
use Rattle.dc_replay.specs.Replaying.{MakesAreParents, MovesAreFew, made_by}
use Rattle.dc_replay.specs.Tests.{made_list}
use Rattle.dc_replay.proofs.PlanLemmas.{news_sound, place_renamed}
use Rattle.dc_report.proofs.ToldApart.{told_entry}

-- ---- lists
insert_length : {X : Type 0} (lt : X → X → Bool) (x : X) (xs : List X) → length (insert_by lt x xs) ≡ suc (length xs)
insert_length lt x [] = refl
insert_length lt x (y ∷ ys) = by_test (insert_length lt x ys) (lt x y)
  where
    by_test : length (insert_by lt x ys) ≡ suc (length ys) → (b : Bool) → length (cond b (x ∷ y ∷ ys) (y ∷ insert_by lt x ys)) ≡ suc (suc (length ys))
    by_test ih true = refl
    by_test ih false = ap suc ih

sort_length : {X : Type 0} (lt : X → X → Bool) (xs : List X) → length (sort_by lt xs) ≡ length xs
sort_length lt [] = refl
sort_length lt (x ∷ xs) = insert_length lt x (sort_by lt xs) ∙ ap suc (sort_length lt xs)

carried_length : (R : List Entry) → length (filter_map carry_of R) ≤ length R
carried_length [] = omega arith
carried_length (Deleted p ∷ R) = let ih = carried_length R in omega (arith, ih)
carried_length (Renamed a b ∷ R) = let ih = carried_length R in omega (arith, ih)
carried_length (Created p ∷ R) = let ih = carried_length R in omega (arith, ih)
carried_length (Modified p ∷ R) = let ih = carried_length R in omega (arith, ih)

kept_length : {X : Type 0} (f : X → Bool) (xs : List X) → length (filter f xs) ≤ length xs
kept_length f [] = omega arith
kept_length f (x ∷ xs) = by_test (kept_length f xs) (f x) refl
  where
    by_test : length (filter f xs) ≤ length xs → (b : Bool) → f x ≡ b → length (filter f (x ∷ xs)) ≤ suc (length xs)
    by_test ih true k = rw k (omega (arith, ih))
    by_test ih false k = rw k (omega (arith, ih))

fronts_length : (front rest : Names) → length (fronts front rest) ≡ length rest
fronts_length front [] = refl
fronts_length front (x ∷ rest) = ap suc (fronts_length (front ++ x ∷ []) rest)

-- ---- the parts of the moves
add_length : (o : Option Names) (old : Names) (l : ℕ) (ns : List Place) → length (add_item o old l ns) ≤ suc (length ns)
add_length None old l ns = omega arith
add_length (Some b) old l ns = omega arith

items_length : (cs : List Carry) → length (items_of cs) ≤ length cs
items_length [] = omega arith
items_length (c ∷ cs) = let ih = items_length cs in let k = add_length c.new c.old (length cs) (items_of cs) in omega (arith, ih, k)

staging_length : (st : List ℕ) (cs : List Carry) → length (staging st cs) ≡ length cs
staging_length st [] = refl
staging_length st (c ∷ cs) =
    let ih = staging_length st cs in
    let k = length-append (staging st cs) (Shift c.old (st ∷ label_of (length cs) ∷ []) ∷ []) in
    omega (arith, ih, k)

parents_length : (P : Plan) (ns : List Place) (new : Names) → length (parents P ns new) ≤ length new
parents_length P ns new = let k = kept_length (is_new_parent P ns) (fronts [] new) in let l = fronts_length [] new in omega (arith, k, l)

-- each new path has at most 256 names
abbrev AreShort : List Place → Type 0
AreShort ns = (n : Place) → Has ns n → length n.new ≤ 256

placing_length : (st : List ℕ) (P : Plan) (ns : List Place) → AreShort ns → length (placing st P ns) ≤ 257 * length ns
placing_length st P [] s = omega arith
placing_length st P (n ∷ ns) s =
    let ih = placing_length st P ns (λ m h. s m (inr h)) in
    let l = s n (inl refl) in
    let k = parents_length P ns n.new in
    let shift = Shift (st ∷ label_of n.label ∷ []) n.new ∷ [] in
    let a = length-append (placing st P ns) (map Make (parents P ns n.new) ++ shift) in
    let b = length-append (map Make (parents P ns n.new)) shift in
    let c = length-map (parents P ns n.new) Make in
    omega (arith, ih, l, k, a, b, c)

made_length : (P : Plan) (ns : List Place) → AreShort ns → length (made_list P ns) ≤ 256 * length ns
made_length P [] s = omega arith
made_length P (n ∷ ns) s =
    let ih = made_length P ns (λ m h. s m (inr h)) in
    let l = s n (inl refl) in
    let k = parents_length P ns n.new in
    let a = length-append (made_list P ns) (parents P ns n.new) in
    omega (arith, ih, l, k, a)

moves_length : (st : List ℕ) (P : Plan) → AreShort P.news → length (moves st P) ≤ 2 + length P.carries + 257 * length P.news
moves_length st P s =
    let a = length-append (staging st P.carries) (placing st P P.news ++ Clear (st ∷ []) ∷ []) in
    let b = length-append (placing st P P.news) (Clear (st ∷ []) ∷ []) in
    let c = staging_length st P.carries in
    let d = placing_length st P P.news s in
    omega (arith, a, b, c, d)

moves_for_length : (st : List ℕ) (P : Plan) (cs : List Carry) → AreShort P.news → length (moves_for st P cs) ≤ 2 + length P.carries + 257 * length P.news
moves_for_length st P [] s = omega arith
moves_for_length st P (c ∷ cs) s = moves_length st P s

-- ---- by the entries
are_short : (R : List Entry) → AreTold [] R → AreShort (plan R).news
are_short R t n h = (told_entry [] R (Renamed n.old n.new) t (place_renamed R n (news_sound R n h))).1.0.limits.few

carries_length : (R : List Entry) → length (carries_of R) ≤ length R
carries_length R = let a = sort_length old_lt (filter_map carry_of R) in let b = carried_length R in omega (arith, a, b)

pub news_length : (R : List Entry) → length (plan R).news ≤ length R
news_length R =
    let a = sort_length new_gt (items_of (carries_of R)) in
    let b = items_length (carries_of R) in
    let c = carries_length R in
    omega (arith, a, b, c)

-- ---- the paths that are looked for
flat_once : {X Y : Type 0} (f : X → List Y) → ((x : X) → length (f x) ≤ 1) → (xs : List X) → length (flat_map f xs) ≤ length xs
flat_once f h [] = omega arith
flat_once f h (x ∷ xs) = let ih = flat_once f h xs in let k = h x in let a = length-append (f x) (flat_map f xs) in omega (arith, ih, k, a)

flat_twice : {X Y : Type 0} (f : X → List Y) → ((x : X) → length (f x) ≤ 2) → (xs : List X) → length (flat_map f xs) ≤ 2 * length xs
flat_twice f h [] = omega arith
flat_twice f h (x ∷ xs) = let ih = flat_twice f h xs in let k = h x in let a = length-append (f x) (flat_map f xs) in omega (arith, ih, k, a)

look_length : (o : Option Names) → length (path_of_look o) ≤ 1
look_length None = omega arith
look_length (Some p) = omega arith

entry_length : (e : Entry) → length (entry_looks e) ≤ 1
entry_length (Deleted p) = omega arith
entry_length (Renamed a b) = omega arith
entry_length (Created c) = omega arith
entry_length (Modified []) = omega arith
entry_length (Modified (x ∷ p)) = omega arith

new_length : (P : Plan) (n : Place) → length (new_looks P n) ≤ 2
new_length P n =
    let o = look P.carries (others n P.news) n.new in
    let u = look P.carries P.news (front_of n.new) in
    let a = look_length o in
    let b = look_length u in
    let c = length-append (path_of_look o) (path_of_look u) in
    omega (arith, a, b, c)

free_length : (P : Plan) (q : Names) → length (free_looks P q) ≤ 1
free_length P q = look_length (look P.carries P.news q)

place_step : (cs : List Carry) (e : Entry) (R : List Entry) → length (filter_map (place_of cs) R) ≤ length R → length (filter_map (place_of cs) (e ∷ R)) ≤ suc (length R)
place_step cs (Deleted p) R ih = omega (arith, ih)
place_step cs (Renamed a b) R ih = omega (arith, ih)
place_step cs (Modified p) R ih = omega (arith, ih)
place_step cs (Created c) R ih = by_place (place cs c) refl
  where
    by_place : (o : Option Names) → place cs c ≡ o → length (filter_map (place_of cs) (Created c ∷ R)) ≤ suc (length R)
    by_place None k = rw k (omega (arith, ih))
    by_place (Some q) k = rw k (omega (arith, ih))

places_length : (cs : List Carry) (R : List Entry) → length (filter_map (place_of cs) R) ≤ length R
places_length cs [] = omega arith
places_length cs (e ∷ R) = place_step cs e R (places_length cs R)

looks_length : (R : List Entry) (P : Plan) → length (all_looks R P) ≤ length R + 2 * length P.news + 2 * length P.places + length (made_list P P.news)
looks_length R P =
    let e = flat_map entry_looks R in
    let n = flat_map (new_looks P) P.news in
    let q = flat_map (free_looks P) P.places in
    let m = flat_map (free_looks P) (made_list P P.news) in
    let a = length-append e (n ++ (q ++ (m ++ P.places))) in
    let b = length-append n (q ++ (m ++ P.places)) in
    let c = length-append q (m ++ P.places) in
    let d = length-append m P.places in
    let f = flat_once entry_looks entry_length R in
    let g = flat_twice (new_looks P) (new_length P) P.news in
    let h = flat_once (free_looks P) (free_length P) P.places in
    let i = flat_once (free_looks P) (free_length P) (made_list P P.news) in
    omega (arith, a, b, c, d, f, g, h, i)

pub moves_are_few : MovesAreFew
moves_are_few st d R t =
    let c = carries_length R in
    let n = news_length R in
    let k = moves_for_length st (plan R) (carries_of R) (are_short R t) in
    let l = length-map (moves_for st (plan R) (carries_of R)) (below d) in
    let m = made_length (plan R) (plan R).news (are_short R t) in
    let p = places_length (carries_of R) R in
    let q = looks_length R (plan R) in
    record { moves = omega (arith, c, n, k, l); made = omega (arith, n, m); looks = omega (arith, n, m, p, q) }

-- ---- the directories that the moves make
made_append : (ms ns : List Move) → filter_map made_by (ms ++ ns) ≡ filter_map made_by ms ++ filter_map made_by ns
made_append [] ns = refl
made_append (Make p ∷ ms) ns = ap (λ (ps : List Names). p ∷ ps) (made_append ms ns)
made_append (Shift a b ∷ ms) ns = made_append ms ns
made_append (Clear p ∷ ms) ns = made_append ms ns

made_makes : (ps : List Names) → filter_map made_by (map Make ps) ≡ ps
made_makes [] = refl
made_makes (p ∷ ps) = ap (λ (qs : List Names). p ∷ qs) (made_makes ps)

made_staging : (st : List ℕ) (cs : List Carry) → filter_map made_by (staging st cs) ≡ []
made_staging st [] = refl
made_staging st (c ∷ cs) =
    made_append (staging st cs) (Shift c.old (st ∷ label_of (length cs) ∷ []) ∷ []) ∙ ap (λ (ps : List Names). ps ++ []) (made_staging st cs)

made_placing : (st : List ℕ) (P : Plan) (ns : List Place) → filter_map made_by (placing st P ns) ≡ made_list P ns
made_placing st P [] = refl
made_placing st P (n ∷ ns) =
    let shift = Shift (st ∷ label_of n.label ∷ []) n.new ∷ [] in
    let here : filter_map made_by (map Make (parents P ns n.new) ++ shift) ≡ parents P ns n.new =
    made_append (map Make (parents P ns n.new)) shift ∙ ap (λ (ps : List Names). ps ++ []) (made_makes (parents P ns n.new)) ∙ append-nil (parents P ns n.new) in
    made_append (placing st P ns) (map Make (parents P ns n.new) ++ shift)
    ∙ ap (λ (ps : List Names). ps ++ filter_map made_by (map Make (parents P ns n.new) ++ shift)) (made_placing st P ns)
    ∙ ap (λ (ps : List Names). made_list P ns ++ ps) here

pub makes_are_parents : MakesAreParents
makes_are_parents st P = ap (λ (ps : List Names). (st ∷ []) ∷ ps) rest
  where
    rest : filter_map made_by (staging st P.carries ++ (placing st P P.news ++ Clear (st ∷ []) ∷ [])) ≡ made_list P P.news
    rest =
        made_append (staging st P.carries) (placing st P P.news ++ Clear (st ∷ []) ∷ [])
        ∙ ap (λ (ps : List Names). ps ++ filter_map made_by (placing st P P.news ++ Clear (st ∷ []) ∷ [])) (made_staging st P.carries)
        ∙ made_append (placing st P P.news) (Clear (st ∷ []) ∷ [])
        ∙ ap (λ (ps : List Names). ps ++ []) (made_placing st P P.news)
        ∙ append-nil (made_list P P.news)
