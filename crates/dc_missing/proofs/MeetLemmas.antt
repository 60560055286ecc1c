-- What a walk meets: nothing, a path itself, what is under a name, one name more, all names; and where it stops.
use Rattle.std.proofs.Common.{◌≡◌, ℕ, suc, ◌+◌, List, [], ◌∷◌, ◌++◌, length, Bool, true, false, not, ◌&&◌, ◌||◌, Option, Some, None, refl, sym, ◌∙◌, ap, subst, append_assoc, append-nil, arith, length-append}
use Rattle.std.proofs.lemmas.Bool.{and_from, or_left, or_right}
use Rattle.std.proofs.lemmas.List.{length-map}
use Rattle.std.proofs.lemmas.List.Folds.{list_any-append}
use Rattle.std.specs.Cmp.{first_so, second_so}
use Rattle.std.specs.List.{list_any}
use Rattle.std.specs.Option.{is_some, option_map}
use Rattle.dc_path.specs.Found.{has_path}
use Rattle.dc_path.specs.Names.{same_name}
use Rattle.dc_path.specs.Order.{path_lt, name_lt, is_after}
use Rattle.dc_path.specs.Paths.{Names, same_path}
use Rattle.dc_path.proofs.OrderLemmas.{path_lt-after}
use Rattle.dc_path.proofs.PathLemmas.{NameCase, same, other, name_case, same_name-refl, same_name-flip}
use Rattle.dc_path.proofs.PathOrder.{path_lt-root}
use Rattle.dc_attrs.specs.Trees.{Tree, is_hidden}
use Rattle.dc_fs.specs.Looks.{is_shown}
use Rattle.dc_listing.specs.Walking.{is_below, is_in}
use Rattle.dc_listing.specs.Walks.{is_before}
use Rattle.dc_listing.proofs.Ascending.{ascending_under, ascending_then, has_path-under, has_path-under-root, under}
use Rattle.dc_listing.proofs.GainLemmas.{IsNext, IsStopIn, in_itself}
use Rattle.dc_listing.proofs.HoldLemmas.{before_under, in_one}
use Rattle.dc_missing.specs.Finding.{is_any}
use Rattle.dc_missing.specs.Walks.{is_met, has_room, Meets, MeetsAll, IsLimit, StopsAt}
use Rattle.dc_missing.specs.declared.error.DeleteError.{DeleteError}
use Rattle.dc_missing.proofs.UnderLemmas.{all_of, in_under, in_either, hidden_under}

-- ---- nothing
pub meets_none : (t : Tree) (dir : Names) (part : Names → Bool) (stop : Option Names) → ((q : Names) → part q ≡ true → is_met t dir q ≡ true → is_before stop q ≡ true → ⊥) → Meets t dir part stop []
meets_none t dir part stop h = record {
  ascending = refl;
  all = λ q. nothing q (part q) (is_met t dir q) (is_before stop q) refl refl refl;
  within = λ q k. cc;
}
  where
    nothing : (q : Names) (a b c : Bool) → part q ≡ a → is_met t dir q ≡ b → is_before stop q ≡ c → false ≡ (a && (b && c))
    nothing q true true true e f g = absurd (h q e f g)
    nothing q true true false e f g = refl
    nothing q true false c e f g = refl
    nothing q false b c e f g = refl

-- what is met is in the part, stands, is not hidden, and comes before the stop
pub met_parts : (t : Tree) (dir : Names) (part : Names → Bool) (stop : Option Names) (met : List Names) (q : Names) → Meets t dir part stop met → has_path met q ≡ true → (part q ≡ true) × (is_met t dir q ≡ true) × (is_before stop q ≡ true)
met_parts t dir part stop met q m h =
    let k = sym (m.all q) ∙ h in
    let l = second_so (part q) (is_met t dir q && is_before stop q) k in
    (first_so (part q) (is_met t dir q && is_before stop q) k, first_so (is_met t dir q) (is_before stop q) l, second_so (is_met t dir q) (is_before stop q) l)

-- ---- a path itself, and what is under it
met_itself : (t : Tree) (p : Names) → is_some (t p) ≡ true → is_met t p [] ≡ true
met_itself t p h = ap (λ (q : Names). is_some (t q) && true) (append-nil p) ∙ ap (λ b. b && true) h

pub meets_itself : (t : Tree) (p : Names) (stop : Option Names) (met : List Names) → is_some (t p) ≡ true → has_room t p ≡ true → is_before stop [] ≡ true → Meets t p is_below stop met → Meets t p is_any stop ([] ∷ met)
meets_itself t p stop met s r b m = record {
  ascending = and_from _ _ (all_of (path_lt []) met below) m.ascending;
  all = all_at;
  within = within_at;
}
  where
    below : (q : Names) → has_path met q ≡ true → path_lt [] q ≡ true
    below [] h = let k = (met_parts t p is_below stop met [] m h).0 in cc
    below (y ∷ q) h = refl

    all_at : (q : Names) → has_path ([] ∷ met) q ≡ (is_any q && (is_met t p q && is_before stop q))
    all_at [] = sym (and_from _ _ (met_itself t p s) b)
    all_at (y ∷ q) = m.all (y ∷ q)

    within_at : (q : Names) → has_path ([] ∷ met) q ≡ true → has_room t (p ++ q) ≡ true
    within_at [] h = ap (has_room t) (append-nil p) ∙ r
    within_at (y ∷ q) h = m.within (y ∷ q) h

-- ---- what is under a name
met_under : (t : Tree) (dir : Names) (x : List ℕ) (q : Names) → is_shown x ≡ true → is_met t dir (x ∷ q) ≡ is_met t (dir ++ x ∷ []) q
met_under t dir x q h = ap (λ b. is_some (t (dir ++ x ∷ q)) && not b) (hidden_under x q (is_hidden q) h refl) ∙ ap (λ (p : Names). is_some (t p) && not (is_hidden q)) (sym (append_assoc dir (x ∷ []) q))

pub meets_under : (t : Tree) (dir : Names) (x : List ℕ) (stop : Option Names) (met : List Names) → is_shown x ≡ true → Meets t (dir ++ x ∷ []) is_any stop met → Meets t dir (is_in (x ∷ [])) (option_map (λ (p : Names). x ∷ p) stop) (under x met)
meets_under t dir x stop met s m = record {
  ascending = ascending_under x met ∙ m.ascending;
  all = all_at;
  within = λ q h. let k = in_under x met q h in ap (λ (p : Names). has_room t (dir ++ p)) k.1 ∙ ap (has_room t) (sym (append_assoc dir (x ∷ []) k.0)) ∙ m.within k.0 k.2;
}
  where
    here : (r : Names) → has_path (under x met) (x ∷ r) ≡ (is_in (x ∷ []) (x ∷ r) && (is_met t dir (x ∷ r) && is_before (option_map (λ (p : Names). x ∷ p) stop) (x ∷ r)))
    here r =
        has_path-under x x met r
        ∙ ap (λ b. b && has_path met r) (same_name-refl x)
        ∙ m.all r
        ∙ ap (λ b. b && is_before stop r) (sym (met_under t dir x r s))
        ∙ ap (λ b. is_met t dir (x ∷ r) && b) (sym (before_under x stop r))
        ∙ ap (λ b. b && (is_met t dir (x ∷ r) && is_before (option_map (λ (p : Names). x ∷ p) stop) (x ∷ r))) (sym (in_itself x r))

    by : (y : List ℕ) (r : Names) → NameCase x y → has_path (under x met) (y ∷ r) ≡ (is_in (x ∷ []) (y ∷ r) && (is_met t dir (y ∷ r) && is_before (option_map (λ (p : Names). x ∷ p) stop) (y ∷ r)))
    by y r (same e k) = subst (λ (w : List ℕ). has_path (under x met) (w ∷ r) ≡ (is_in (x ∷ []) (w ∷ r) && (is_met t dir (w ∷ r) && is_before (option_map (λ (p : Names). x ∷ p) stop) (w ∷ r)))) k (here r)
    by y r (other e k) =
        has_path-under x y met r
        ∙ ap (λ b. b && has_path met r) e
        ∙ ap (λ b. (b || false) && (is_met t dir (y ∷ r) && is_before (option_map (λ (p : Names). x ∷ p) stop) (y ∷ r))) (sym (same_name-flip y x ∙ e))

    all_at : (q : Names) → has_path (under x met) q ≡ (is_in (x ∷ []) q && (is_met t dir q && is_before (option_map (λ (p : Names). x ∷ p) stop) q))
    all_at [] = has_path-under-root x met
    all_at (y ∷ r) = by y r (name_case x y)

-- ---- one name more
pub names_after : (done : Names) (x : List ℕ) (a b : Names) → IsNext done x → is_in done a ≡ true → is_in (x ∷ []) b ≡ true → is_after a b ≡ true
names_after done x [] b n h k = cc
names_after done x (y ∷ r) b n h k = let l = in_one x b k in ap (is_after (y ∷ r)) l.1 ∙ or_left (name_lt y x) (same_name y x && is_after r l.0) (n.before y h)

pub meets_then : (t : Tree) (dir : Names) (done : Names) (x : List ℕ) (stop : Option Names) (met more : List Names) → IsNext done x → IsStopIn x stop → Meets t dir (is_in done) None met → Meets t dir (is_in (x ∷ [])) stop more → Meets t dir (is_in (done ++ x ∷ [])) stop (met ++ more)
meets_then t dir done x stop met more n i m k = record {
  ascending = ascending_then (is_in done) (is_in (x ∷ [])) (λ a b h k. path_lt-after a b (names_after done x a b n h k)) met more m.ascending k.ascending
      (all_of (is_in done) met (λ q h. (met_parts t dir (is_in done) None met q m h).0))
      (all_of (is_in (x ∷ [])) more (λ q h. (met_parts t dir (is_in (x ∷ [])) stop more q k h).0));
  all = λ q. list_any-append (λ p. same_path p q) met more ∙ ap (λ b. b || has_path more q) (m.all q) ∙ ap (λ b. (is_in done q && (is_met t dir q && true)) || b) (k.all q) ∙ both q;
  within = λ q h. in_either met more q h (m.within q) (k.within q);
}
  where
    early : (stop : Option Names) → IsStopIn x stop → (y : List ℕ) (r : Names) → list_any (same_name y) done ≡ true → is_before stop (y ∷ r) ≡ true
    early None i y r h = refl
    early (Some q) i y r h = ap (path_lt (y ∷ r)) i.1 ∙ or_left (name_lt y x) (same_name y x && path_lt r i.0) (n.before y h)

    then_bool : (p q l b : Bool) → (p ≡ true → b ≡ true) → ((p && (l && true)) || (q && (l && b))) ≡ ((p || q) && (l && b))
    then_bool true q true true h = refl
    then_bool true q true false h = let k : false ≡ true = h refl in cc
    then_bool true true false b h = refl
    then_bool true false false b h = refl
    then_bool false q l b h = refl

    both : (q : Names) → ((is_in done q && (is_met t dir q && true)) || (is_in (x ∷ []) q && (is_met t dir q && is_before stop q))) ≡ (is_in (done ++ x ∷ []) q && (is_met t dir q && is_before stop q))
    both [] = refl
    both (y ∷ r) = then_bool (list_any (same_name y) done) (list_any (same_name y) (x ∷ [])) (is_met t dir (y ∷ r)) (is_before stop (y ∷ r)) (early stop i y r) ∙ ap (λ b. b && (is_met t dir (y ∷ r) && is_before stop (y ∷ r))) (sym (list_any-append (same_name y) done (x ∷ [])))

-- ---- another part, in which the same is met
pub meets_as : (t : Tree) (dir : Names) (part whole : Names → Bool) (stop : Option Names) (met : List Names) → ((q : Names) → part q ≡ true → whole q ≡ true) → ((q : Names) → whole q ≡ true → is_met t dir q ≡ true → is_before stop q ≡ true → part q ≡ true) → Meets t dir part stop met → Meets t dir whole stop met
meets_as t dir part whole stop met f g m = record {
  ascending = m.ascending;
  all = λ q. m.all q ∙ as_bool (part q) (whole q) (is_met t dir q) (is_before stop q) (f q) (g q);
  within = m.within;
}
  where
    as_bool : (p q l b : Bool) → (p ≡ true → q ≡ true) → (q ≡ true → l ≡ true → b ≡ true → p ≡ true) → (p && (l && b)) ≡ (q && (l && b))
    as_bool true true l b f g = refl
    as_bool true false l b f g = let k : false ≡ true = f refl in cc
    as_bool false true true true f g = g refl refl refl
    as_bool false true true false f g = refl
    as_bool false true false b f g = refl
    as_bool false false l b f g = refl

-- ---- stops
-- at a path itself, of which nothing was met
pub stops_itself : (e : DeleteError) (t : Tree) (p : Names) (before : ℕ) → is_some (t p) ≡ true → IsLimit e t p before → StopsAt e t p is_any before
stops_itself e t p before s l = record {
  stop = [];
  here = refl;
  stands = met_itself t p s;
  met = [];
  meets = meets_none t p is_any (Some []) (λ q i m b. let k = sym b ∙ path_lt-root q in cc);
  limit = subst (λ (q : Names). IsLimit e t q (before + 0)) (sym (append-nil p)) (subst (λ n. IsLimit e t p n) (omega arith) l);
}

-- under a path that is counted
pub stops_below : (e : DeleteError) (t : Tree) (p : Names) (before now : ℕ) → is_some (t p) ≡ true → has_room t p ≡ true → now ≡ before + 1 → StopsAt e t p is_below now → StopsAt e t p is_any before
stops_below e t p before now s r n k = record {
  stop = k.stop;
  here = refl;
  stands = k.stands;
  met = [] ∷ k.met;
  meets = meets_itself t p (Some k.stop) k.met s r (first k.stop k.here) k.meets;
  limit = subst (λ m. IsLimit e t (p ++ k.stop) m) (count (length k.met)) k.limit;
}
  where
    first : (q : Names) → is_below q ≡ true → path_lt [] q ≡ true
    first [] h = cc
    first (y ∷ q) h = refl

    count : (m : ℕ) → now + m ≡ before + suc m
    count m = omega (arith, n)

-- under a name
pub stops_under : (e : DeleteError) (t : Tree) (dir : Names) (x : List ℕ) (before : ℕ) → is_shown x ≡ true → StopsAt e t (dir ++ x ∷ []) is_any before → StopsAt e t dir (is_in (x ∷ [])) before
stops_under e t dir x before s k = record {
  stop = x ∷ k.stop;
  here = in_itself x k.stop;
  stands = met_under t dir x k.stop s ∙ k.stands;
  met = under x k.met;
  meets = meets_under t dir x (Some k.stop) k.met s k.meets;
  limit = subst (λ n. IsLimit e t (dir ++ x ∷ k.stop) (before + n)) (sym (length-map k.met (λ r. x ∷ r))) (subst (λ (q : Names). IsLimit e t q (before + length k.met)) (append_assoc dir (x ∷ []) k.stop) k.limit);
}

-- in the next name
pub stops_then : (e : DeleteError) (t : Tree) (dir : Names) (done : Names) (x : List ℕ) (before now : ℕ) → IsNext done x → MeetsAll t dir (is_in done) before now → StopsAt e t dir (is_in (x ∷ [])) now → (k : StopsAt e t dir (is_in (done ++ x ∷ [])) before) × (is_in (x ∷ []) k.stop ≡ true)
stops_then e t dir done x before now n m k =
    let at = in_one x k.stop k.here in (
      record {
        stop = k.stop;
        here = last k.stop k.here;
        stands = k.stands;
        met = m.met ++ k.met;
        meets = meets_then t dir done x (Some k.stop) m.met k.met n at m.meets k.meets;
        limit = subst (λ c. IsLimit e t (dir ++ k.stop) c) (count (length k.met) (length (m.met ++ k.met)) (length-append m.met k.met)) k.limit;
      },
      k.here,
    )
  where
    last : (q : Names) → is_in (x ∷ []) q ≡ true → is_in (done ++ x ∷ []) q ≡ true
    last [] h = cc
    last (y ∷ r) h = list_any-append (same_name y) done (x ∷ []) ∙ or_right (list_any (same_name y) done) (list_any (same_name y) (x ∷ [])) h

    count : (j l : ℕ) → l ≡ length m.met + j → now + j ≡ before + l
    count j l h = omega (arith, h, m.count)
