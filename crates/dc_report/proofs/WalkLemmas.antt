-- The walk down to each new path makes the parents that are to be made.
use Rattle.std.proofs.Common.{◌≡◌, inl, inr, ℕ, Bool, true, false, cond, not, ◌&&◌, ◌||◌, List, [], ◌∷◌, ◌++◌, map, Option, Some, None, refl, sym, ◌∙◌, ap, ap₂, subst, append_assoc}
use Rattle.std.proofs.lemmas.List.{append-nil}
use Rattle.std.proofs.lemmas.List.Folds.{list_any-append}
use Rattle.std.specs.BTreeMap.{is_at as is_key}
use Rattle.std.specs.Map.{lookup}
use Rattle.std.specs.BTreeSet.{contains}
use Rattle.std.specs.List.{filter, list_any}
use Rattle.std.specs.Option.{is_some}
use Rattle.std.specs.Ordering.{is_eq}
use Rattle.dc_path.specs.Paths.{is_above, Names, IsPath, path_cmp, same_path}
use Rattle.dc_report.specs.Carrying.{Has, Place, Plan, is_fresh, fresh_from, new_gt, verdict}
use Rattle.dc_report.specs.Landings.{ascending, label_in, is_above_last, is_fresh_at, is_landing, landing_moves, landings_moves, made_along}
use Rattle.dc_report.specs.Moves.{fronts, is_new_parent, label_of, parents, placing}
use Rattle.dc_report.specs.declared.entries.Move.{Move}
use Rattle.dc_report.specs.declared.entries.Move.TheVariants.{Make, Shift}
use Rattle.dc_report.specs.declared.moves.Ground.{Ground}
use Rattle.dc_path.proofs.Fronts.{above_append, above_between}
use Rattle.dc_report.proofs.HasLemmas.{any_has}
use Rattle.dc_report.proofs.Sorting.{IsSorted}
use Rattle.dc_path.proofs.PathLemmas.{ties_same, same_path-flip}
use Rattle.dc_path.proofs.LimitLemmas.{front_is_path}

-- the ground tells of the places and the new paths of a plan
pub record IsGround (g : Ground) (P : Plan) : Type 0 where
  pub places : (q : Names) → IsPath q → contains path_cmp g.places q ≡ list_any (λ c. same_path c q) P.places
  pub news : (q : Names) → is_landing g.landings q ≡ list_any (λ n. same_path n.new q) P.news

fresh_at : (g : Ground) (P : Plan) (q : Names) (b : Bool) → IsGround g P → IsPath q → is_fresh_at g q b ≡ verdict P q b
fresh_at g P q b h is = ap₂ (λ (c d : Bool). c || (not d && b)) (h.places q is) (h.news q)

-- ---- the verdict of one name more
fresh_snoc_at : (P : Plan) (front rest : Names) (x : List ℕ) (b : Bool) → fresh_from P front (rest ++ x ∷ []) b ≡ verdict P ((front ++ rest) ++ x ∷ []) (fresh_from P front rest b)
fresh_snoc_at P front [] x b = rw append-nil refl
fresh_snoc_at P front (y ∷ rest) x b =
    fresh_snoc_at P (front ++ y ∷ []) rest x (verdict P front b)
    ∙ ap (λ (q : Names). verdict P (q ++ x ∷ []) (fresh_from P (front ++ y ∷ []) rest (verdict P front b))) (append_assoc front (y ∷ []) rest)

pub fresh_snoc : (P : Plan) (q : Names) (x : List ℕ) → is_fresh P (q ++ x ∷ []) ≡ verdict P (q ++ x ∷ []) (is_fresh P q)
fresh_snoc P q x = fresh_snoc_at P [] q x false

-- ---- the paths that are made
made_one : (v a : Bool) (q : Names) (rest : List Names) → cond (v && not a) (q ∷ []) [] ++ rest ≡ cond (v && not (v && a)) (q ∷ rest) rest
made_one true true q rest = refl
made_one true false q rest = refl
made_one false a q rest = refl

-- what was made for the new paths before
abbrev IsMadeBefore : Option Names → List Place → Names → Type 0
IsMadeBefore last ns new = (q : Names) (x : List ℕ) (r : Names) → new ≡ q ++ x ∷ r → is_above_last last q ≡ list_any (λ n. is_above q n.new) ns

made_is : (g : Ground) (P : Plan) (last : Option Names) (ns : List Place) (new front rest : Names) (b : Bool) → IsGround g P → IsMadeBefore last ns new → IsPath new → new ≡ front ++ rest → is_fresh P front ≡ verdict P front b
    → made_along g last b front rest ≡ filter (is_new_parent P ns) (fronts front rest)
made_is g P last ns new front [] b h before is e v = refl
made_is g P last ns new front (x ∷ rest) b h before is e v =
    ap₂ (λ (c d : Bool). cond (c && not d) (front ∷ []) [] ++ made_along g last c (front ++ x ∷ []) rest) fresh (before front x rest e)
    ∙ ap (λ (ps : List Names). cond (is_fresh P front && not (list_any (λ n. is_above front n.new) ns)) (front ∷ []) [] ++ ps)
    (made_is g P last ns new (front ++ x ∷ []) rest (is_fresh P front) h before is (e ∙ sym (append_assoc front (x ∷ []) rest)) (fresh_snoc P front x))
    ∙ made_one (is_fresh P front) (list_any (λ n. is_above front n.new) ns) front (filter (is_new_parent P ns) (fronts (front ++ x ∷ []) rest))
  where
    fresh : is_fresh_at g front b ≡ is_fresh P front
    fresh = fresh_at g P front b h (front_is_path front (x ∷ rest) (subst IsPath e is)) ∙ sym v

-- ---- what was made before: above an earlier new path is above the last, too
abbrev last_new : List Place → Option Names
last_new [] = None
last_new (n ∷ ns) = Some n.new

or_absorbs : (a b : Bool) → (b ≡ true → a ≡ true) → a ≡ (a || b)
or_absorbs true b h = refl
or_absorbs false true h = h refl
or_absorbs false false h = refl

made_before : (n : Place) (ns : List Place) → IsSorted new_gt (n ∷ ns) → IsMadeBefore (last_new ns) ns n.new
made_before n [] s = λ q x r e. refl
made_before n (m ∷ ns) s = λ q x r e.
    or_absorbs (is_above q m.new) (list_any (λ k. is_above q k.new) ns) (λ h.
    let i = any_has (λ k. is_above q k.new) ns h in
    above_between q i.0.new m.new n.new i.2 (above_append q x r n.new e) (s.1.0 i.0 i.1) (s.0 m (inl refl)))

-- ---- the moves of one landing more
abbrev last_of : Option Names → List (Names × ℕ) → Option Names
last_of last [] = last
last_of last (e ∷ es) = last_of (Some e.0) es

last_append : (last : Option Names) (es : List (Names × ℕ)) (e : Names × ℕ) → last_of last (es ++ e ∷ []) ≡ Some e.0
last_append last [] e = refl
last_append last (d ∷ es) e = last_append (Some d.0) es e

last_ascending : (ns : List Place) → last_of None (ascending label_in ns) ≡ last_new ns
last_ascending [] = refl
last_ascending (n ∷ ns) = last_append None (ascending label_in ns) (n.new, n.label)

moves_append : (stage : List ℕ) (g : Ground) (last : Option Names) (es : List (Names × ℕ)) (e : Names × ℕ) → landings_moves stage g last (es ++ e ∷ []) ≡ landings_moves stage g last es ++ landing_moves stage g (last_of last es) e
moves_append stage g last [] e = append-nil (landing_moves stage g last e)
moves_append stage g last (d ∷ es) e =
    ap (λ (ms : List Move). landing_moves stage g last d ++ ms) (moves_append stage g (Some d.0) es e)
    ∙ sym (append_assoc (landing_moves stage g last d) (landings_moves stage g (Some d.0) es) (landing_moves stage g (last_of (Some d.0) es) e))

landing_is : (stage : List ℕ) (g : Ground) (P : Plan) (n : Place) (ns : List Place) → IsGround g P → IsSorted new_gt (n ∷ ns) → IsPath n.new
    → landing_moves stage g (last_new ns) (n.new, n.label) ≡ map Make (parents P ns n.new) ++ Shift (stage ∷ label_of n.label ∷ []) n.new ∷ []
landing_is stage g P n ns h s is =
    ap (λ (ps : List Names). map Make ps ++ Shift (stage ∷ label_of n.label ∷ []) n.new ∷ []) (made_is g P (last_new ns) ns n.new [] n.new false h (made_before n ns s) is refl refl)

-- the walks to all new paths, in their order, are the moves out of the stage
pub landings_are : (stage : List ℕ) (g : Ground) (P : Plan) (ns : List Place) → IsGround g P → IsSorted new_gt ns → ((n : Place) → Has ns n → IsPath n.new) → landings_moves stage g None (ascending label_in ns) ≡ placing stage P ns
landings_are stage g P [] h s is = refl
landings_are stage g P (n ∷ ns) h s is =
    moves_append stage g None (ascending label_in ns) (n.new, n.label)
    ∙ ap (λ (o : Option Names). landings_moves stage g None (ascending label_in ns) ++ landing_moves stage g o (n.new, n.label)) (last_ascending ns)
    ∙ ap₂ (λ (ms ks : List Move). ms ++ ks) (landings_are stage g P ns h s.1 (λ m k. is m (inr k))) (landing_is stage g P n ns h s (is n (inl refl)))

-- ---- a map of landings knows the new paths
some_lookup : (test : Names → Bool) (es : List (Names × ℕ)) → is_some (lookup test es) ≡ list_any (λ e. test e.0) es
some_lookup test [] = refl
some_lookup test (e ∷ es) = by_test (test e.0) e.1 (lookup test es) (list_any (λ d. test d.0) es) (some_lookup test es)
  where
    by_test : (b : Bool) (v : ℕ) (o : Option ℕ) (c : Bool) → is_some o ≡ c → is_some (cond b (Some v) o) ≡ (b || c)
    by_test true v o c h = refl
    by_test false v o c h = h

or_last : (a b c d : Bool) → a ≡ c → b ≡ d → (a || (b || false)) ≡ (d || c)
or_last true true c d h k = rw (← h, ← k) refl
or_last true false c d h k = rw (← h, ← k) refl
or_last false true c d h k = rw (← h, ← k) refl
or_last false false c d h k = rw (← h, ← k) refl

news_any : (q : Names) (ns : List Place) → list_any (λ e. is_eq (path_cmp q e.0)) (ascending label_in ns) ≡ list_any (λ n. same_path n.new q) ns
news_any q [] = refl
news_any q (n ∷ ns) =
    list_any-append (λ e. is_eq (path_cmp q e.0)) (ascending label_in ns) ((n.new, n.label) ∷ [])
    ∙ or_last (list_any (λ e. is_eq (path_cmp q e.0)) (ascending label_in ns)) (is_eq (path_cmp q n.new)) (list_any (λ m. same_path m.new q) ns) (same_path n.new q)
    (news_any q ns) (ties_same q n.new ∙ same_path-flip q n.new)

pub landing_known : (g : Ground) (ns : List Place) (q : Names) → g.landings.entries ≡ ascending label_in ns → is_landing g.landings q ≡ list_any (λ n. same_path n.new q) ns
landing_known g ns q e = some_lookup (is_key (path_cmp q)) g.landings.entries ∙ ap (list_any (λ d. is_eq (path_cmp q d.0))) e ∙ news_any q ns
