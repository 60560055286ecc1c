-- A walk that has met every path of the first part shows that two parts are the same; it meets no slot twice.
use Rattle.std.proofs.Common.{◌≡◌, ◌≢◌, ℕ, ◌+◌, ◌<◌, ◌≤◌, List, [], ◌∷◌, ◌++◌, Bool, true, false, ◌&&◌, ◌||◌, Option, Some, None, length, length-append, refl, sym, ◌∙◌, ap, subst, arith, zero, suc, nat_eq, inl, inr, ◌⊎◌}
use Rattle.std.specs.Option.{option_and_then}
use Rattle.std.specs.List.{list_any, list_all, IsDistinct, AllByRecursion}
use Rattle.std.proofs.lemmas.Bool.{cases_eq, eqb-true, and_parts}
use Rattle.std.proofs.lemmas.Bool.Decides.{nat_tests}
use Rattle.std.proofs.lemmas.Map.Steps.{length-le_from_distinct_below}
use Rattle.dc_path.specs.Order.{path_lt, all_below, is_ascending}
use Rattle.dc_path.specs.Paths.{Names}
use Rattle.dc_attrs.specs.Keeping.{Kept}
use Rattle.dc_attrs.specs.Trees.{Node, Dir, File, is_hidden}
use Rattle.dc_path.proofs.PathLemmas.{by_last_name, same_path-refl}
use Rattle.dc_path.proofs.OrderLemmas.{path_lt-apart, all_below-later, all_below-push, is_ascending-push}
use Rattle.dc_tree.specs.Arena.{Cell, cell_at, node_of, link, node, reach, IsArena}
use Rattle.dc_tree.specs.Same.{alike, counted}
use Rattle.dc_tree.specs.Walking.{Matched, Unmatched, Stands, Turns, Parts, node_from, SameBelow, DiffersBelow}
use Rattle.dc_tree.specs.declared.same.Pair.{Pair}
use Rattle.dc_tree.proofs.Graph.{one_path, reached_live, reach_next, reach_nowhere, reach_on}
use Rattle.dc_tree.proofs.Between.{PathOrder, earlier, this, later, path_order, shown_front, shown_name, shown_child, lt_nil}
use Rattle.dc_tree.proofs.Nexts.{all_push}

-- ---- slots that are alike, or not

pub both_absent : (keep : Kept) → alike keep None None ≡ true
unfolding alike
both_absent keep = refl

pub second_alone : (keep : Kept) (o : Option Node) → o ≢ None → alike keep None o ≡ false
unfolding alike
second_alone keep None h = absurd (h refl)
second_alone keep (Some (Dir a)) h = refl
second_alone keep (Some (File b a)) h = refl

pub first_alone : (keep : Kept) (o : Option Node) → o ≢ None → alike keep o None ≡ false
unfolding alike
first_alone keep None h = absurd (h refl)
first_alone keep (Some (Dir a)) h = refl
first_alone keep (Some (File b a)) h = refl

module _ (keep : Kept) (a b : List Cell) (i j : ℕ) where
  -- where a path leads in the first part, it leads in the second, to a slot that matches
  pub record Paired (q : Names) (c : ℕ) : Type 0 where
    pub slot : ℕ
    pub there : reach (link b) j q ≡ Some slot
    pub matched : Matched (counted keep q) a c b slot

  abbrev pub ArePaired : Names → Type 0
  ArePaired q = (c : ℕ) → reach (link a) i q ≡ Some c → Paired q c

  -- a walk after some turns
  pub record Walked (at : Pair) (turns : ℕ) : Type 0 where
    pub path : Names
    pub stands : Stands a i b j path at
    pub done : (q : Names) → is_hidden q ≡ false → path_lt q path ≡ true → ArePaired q
    pub met : List Names
    pub count : length met ≡ turns
    pub rising : is_ascending met ≡ true
    pub below : all_below met path ≡ true
    pub reached : AllByRecursion (λ q. (c : ℕ) × (reach (link a) i q ≡ Some c)) met
    pub deep : at.depth ≤ turns

  pub walk_starts : (at : Pair) → at.here ≡ i → at.there ≡ j → at.depth ≡ 0 → Walked at 0
  walk_starts at h t d = record {
    path = [];
    stands = record { here = ap (λ (k : ℕ). Some k) (sym h); there = ap (λ (k : ℕ). Some k) (sym t); deep = sym d; shown = refl };
    done = λ q s l. absurd (lt_nil q l);
    met = [];
    count = refl;
    rising = refl;
    below = refl;
    reached = tt;
    deep = omega (arith, d);
  }

  -- the pair at which a walk stands is matched, so its path is done
  paired_here : (r : Names) (at : Pair) → Stands a i b j r at → Matched (counted keep r) a at.here b at.there → ArePaired r
  paired_here r at w m c e =
      let both : Some at.here ≡ Some c = sym w.here ∙ e in
      let is : at.here ≡ c = cc in
      record { slot = at.there; there = w.there; matched = subst (λ (k : ℕ). Matched (counted keep r) a k b at.there) is m }

  done_at : (r q : Names) (at : Pair) → Stands a i b j r at → Matched (counted keep r) a at.here b at.there → (path_lt q r ≡ true → ArePaired q) → (path_lt r q ≡ true → ArePaired q) → PathOrder q r → ArePaired q
  done_at r q at w m old new (earlier h) = old h
  done_at r q at w m old new (this e) = subst ArePaired (sym e) (paired_here r at w m)
  done_at r q at w m old new (later h) = new h

  gone_pairs : (q : Names) → reach (link a) i q ≡ None → ArePaired q
  gone_pairs q n c e = let both : None ≡ Some c = sym n ∙ e in cc

  and_true : (b c : Bool) → b ≡ true → c ≡ true → (b && c) ≡ true
  and_true b c e f = ap (λ b. b && c) e ∙ f

  pub walk_on : (at to : Pair) (turns : ℕ) (w : Walked at turns) → Matched (counted keep w.path) a at.here b at.there → Turns a i b j (path_lt w.path) to → to.depth ≤ at.depth + 1 → Walked to (turns + 1)
  walk_on at to turns w m t d =
      let l = length-append w.met (w.path ∷ []) in
      let count = w.count in
      let deep = w.deep in
      record {
        path = t.path;
        stands = t.stands;
        done = λ q s h. done_at w.path q at w.stands m (w.done q s) (λ k. gone_pairs q (t.first q s k h)) (path_order q w.path);
        met = w.met ++ w.path ∷ [];
        count = omega (arith, l, count);
        rising = is_ascending-push w.met w.path w.rising w.below;
        below = all_below-push w.met w.path t.path ∙ and_true (all_below w.met t.path) (path_lt w.path t.path) (all_below-later w.met w.path t.path t.passes w.below) t.passes;
        reached = all_push (λ q. (c : ℕ) × (reach (link a) i q ≡ Some c)) w.met w.path w.reached (at.here, w.stands.here);
        deep = omega (arith, deep, d);
      }

  -- ---- a walk that is over

  pub all_done : (at : Pair) (turns : ℕ) (w : Walked at turns) → Matched (counted keep w.path) a at.here b at.there → ((q : Names) → is_hidden q ≡ false → path_lt w.path q ≡ true → reach (link a) i q ≡ None) → (q : Names) → is_hidden q ≡ false → ArePaired q
  all_done at turns w m over q s = done_at w.path q at w.stands m (w.done q s) (λ k. gone_pairs q (over q s k)) (path_order q w.path)

  -- where no path leads in the first part, none leads in the second
  absent_step : (p : Names) (x : List ℕ) (o : Option ℕ) → reach (link a) i p ≡ o → is_hidden (p ++ x ∷ []) ≡ false → ((q : Names) → is_hidden q ≡ false → ArePaired q) → (is_hidden p ≡ false → reach (link a) i p ≡ None → reach (link b) j p ≡ None) → reach (link a) i (p ++ x ∷ []) ≡ None → reach (link b) j (p ++ x ∷ []) ≡ None
  absent_step p x None e s all ih n = reach_nowhere (link b) j p x (ih (shown_front p (x ∷ []) s) e)
  absent_step p x (Some c) e s all ih n =
      let v = all p (shown_front p (x ∷ []) s) c e in
      reach_next (link b) j p x v.slot v.there ∙ v.matched.known x (shown_name p x [] s) (sym (reach_next (link a) i p x c e) ∙ n)

  absent_both : ((q : Names) → is_hidden q ≡ false → ArePaired q) → (q : Names) → is_hidden q ≡ false → reach (link a) i q ≡ None → reach (link b) j q ≡ None
  absent_both all = by_last_name (λ q. is_hidden q ≡ false → reach (link a) i q ≡ None → reach (link b) j q ≡ None)
      (λ s n. cc)
      (λ p x ih s n. absent_step p x (reach (link a) i p) refl s all ih n)

  same_at : ((q : Names) → is_hidden q ≡ false → ArePaired q) → (q : Names) (o : Option ℕ) → reach (link a) i q ≡ o → is_hidden q ≡ false → alike (counted keep q) (option_and_then (node a) o) (node_from b j q) ≡ true
  same_at all q None e s = ap (λ (p : Option ℕ). alike (counted keep q) None (option_and_then (node b) p)) (absent_both all q s e) ∙ both_absent (counted keep q)
  same_at all q (Some c) e s = let v = all q s c e in ap (λ (p : Option ℕ). alike (counted keep q) (node a c) (option_and_then (node b) p)) v.there ∙ v.matched.same

  pub same_whole : ((q : Names) → is_hidden q ≡ false → ArePaired q) → SameBelow keep a i b j
  same_whole all q s = same_at all q (reach (link a) i q) refl s

  -- ---- a difference

  from_at : (cells : List Cell) (k : ℕ) (q : Names) (o : Option ℕ) → reach (link cells) k q ≡ o → node_from cells k q ≡ option_and_then (node cells) o
  from_at cells k q o e = ap (option_and_then (node cells)) e

  differs_at : (q : Names) (o p : Option ℕ) → is_hidden q ≡ false → reach (link a) i q ≡ o → reach (link b) j q ≡ p → alike (counted keep q) (option_and_then (node a) o) (option_and_then (node b) p) ≡ false → DiffersBelow keep a i b j
  differs_at q o p s e f d = (q, s, ap (λ (n : Option Node). alike (counted keep q) n (node_from b j q)) (from_at a i q o e) ∙ ap (alike (counted keep q) (option_and_then (node a) o)) (from_at b j q p f) ∙ d)

  pub unmatched_differs : (r : Names) (at : Pair) → IsArena b → Stands a i b j r at → Unmatched (counted keep r) a at.here b at.there → DiffersBelow keep a i b j
  unmatched_differs r at g w (inl d) = differs_at r (Some at.here) (Some at.there) w.shown w.here w.there d
  unmatched_differs r at g w (inr u) = differs_at (r ++ u.name ∷ []) None (Some u.slot) (shown_child r u.name w.shown u.shown)
      (reach_next (link a) i r u.name at.here w.here ∙ u.absent) (reach_next (link b) j r u.name at.there w.there ∙ u.there)
      (second_alone (counted keep (r ++ u.name ∷ [])) (node b u.slot) (g.live at.there u.name u.slot u.there))

  pub parts_differs : (p : Names) → IsArena a → reach (link a) 0 p ≡ Some i → Parts a i b j → DiffersBelow keep a i b j
  parts_differs p f r t = differs_at t.path (Some t.slot) None t.shown t.here t.absent
      (first_alone (counted keep t.path) (node a t.slot) (reached_live (link a) (node a) f (p ++ t.path) t.slot (reach_on (link a) 0 p t.path i r ∙ t.here)))

-- ---- no slot is met twice

in_arena_at : (cells : List Cell) (k : ℕ) → (node_of (cell_at cells k) ≡ None → ⊥) → k < length cells
in_arena_at [] k h = absurd (h refl)
in_arena_at (c ∷ cells) zero h = omega arith
in_arena_at (c ∷ cells) (suc k) h = let i = in_arena_at cells k h in omega arith

in_arena : (cells : List Cell) (k : ℕ) → node cells k ≢ None → k < length cells
unfolding node
in_arena cells k h = in_arena_at cells k h

member_at : (q x : ℕ) (b : Bool) (n : ℕ) → nat_eq q x ≡ b → x < n → (c : Bool) → (c ≡ true → q < n) → (b || c) ≡ true → q < n
member_at q x true n e h c k w = let s : q ≡ x = eqb-true q x e in omega arith
member_at q x false n e h c k w = k w

members : (xs : List ℕ) (n : ℕ) → AllByRecursion (λ m. m < n) xs → (q : ℕ) → list_any (nat_eq q) xs ≡ true → q < n
members [] n a q e = cc
members (x ∷ xs) n a q e = member_at q x (nat_eq q x) n refl a.0 (list_any (nat_eq q) xs) (members xs n a.1 q) e

differ : (k m : ℕ) → ((k ≡ m) ⊎ (k ≡ m → ⊥)) → (k ≡ m → ⊥) → nat_eq k m ≡ false
differ k m (inl e) h = absurd (h e)
differ k m (inr e) h = grind (arith, nat_tests)

module _ (a : List Cell) (i : ℕ) (p : Names) (f : IsArena a) (r : reach (link a) 0 p ≡ Some i) where
  abbrev Reaches : Names → Type 0
  Reaches q = (c : ℕ) × (reach (link a) i q ≡ Some c)

  -- the slots of paths
  abbrev slots_of : (paths : List Names) → AllByRecursion (λ q. (c : ℕ) × (reach (link a) i q ≡ Some c)) paths → List ℕ
  slots_of [] h = []
  slots_of (q ∷ paths) h = h.0.0 ∷ slots_of paths h.1

  slots_long : (paths : List Names) (h : AllByRecursion (λ q. (c : ℕ) × (reach (link a) i q ≡ Some c)) paths) → length (slots_of paths h) ≡ length paths
  slots_long [] h = refl
  slots_long (q ∷ paths) h = ap (λ n. suc n) (slots_long paths h.1)

  slots_in : (paths : List Names) (h : AllByRecursion (λ q. (c : ℕ) × (reach (link a) i q ≡ Some c)) paths) → AllByRecursion (λ m. m < length a) (slots_of paths h)
  slots_in [] h = tt
  slots_in (q ∷ paths) h = (in_arena a h.0.0 (reached_live (link a) (node a) f (p ++ q) h.0.0 (reach_on (link a) 0 p q i r ∙ h.0.1)), slots_in paths h.1)

  front_same : (d q s : Names) → d ++ q ≡ d ++ s → q ≡ s
  front_same [] q s e = e
  front_same (x ∷ d) q s e = let h : d ++ q ≡ d ++ s = cc in front_same d q s h

  two_slots : (q s : Names) (c d : ℕ) → path_lt q s ≡ true → reach (link a) i q ≡ Some c → reach (link a) i s ≡ Some d → c ≡ d → ⊥
  two_slots q s c d h e g is =
      let one : reach (link a) 0 (p ++ q) ≡ Some c = reach_on (link a) 0 p q i r ∙ e in
      let two : reach (link a) 0 (p ++ s) ≡ Some c = reach_on (link a) 0 p s i r ∙ g ∙ ap (λ (k : ℕ). Some k) (sym is) in
      let same : q ≡ s = front_same p q s (one_path (link a) (node a) f (p ++ q) (p ++ s) c one two) in
      let k = path_lt-apart q q (ap (path_lt q) same ∙ h) in
      let l = same_path-refl q in
      cc

  slots_apart : (q : Names) (c : ℕ) (paths : List Names) (h : AllByRecursion (λ q. (c : ℕ) × (reach (link a) i q ≡ Some c)) paths) → reach (link a) i q ≡ Some c → list_all (path_lt q) paths ≡ true → AllByRecursion (λ m. nat_eq c m ≡ false) (slots_of paths h)
  slots_apart q c [] h e k = tt
  slots_apart q c (s ∷ paths) h e k =
      let w = and_parts (path_lt q s) (list_all (path_lt q) paths) k in
      (differ c h.0.0 (cases_eq c h.0.0) (two_slots q s c h.0.0 w.0 e h.0.1), slots_apart q c paths h.1 e w.1)

  slots_distinct : (paths : List Names) (h : AllByRecursion (λ q. (c : ℕ) × (reach (link a) i q ≡ Some c)) paths) → is_ascending paths ≡ true → IsDistinct nat_eq (slots_of paths h)
  unfolding IsDistinct
  slots_distinct [] h k = tt
  slots_distinct (q ∷ paths) h k =
      let w = and_parts (list_all (path_lt q) paths) (is_ascending paths) k in
      (slots_apart q h.0.0 paths h.1 h.0.1 w.0, slots_distinct paths h.1 w.1)

  -- paths that ascend and lead somewhere are no more than the slots
  few_paths : (paths : List Names) → AllByRecursion (λ q. (c : ℕ) × (reach (link a) i q ≡ Some c)) paths → is_ascending paths ≡ true → length paths ≤ length a
  few_paths paths h k =
      let le = length-le_from_distinct_below (slots_of paths h) (length a) (slots_distinct paths h k) (members (slots_of paths h) (length a) (slots_in paths h)) in
      let l = slots_long paths h in
      omega (arith, le, l)

  -- so a walk takes no more turns than there are slots
  pub too_long : (keep : Kept) (b : List Cell) (j : ℕ) (at : Pair) (turns : ℕ) → Walked keep a b i j at turns → length a ≤ turns → ⊥
  too_long keep b j at turns w h =
      let all = all_push (λ q. (c : ℕ) × (reach (link a) i q ≡ Some c)) w.met w.path w.reached (at.here, w.stands.here) in
      let few = few_paths (w.met ++ w.path ∷ []) all (is_ascending-push w.met w.path w.rising w.below) in
      let l = length-append w.met (w.path ∷ []) in
      let count = w.count in
      omega (arith, few, l, count, h)
