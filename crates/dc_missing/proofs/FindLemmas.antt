-- What a walk finds to go: nothing, a path itself, what is under a name, one name more, all names.
use Rattle.std.proofs.Common.{◌≡◌, ◌⊎◌, inl, inr, ℕ, List, [], ◌∷◌, ◌++◌, Bool, true, false, ◌||◌, Some, None, refl, sym, ◌∙◌, ap, subst, append_assoc, append-nil}
use Rattle.std.proofs.lemmas.Bool.{or_cases, or_parts}
use Rattle.std.proofs.lemmas.List.Folds.{list_any-append}
use Rattle.std.specs.List.{list_any}
use Rattle.dc_path.specs.Names.{same_name}
use Rattle.dc_path.specs.Paths.{Names}
use Rattle.dc_attrs.specs.Trees.{Tree, IsTree, IsThere, is_hidden, snapshot}
use Rattle.dc_attrs.proofs.TreeLemmas.{nothing_below}
use Rattle.dc_fs.specs.Looks.{is_shown}
use Rattle.dc_listing.specs.Walking.{is_below, is_in}
use Rattle.dc_listing.proofs.Ascending.{under}
use Rattle.dc_missing.specs.Finding.{is_any, is_open, IsHeld, Finds}
use Rattle.dc_missing.specs.Missing.{Goes, covers}
use Rattle.dc_listing.proofs.HoldLemmas.{in_one}
use Rattle.dc_missing.proofs.UnderLemmas.{one_path, in_under, in_either, covers_under, covers_first, covers_second, hidden_under, hidden_more, not_shown}

-- ---- what goes, from one directory up and down
there_up : (t : Tree) (dir : Names) (x : List ℕ) (q : Names) → IsThere t ((dir ++ x ∷ []) ++ q) → IsThere t (dir ++ x ∷ q)
there_up t dir x q h = subst (λ (p : Names). IsThere t p) (append_assoc dir (x ∷ []) q) h

there_down : (t : Tree) (dir : Names) (x : List ℕ) (q : Names) → IsThere t (dir ++ x ∷ q) → IsThere t ((dir ++ x ∷ []) ++ q)
there_down t dir x q h = subst (λ (p : Names). IsThere t p) (sym (append_assoc dir (x ∷ []) q)) h

goes_up : (t : Tree) (listed : Names → Bool) (dir : Names) (x : List ℕ) (q : Names) → is_shown x ≡ true → Goes t listed (dir ++ x ∷ []) q → Goes t listed dir (x ∷ q)
goes_up t listed dir x q s g = record {
  unlisted = λ rest. ap listed (sym (append_assoc dir (x ∷ []) (q ++ rest))) ∙ g.unlisted rest;
  unhidden = λ rest h. hidden_under x (q ++ rest) false s (g.unhidden rest (there_down t dir x (q ++ rest) h));
}

goes_down : (t : Tree) (listed : Names → Bool) (dir : Names) (x : List ℕ) (q : Names) → is_shown x ≡ true → Goes t listed dir (x ∷ q) → Goes t listed (dir ++ x ∷ []) q
goes_down t listed dir x q s g = record {
  unlisted = λ rest. ap listed (append_assoc dir (x ∷ []) (q ++ rest)) ∙ g.unlisted rest;
  unhidden = λ rest h. sym (hidden_under x (q ++ rest) (is_hidden (q ++ rest)) s refl) ∙ g.unhidden rest (there_up t dir x (q ++ rest) h);
}

-- what keeps a directory does not let it go
held_stays : (t : Tree) (listed : Names → Bool) (dir : Names) → IsHeld t listed dir → Goes t listed dir [] → ⊥
held_stays t listed dir h g = by h.why
  where
    by : (listed (dir ++ h.rest) ≡ true) ⊎ (IsThere t (dir ++ h.rest) × (is_hidden h.rest ≡ true)) → ⊥
    by (inl l) = let k = g.unlisted h.rest in let e : true ≡ false = sym l ∙ k in cc
    by (inr k) = let l = g.unhidden h.rest k.0 in let e : true ≡ false = sym k.1 ∙ l in cc

held_under : (t : Tree) (listed : Names → Bool) (dir : Names) (x : List ℕ) → IsHeld t listed (dir ++ x ∷ []) → IsHeld t listed dir
held_under t listed dir x h = record { rest = x ∷ h.rest; why = by h.why }
  where
    by : (listed ((dir ++ x ∷ []) ++ h.rest) ≡ true) ⊎ (IsThere t ((dir ++ x ∷ []) ++ h.rest) × (is_hidden h.rest ≡ true)) → (listed (dir ++ x ∷ h.rest) ≡ true) ⊎ (IsThere t (dir ++ x ∷ h.rest) × (is_hidden (x ∷ h.rest) ≡ true))
    by (inl l) = inl (ap listed (sym (append_assoc dir (x ∷ []) h.rest)) ∙ l)
    by (inr k) = inr (there_up t dir x h.rest k.0, hidden_more x h.rest k.1)

-- ---- nothing
pub finds_none : (t : Tree) (listed : Names → Bool) (dir : Names) (part : Names → Bool) → ((q : Names) → part q ≡ true → IsThere t (dir ++ q) → ⊥) → Finds t listed dir part false []
finds_none t listed dir part h = record {
  goes = λ q k. cc;
  all = λ q i s g. absurd (h q i s);
  clear = λ e q i s. absurd (h q i s);
  held = λ e. cc;
}

-- ---- under a name
pub finds_under : (t : Tree) (listed : Names → Bool) (dir : Names) (x : List ℕ) (kept : Bool) (rests : List Names) → is_shown x ≡ true → Finds t listed (dir ++ x ∷ []) is_any kept rests → Finds t listed dir (is_in (x ∷ [])) kept (under x rests)
finds_under t listed dir x kept rests s f = record {
  goes = λ q h. let k = in_under x rests q h in let g = f.goes k.0 k.2 in subst (λ (p : Names). IsThere t (dir ++ p) × Goes t listed dir p) (sym k.1) (there_up t dir x k.0 g.0, goes_up t listed dir x k.0 s g.1);
  all = λ q i h g. all_at q i h g;
  clear = λ e q i h. clear_at e q i h;
  held = λ e. held_under t listed dir x (f.held e);
}
  where
    all_at : (q : Names) → is_in (x ∷ []) q ≡ true → IsThere t (dir ++ q) → Goes t listed dir q → covers (under x rests) q ≡ true
    all_at q i h g =
        let k = in_one x q i in
        ap (covers (under x rests)) k.1
        ∙ covers_under x rests k.0 (f.all k.0 refl (there_down t dir x k.0 (subst (λ (p : Names). IsThere t (dir ++ p)) k.1 h)) (goes_down t listed dir x k.0 s (subst (λ (p : Names). Goes t listed dir p) k.1 g)))

    clear_at : kept ≡ false → (q : Names) → is_in (x ∷ []) q ≡ true → IsThere t (dir ++ q) → is_hidden q ≡ false
    clear_at e q i h =
        let k = in_one x q i in
        ap is_hidden k.1 ∙ hidden_under x k.0 false s (f.clear e k.0 refl (there_down t dir x k.0 (subst (λ (p : Names). IsThere t (dir ++ p)) k.1 h)))

-- ---- a path itself
-- it is kept: by a listed path at or under it, or by what was found under it
pub finds_kept : (t : Tree) (listed : Names → Bool) (p : Names) (inside : Bool) (rests : List Names) → IsHeld t listed p → Finds t listed p is_below inside rests → Finds t listed p is_any true rests
finds_kept t listed p inside rests k f = record {
  goes = f.goes;
  all = all_at;
  clear = λ e. cc;
  held = λ e. k;
}
  where
    all_at : (q : Names) → is_any q ≡ true → IsThere t (p ++ q) → Goes t listed p q → covers rests q ≡ true
    all_at [] i h g = absurd (held_stays t listed p k g)
    all_at (y ∷ q) i h g = f.all (y ∷ q) refl h g

-- it goes, with all that is under it
pub finds_gone : (t : Tree) (listed : Names → Bool) (p : Names) (rests : List Names) → IsThere t p → ((rest : Names) → listed (p ++ rest) ≡ false) → Finds t listed p is_below false rests → Finds t listed p is_any false ([] ∷ [])
finds_gone t listed p rests s l f = record {
  goes = λ q h. subst (λ (r : Names). IsThere t (p ++ r) × Goes t listed p r) (one_path [] q h) (subst (λ (r : Names). IsThere t r) (sym (append-nil p)) s, record { unlisted = l; unhidden = clear_at });
  all = λ q i h g. refl;
  clear = λ e q i h. clear_at q h;
  held = λ e. cc;
}
  where
    clear_at : (q : Names) → IsThere t (p ++ q) → is_hidden q ≡ false
    clear_at [] h = refl
    clear_at (y ∷ q) h = f.clear refl (y ∷ q) refl h

-- ---- in a directory: besides what is shown, its snapshots
-- what they do to a directory
pub record Hides (t : Tree) (p : Names) (hides : Bool) : Type 0 where
  pub some : hides ≡ true → IsThere t (p ++ snapshot ∷ [])
  pub none : hides ≡ false → t (p ++ snapshot ∷ []) ≡ None

pub finds_inside : (t : Tree) (listed : Names → Bool) (p : Names) (hides kept : Bool) (rests : List Names) → IsTree t → Hides t p hides → Finds t listed p is_open kept rests → Finds t listed p is_below (hides || kept) rests
finds_inside t listed p hides kept rests v k f = record {
  goes = f.goes;
  all = all_at;
  clear = λ e. clear_at (or_parts hides kept e);
  held = λ e. held_at (or_cases hides kept e);
}
  where
    shown_or : (y : List ℕ) (b : Bool) {P : Type 0} → is_shown y ≡ b → (is_shown y ≡ true → P) → (snapshot ≡ y → P) → P
    shown_or y true e f g = f e
    shown_or y false e f g = g (not_shown y e)

    never_goes : (y : List ℕ) (q : Names) → snapshot ≡ y → IsThere t (p ++ y ∷ q) → Goes t listed p (y ∷ q) → ⊥
    never_goes y q e h g =
        let l = g.unhidden [] (subst (λ (r : Names). IsThere t (p ++ r)) (sym (append-nil (y ∷ q))) h) in
        let m : is_hidden ((y ∷ q) ++ []) ≡ true = ap (λ (z : List ℕ). is_hidden ((z ∷ q) ++ [])) (sym e) in
        let n : true ≡ false = sym m ∙ l in
        cc

    all_at : (q : Names) → is_below q ≡ true → IsThere t (p ++ q) → Goes t listed p q → covers rests q ≡ true
    all_at [] i h g = cc
    all_at (y ∷ q) i h g = shown_or y (is_shown y) refl (λ s. f.all (y ∷ q) s h g) (λ e. absurd (never_goes y q e h g))

    not_there : (y : List ℕ) (q : Names) → snapshot ≡ y → hides ≡ false → IsThere t (p ++ y ∷ q) → ⊥
    not_there y q e n h =
        let m : t ((p ++ snapshot ∷ []) ++ q) ≡ None = nothing_below t (p ++ snapshot ∷ []) q v (k.none n) in
        let l : t (p ++ y ∷ q) ≡ None = ap (λ (z : List ℕ). t (p ++ z ∷ q)) (sym e) ∙ ap t (sym (append_assoc p (snapshot ∷ []) q)) ∙ m in
        let o : Some h.0 ≡ None = sym h.1 ∙ l in
        cc

    clear_at : (hides ≡ false) × (kept ≡ false) → (q : Names) → is_below q ≡ true → IsThere t (p ++ q) → is_hidden q ≡ false
    clear_at c [] i h = cc
    clear_at c (y ∷ q) i h = shown_or y (is_shown y) refl (λ s. f.clear c.1 (y ∷ q) s h) (λ e. absurd (not_there y q e c.0 h))

    held_at : (hides ≡ true) ⊎ (kept ≡ true) → IsHeld t listed p
    held_at (inl e) = record { rest = snapshot ∷ []; why = inr (k.some e, refl) }
    held_at (inr e) = f.held e

-- ---- one name more
pub finds_then : (t : Tree) (listed : Names → Bool) (dir : Names) (done : Names) (x : List ℕ) (kept more : Bool) (rests later : List Names) → Finds t listed dir (is_in done) kept rests → Finds t listed dir (is_in (x ∷ [])) more later → Finds t listed dir (is_in (done ++ x ∷ [])) (kept || more) (rests ++ later)
finds_then t listed dir done x kept more rests later f g = record {
  goes = λ q h. in_either rests later q h (f.goes q) (g.goes q);
  all = λ q i h k. either q i (λ a. covers_first rests later q (f.all q a h k)) (λ a. covers_second rests later q (g.all q a h k));
  clear = λ e q i h. let b = or_parts kept more e in either q i (λ a. f.clear b.0 q a h) (λ a. g.clear b.1 q a h);
  held = λ e. held_at (or_cases kept more e);
}
  where
    either : (q : Names) {P : Type 0} → is_in (done ++ x ∷ []) q ≡ true → (is_in done q ≡ true → P) → (is_in (x ∷ []) q ≡ true → P) → P
    either [] i a b = cc
    either (y ∷ r) {P} i a b = by (or_cases (list_any (same_name y) done) (list_any (same_name y) (x ∷ [])) (sym (list_any-append (same_name y) done (x ∷ [])) ∙ i))
      where
        by : (list_any (same_name y) done ≡ true) ⊎ (list_any (same_name y) (x ∷ []) ≡ true) → P
        by (inl e) = a e
        by (inr e) = b e

    held_at : (kept ≡ true) ⊎ (more ≡ true) → IsHeld t listed dir
    held_at (inl e) = f.held e
    held_at (inr e) = g.held e

-- ---- another part, in which the same stands
pub finds_as : (t : Tree) (listed : Names → Bool) (dir : Names) (part whole : Names → Bool) (kept : Bool) (rests : List Names) → ((q : Names) → whole q ≡ true → IsThere t (dir ++ q) → part q ≡ true) → Finds t listed dir part kept rests → Finds t listed dir whole kept rests
finds_as t listed dir part whole kept rests h f = record {
  goes = f.goes;
  all = λ q i s g. f.all q (h q i s) s g;
  clear = λ e q i s. f.clear e q (h q i s) s;
  held = f.held;
}
