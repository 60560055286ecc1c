-- Where what is copied is within the limits, no limit of a listing is met, and what is listed is few.
use Rattle.std.proofs.Common.{◌≡◌, ℕ, ◌+◌, ◌≤◌, Bool, true, false, cond, ◌&&◌, ◌||◌, ◌⊎◌, inl, inr, List, [], ◌∷◌, ◌++◌, map, length, Option, Some, None, refl, sym, ap, ◌∙◌, subst, arith, append-nil}
use Rattle.std.proofs.lemmas.List.{length-append, length-map}
use Rattle.std.proofs.lemmas.List.Folds.{list_any-append}
use Rattle.std.specs.Cmp.{first_so, second_so}
use Rattle.std.specs.Option.{is_some}
use Rattle.dc_path.specs.Found.{has_path}
use Rattle.dc_path.specs.Order.{path_lt, is_ascending, all_below}
use Rattle.dc_path.specs.Paths.{Names, same_path, fits}
use Rattle.dc_path.proofs.OrderLemmas.{is_ascending-push}
use Rattle.dc_path.proofs.PathLemmas.{same_path-refl, same_path-true}
use Rattle.dc_attrs.specs.Trees.{Node, Tree}
use Rattle.dc_listing.specs.Entries.{Entry, rel_of}
use Rattle.dc_listing.specs.Listed.{Origin, is_listed, is_met, origins_of, past, past_at, all_listed, entry_at, entries_at, AreListed, AreTwo}
use Rattle.dc_listing.specs.Listing.{StopsAt}
use Rattle.dc_listing.specs.Walks.{max_items}
use Rattle.dc_listing.specs.declared.item.ListError.TheVariants as list_error
use Rattle.dc_listing.specs.declared.item.Root.{Root}
use Rattle.dc_missing.proofs.UnderLemmas.{all_of}
use Rattle.dc_plain.specs.Plain.{IsListable, IsPlain, copied_from}
use Rattle.dc_plain.proofs.Crowds.{no_longer}
use Rattle.dc_plain.proofs.ListLemmas.{no_rules, root_of, listed_is, met_is, all_listed_is}

-- ---- one root alone
-- of roots of which there is one, it is the one, and none is before it
pub record IsAlone (one root : Root) (before : List Root) : Type 0 where
  pub same : one ≡ root
  pub first : before ≡ []

alone : (one root : Root) (before after : List Root) → one ∷ [] ≡ before ++ root ∷ after → IsAlone one root before
alone one root [] after e = record { same = cc; first = refl }
alone one root (r ∷ []) after e = absurd (cc)
alone one root (r ∷ q ∷ before) after e = absurd (cc)

-- ---- entries at paths
here_by : (entry : Entry) (entries : List Entry) (is : Bool) → is ≡ true → cond is (entry ∷ entries) entries ≡ [] → ⊥
here_by entry entries true e h = cc
here_by entry entries false e h = cc

-- a list without entries at any path is empty
pub no_entries : (entries : List Entry) → ((rel : Names) → entries_at entries rel ≡ []) → entries ≡ []
no_entries [] h = refl
no_entries (entry ∷ entries) h = absurd (here_by entry (entries_at entries entry.rel) (same_path entry.rel entry.rel) (same_path-refl entry.rel) (h entry.rel))

-- where a list has a path, it has an entry there
some_by : (entry : Entry) (entries : List Entry) (is other : Bool) → (is || other) ≡ true → (other ≡ true → entries ≡ [] → ⊥) → cond is (entry ∷ entries) entries ≡ [] → ⊥
some_by entry entries true other h rest e = cc
some_by entry entries false other h rest e = rest h e

some_entry : (entries : List Entry) (rel : Names) → has_path (map rel_of entries) rel ≡ true → entries_at entries rel ≡ [] → ⊥
some_entry [] rel h e = cc
some_entry (entry ∷ entries) rel h e = some_by entry (entries_at entries rel) (same_path entry.rel rel) (has_path (map rel_of entries) rel) h (some_entry entries rel) e

-- ---- at most one is listed at a path
one_origin : (from : Names) (o : Option Node) (one two : Origin) (more : List Origin) → origins_of from o true ≡ one ∷ two ∷ more → ⊥
one_origin from None one two more e = cc
one_origin from (Some n) one two more e = cc

origin_there : (rel from : Names) (o : Option Node) → (map (entry_at rel) (origins_of from o true) ≡ [] → ⊥) → is_some o ≡ true
origin_there rel from None h = absurd (h refl)
origin_there rel from (Some n) h = refl

-- ---- the limits of one path
unpassed : (from place : Names) (is_item : Bool) → fits from ≡ true → fits place ≡ true → past_at from is_item place ≡ None
unpassed from place true e f = rw (e, f) refl
unpassed from place false e f = rw e refl

or_false : (b : Bool) → (b || false) ≡ true → b ≡ true
or_false true h = refl
or_false false h = h

module _ (s : Tree) (source target : Names) (p : IsPlain s source target) where
  pub never_twice : (rel first second : Names) → AreTwo (all_listed no_rules s (root_of source ∷ [])) rel first second → ⊥
  never_twice rel first second two = one_origin (source ++ rel) (copied_from s source rel) two.one two.two two.more (sym (all_listed_is s source p.dir rel) ∙ two.here)

  -- what is listed is what is copied
  pub entry_there : (entries : List Entry) → AreListed (all_listed no_rules s (root_of source ∷ [])) entries → (rel : Names) → has_path (map rel_of entries) rel ≡ true → is_some (copied_from s source rel) ≡ true
  entry_there entries are rel h =
      origin_there rel (source ++ rel) (copied_from s source rel)
      (λ e. some_entry entries rel h (are rel ∙ ap (map (entry_at rel)) (all_listed_is s source p.dir rel) ∙ e))

  module _ (l : IsListable s source target) where
    unpassed_by : (rel : Names) → (rel ≡ []) ⊎ (is_some (copied_from s source rel) ≡ true) → past no_rules s (root_of source) target rel ≡ None
    unpassed_by rel (inl e) =
        subst (λ (q : Names). past no_rules s (root_of source) target q ≡ None) (sym e)
        (ap (λ b. past_at (source ++ []) b (target ++ [])) (listed_is s source p.dir []) ∙ ap (λ b. cond b None (Some (source ++ []))) (ap fits (append-nil source) ∙ p.within))
    unpassed_by rel (inr h) = unpassed (source ++ rel) (target ++ rel) (is_listed no_rules s (root_of source) rel) (l.from rel h) (l.to rel h)

    pub passes_none : (rel : Names) → is_met no_rules s (root_of source) rel ≡ true → past no_rules s (root_of source) target rel ≡ None
    passes_none rel h = unpassed_by rel (met_is s source p.dir rel h)

    never_past : (root : Root) (rel path : Names) → root_of source ≡ root → is_met no_rules s root rel ≡ true → past no_rules s root target rel ≡ Some path → ⊥
    never_past root rel path same h e =
        let met : is_met no_rules s (root_of source) rel ≡ true = ap (λ (r : Root). is_met no_rules s r rel) same ∙ h in
        let none : past no_rules s (root_of source) target rel ≡ None = passes_none rel met in
        let some : past no_rules s (root_of source) target rel ≡ Some path = ap (λ (r : Root). past no_rules s r target rel) same ∙ e in
        cc

    pub never_long : (parent : Names) (name : List ℕ) → StopsAt (list_error.TooLong parent name) no_rules s (root_of source ∷ []) target → ⊥
    never_long parent name w = never_past w.root w.stop w.limit.1 (alone (root_of source) w.root w.before w.after w.roots_are).same w.limit.0 w.limit.2

    -- the paths that are listed before a stop, and the stop
    counted : (rests : List Names) (stop : Names) → is_ascending rests ≡ true → ((q : Names) → has_path rests q ≡ (is_some (copied_from s source q) && path_lt q stop)) → is_some (copied_from s source stop) ≡ true
        → length rests + 1 ≤ max_items
    counted rests stop a each there = one_more (no_longer (rests ++ stop ∷ []) l.rels more all) l.few
      where
        below : all_below rests stop ≡ true
        below = all_of (λ q. path_lt q stop) rests (λ q h. second_so (is_some (copied_from s source q)) (path_lt q stop) (sym (each q) ∙ h))

        more : is_ascending (rests ++ stop ∷ []) ≡ true
        more = is_ascending-push rests stop a below

        among : (q : Names) (is : Bool) → has_path rests q ≡ is → (is || (same_path stop q || false)) ≡ true → is_some (copied_from s source q) ≡ true
        among q true e h = first_so (is_some (copied_from s source q)) (path_lt q stop) (sym (each q) ∙ e)
        among q false e h = subst (λ (r : Names). is_some (copied_from s source r) ≡ true) (same_path-true stop q (or_false (same_path stop q) h)) there

        all : (q : Names) → has_path (rests ++ stop ∷ []) q ≡ true → has_path l.rels q ≡ true
        all q h = l.all q (among q (has_path rests q) refl (sym (list_any-append (λ r. same_path r q) rests (stop ∷ [])) ∙ h))

        one_more : length (rests ++ stop ∷ []) ≤ length l.rels → length l.rels ≤ max_items → length rests + 1 ≤ max_items
        one_more most few = omega (arith, most, few, length-append rests (stop ∷ []))

    pub never_many : StopsAt list_error.TooMany no_rules s (root_of source ∷ []) target → ⊥
    never_many w =
        let one = alone (root_of source) w.root w.before w.after w.roots_are in
        let old : w.old ≡ [] = no_entries w.old (λ rel. w.whole.are rel ∙ ap (λ (roots : List Root). map (entry_at rel) (all_listed no_rules s roots rel)) one.first) in
        let listed : (q : Names) → is_listed no_rules s w.root q ≡ is_some (copied_from s source q) = λ q. ap (λ (r : Root). is_listed no_rules s r q) (sym one.same) ∙ listed_is s source p.dir q in
        let few : length w.lists.rests + 1 ≤ max_items = counted w.lists.rests w.stop w.lists.adds.ascending
        (λ q. w.lists.listed q ∙ ap (λ b. b && path_lt q w.stop) (listed q)) (sym (listed w.stop) ∙ w.limit.0) in
        let new : length w.new ≡ length w.lists.added = ap length (w.lists.adds.is ∙ ap (λ (es : List Entry). es ++ w.lists.added) old) in
        let rels : length (map rel_of w.lists.added) ≡ length (map (λ rest. w.root.prefix ++ rest) w.lists.rests) = ap length w.lists.adds.rels in
        let many : max_items ≤ length w.new = w.limit.2 in
        omega (arith, few, new, rels, many, length-map w.lists.added rel_of, length-map w.lists.rests (λ rest. w.root.prefix ++ rest))

    pub few_entries : (entries : List Entry) → AreListed (all_listed no_rules s (root_of source ∷ [])) entries → is_ascending (map rel_of entries) ≡ true → length entries ≤ max_items
    few_entries entries are a =
        let all = no_longer (map rel_of entries) l.rels a (λ q h. l.all q (entry_there entries are q h)) in
        let few = l.few in
        omega (arith, all, few, length-map entries rel_of)
