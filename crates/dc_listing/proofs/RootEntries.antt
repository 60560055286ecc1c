-- What a walked root adds at each path under the target, and what roots list together.
use Rattle.std.proofs.Common.{◌≡◌, ℕ, ◌+◌, ◌<◌, suc, List, [], ◌∷◌, ◌++◌, map, take, drop, length, get_or, Bool, true, false, cond, ◌||◌, Option, Some, None, IfSome, Err, refl, sym, ◌∙◌, ap, subst, append-nil, add-one, drop-cons, arith}
use Rattle.std.proofs.Math.Bool.{and-true}
use Rattle.std.proofs.Math.Seq.{take-length}
use Rattle.std.proofs.lemmas.Bool.{and_from}
use Rattle.std.proofs.lemmas.Grind.{flat_map-append}
use Rattle.std.proofs.lemmas.List.{map-append, take-append-drop, take_more}
use Rattle.std.proofs.lemmas.List.Elements.{All-nil, All-cons, All-append, All-tail, filter-append}
use Rattle.std.proofs.lemmas.List.Folds.{list_all-append}
use Rattle.std.specs.Cmp.{first_so, second_so}
use Rattle.std.specs.List.{list_all, All}
use Rattle.dc_path.specs.Found.{has_path}
use Rattle.dc_path.specs.Order.{path_lt, is_ascending}
use Rattle.dc_path.specs.Paths.{Names, same_path, cut, at_cut}
use Rattle.dc_path.proofs.OrderLemmas.{path_lt-apart}
use Rattle.dc_path.proofs.PathLemmas.{append-cut, same_path-cut, same_path-not_below, same_path-true}
use Rattle.dc_attrs.specs.Trees.{Tree, Node, IsTree, IsThere}
use Rattle.dc_listing.specs.Entries.{Entry, rel_of, from_of, entry_of, fits_under}
use Rattle.dc_listing.specs.Listed.{Rules, is_listed, origins_of, listed_by, all_listed, entry_at, entries_at, AreListed}
use Rattle.dc_listing.specs.Listing.{AllStand, ListsAll, PassesNone, StopsAt}
use Rattle.dc_listing.specs.Walks.{Gains, IsShown, Lists, Walks}
use Rattle.dc_listing.specs.declared.item.Root.{Root}
use Rattle.dc_listing.specs.declared.item.ListError.{ListError}

-- ---- the entries that a root adds, at one path
-- none, where the path is not under the root's
none_off : (prefix rel : Names) (rests : List Names) (added : List Entry) → cut prefix rel ≡ None → map rel_of added ≡ map (λ r. prefix ++ r) rests → entries_at added rel ≡ []
none_off prefix rel [] [] c e = refl
none_off prefix rel [] (x ∷ added) c e = cc
none_off prefix rel (r ∷ rests) [] c e = cc
none_off prefix rel (r ∷ rests) (x ∷ added) c e =
    let h : x.rel ≡ prefix ++ r = cc in
    let t : map rel_of added ≡ map (λ r. prefix ++ r) rests = cc in
    ap (λ b. cond b (x ∷ entries_at added rel) (entries_at added rel)) (ap (λ p. same_path p rel) h ∙ same_path-not_below prefix r rel c) ∙ none_off prefix rel rests added c t

origins_none : (from : Names) (node : Option Node) → origins_of from node false ≡ []
origins_none from None = refl
origins_none from (Some n) = refl

-- a path before all others is none of them
none_after : (rests : List Names) (r : Names) → list_all (path_lt r) rests ≡ true → has_path rests r ≡ false
none_after [] r h = refl
none_after (p ∷ rests) r h = ap (λ b. b || has_path rests r) (path_lt-apart r p (first_so _ _ h)) ∙ none_after rests r (second_so _ _ h)

one_here : (s : Tree) (x : Entry) (rel from : Names) → IsShown s x → x.rel ≡ rel → x.from ≡ from → x ∷ [] ≡ map (entry_at rel) (origins_of from (s from) true)
one_here s x rel from i e f =
    let there : s from ≡ Some i.node = ap s (sym f) ∙ i.stands in
    ap (λ (z : Entry). z ∷ []) (i.is ∙ ap (λ p. entry_of p x.from i.node) e ∙ ap (λ p. entry_of rel p i.node) f)
    ∙ ap (λ (o : Option Node). map (entry_at rel) (origins_of from o true)) (sym there)

-- that of what stands there, where it is among what is added
at_rest : (s : Tree) (source prefix rel rest : Names) (rests : List Names) (added : List Entry) → cut prefix rel ≡ Some rest → map rel_of added ≡ map (λ r. prefix ++ r) rests → map from_of added ≡ map (λ r. source ++ r) rests → is_ascending rests ≡ true → All (IsShown s) added →
    entries_at added rel ≡ map (entry_at rel) (origins_of (source ++ rest) (s (source ++ rest)) (has_path rests rest))
at_rest s source prefix rel rest [] [] c e f a i = sym (ap (map (entry_at rel)) (origins_none (source ++ rest) (s (source ++ rest))))
at_rest s source prefix rel rest [] (x ∷ added) c e f a i = cc
at_rest s source prefix rel rest (r ∷ rests) [] c e f a i = cc
at_rest s source prefix rel rest (r ∷ rests) (x ∷ added) c e f a i =
    let t : map rel_of added ≡ map (λ r. prefix ++ r) rests = cc in
    let u : map from_of added ≡ map (λ r. source ++ r) rests = cc in
    by (same_path r rest) refl (at_rest s source prefix rel rest rests added c t u (second_so _ _ a) (All-tail (IsShown s) x added i))
  where
    here : x.rel ≡ prefix ++ r
    here = cc

    there : x.from ≡ source ++ r
    there = cc

    -- the list with this entry, by whether it is the one
    with : (b : Bool) → same_path r rest ≡ b → entries_at (x ∷ added) rel ≡ cond b (x ∷ entries_at added rel) (entries_at added rel)
    with b n = ap (λ (v : Bool). cond v (x ∷ entries_at added rel) (entries_at added rel)) (ap (λ p. same_path p rel) here ∙ same_path-cut prefix r rel rest c ∙ n)

    by : (b : Bool) → same_path r rest ≡ b → entries_at added rel ≡ map (entry_at rel) (origins_of (source ++ rest) (s (source ++ rest)) (has_path rests rest)) → entries_at (x ∷ added) rel ≡ map (entry_at rel) (origins_of (source ++ rest) (s (source ++ rest)) (same_path r rest || has_path rests rest))
    by false n more = with false n ∙ more ∙ sym (ap (λ (v : Bool). map (entry_at rel) (origins_of (source ++ rest) (s (source ++ rest)) (v || has_path rests rest))) n)
    by true n more =
        let k : r ≡ rest = same_path-true r rest n in
        let lone : has_path rests rest ≡ false = ap (has_path rests) (sym k) ∙ none_after rests r (first_so _ _ a) in
        let empty : entries_at added rel ≡ [] = more ∙ ap (λ (v : Bool). map (entry_at rel) (origins_of (source ++ rest) (s (source ++ rest)) v)) lone ∙ ap (map (entry_at rel)) (origins_none (source ++ rest) (s (source ++ rest))) in
        with true n
        ∙ ap (λ (es : List Entry). x ∷ es) empty
        ∙ one_here s x rel (source ++ rest) (i 0 x (omega arith)) (here ∙ ap (λ q. prefix ++ q) k ∙ sym (append-cut prefix rel rest c)) (there ∙ ap (λ q. source ++ q) k)
        ∙ sym (ap (λ (v : Bool). map (entry_at rel) (origins_of (source ++ rest) (s (source ++ rest)) (v || has_path rests rest))) n)

-- what a whole walk of a root adds at each path is what the root lists there
pub lists_at : (rules : Rules) (s : Tree) (root : Root) (base : Names) (old new : List Entry) → Lists rules s root base None old new → (rel : Names) → entries_at new rel ≡ entries_at old rel ++ map (entry_at rel) (listed_by rules s root rel)
lists_at rules s root base old new l rel =
    ap (λ (es : List Entry). entries_at es rel) l.adds.is
    ∙ filter-append (λ (entry : Entry). same_path entry.rel rel) old l.added
    ∙ ap (λ (es : List Entry). entries_at old rel ++ es) (by (cut root.prefix rel) refl)
  where
    by : (o : Option Names) → cut root.prefix rel ≡ o → entries_at l.added rel ≡ map (entry_at rel) (at_cut o [] (λ rest. origins_of (root.source ++ rest) (s (root.source ++ rest)) (is_listed rules s root rest)))
    by None c = none_off root.prefix rel l.rests l.added c l.adds.rels
    by (Some rest) c =
        at_rest s root.source root.prefix rel rest l.rests l.added c l.adds.rels l.adds.froms l.adds.ascending l.shown
        ∙ ap (λ b. map (entry_at rel) (origins_of (root.source ++ rest) (s (root.source ++ rest)) b)) (l.listed rest ∙ and-true (is_listed rules s root rest))

-- ---- one root more
pub lists_none : (rules : Rules) (s : Tree) (base : Names) → ListsAll rules s [] base []
lists_none rules s base = record { are = λ rel. refl; within = All-nil (PassesNone rules s base) }

lists_more : (rules : Rules) (s : Tree) (done : List Root) (root : Root) (base : Names) (old new : List Entry) → ListsAll rules s done base old → Lists rules s root base None old new → ListsAll rules s (done ++ root ∷ []) base new
lists_more rules s done root base old new h l = record {
  are = are_at;
  within = All-append (PassesNone rules s base) done (root ∷ []) h.within (All-cons (PassesNone rules s base) root [] (λ q m. l.within q m refl) (All-nil (PassesNone rules s base)));
}
  where
    all_more : (rel : Names) → all_listed rules s (done ++ root ∷ []) rel ≡ all_listed rules s done rel ++ listed_by rules s root rel
    all_more rel =
        flat_map-append (λ (r : Root). listed_by rules s r rel) done (root ∷ [])
        ∙ ap (λ zs. all_listed rules s done rel ++ zs) (append-nil (listed_by rules s root rel))

    are_at : AreListed (all_listed rules s (done ++ root ∷ [])) new
    are_at rel =
        lists_at rules s root base old new l rel
        ∙ ap (λ (es : List Entry). es ++ map (entry_at rel) (listed_by rules s root rel)) (h.are rel)
        ∙ sym (map-append (entry_at rel) (all_listed rules s done rel) (listed_by rules s root rel))
        ∙ ap (map (entry_at rel)) (sym (all_more rel))

-- ---- a loop over roots, where the source may tell a tree
pub lists_start : (told : Option Tree) (rules : Rules) (roots : List Root) (base : Names) (entries : List Entry) → entries ≡ [] → IfSome told (λ s. IsTree s → ListsAll rules s (take 0 roots) base entries)
lists_start None rules roots base entries e = tt
lists_start (Some s) rules roots base entries e = λ v. subst (λ (es : List Entry). ListsAll rules s [] base es) (sym e) (lists_none rules s base)

pub lists_end : (told : Option Tree) (rules : Rules) (roots : List Root) (k : ℕ) (base : Names) (entries : List Entry) → k ≡ length roots → IfSome told (λ s. IsTree s → ListsAll rules s (take k roots) base entries) → IfSome told (λ s. IsTree s → ListsAll rules s roots base entries)
lists_end None rules roots k base entries e h = tt
lists_end (Some s) rules roots k base entries e h = λ v. subst (λ (rs : List Root). ListsAll rules s rs base entries) (ap (λ n. take n roots) e ∙ take-length roots) (h v)

pub lists_step : (told : Option Tree) (rules : Rules) (roots : List Root) (k : ℕ) (root : Root) (base : Names) (old new : List Entry) → k < length roots → root ≡ get_or roots k root → IfSome told (λ s. IsTree s → ListsAll rules s (take k roots) base old) → IfSome told (λ s. IsTree s → Lists rules s root base None old new) → IfSome told (λ s. IsTree s → ListsAll rules s (take (k + 1) roots) base new)
lists_step None rules roots k root base old new l e h w = tt
lists_step (Some s) rules roots k root base old new l e h w = λ v.
    subst (λ (rs : List Root). ListsAll rules s rs base new) (sym (take_more roots k root l ∙ ap (λ (r : Root). take k roots ++ r ∷ []) (sym e))) (lists_more rules s (take k roots) root base old new (h v) (w v))

split_at : (roots : List Root) (k : ℕ) (root : Root) → k < length roots → root ≡ get_or roots k root → roots ≡ take k roots ++ root ∷ drop (k + 1) roots
split_at roots k root l e = sym (take-append-drop k roots) ∙ ap (λ (rs : List Root). take k roots ++ rs) (drop-cons roots k root l ∙ ap (λ (r : Root). r ∷ drop (suc k) roots) (sym e) ∙ ap (λ n. root ∷ drop n roots) (sym (add-one k)))

pub stops_step : (e : ListError) (told : Option Tree) (rules : Rules) (roots : List Root) (k : ℕ) (root : Root) (base : Names) (old new : List Entry) → k < length roots → root ≡ get_or roots k root → IfSome told (λ s. IsTree s → ListsAll rules s (take k roots) base old) → IfSome told (λ s. IsTree s → Walks {A = ℕ} rules s root base (Err e) old new) → IfSome told (λ s. IsTree s → StopsAt e rules s roots base)
stops_step e None rules roots k root base old new l i h w = tt
stops_step e (Some s) rules roots k root base old new l i h w = λ v.
    let g = w v in record {
      before = take k roots;
      root = root;
      after = drop (k + 1) roots;
      roots_are = split_at roots k root l i;
      old = old;
      whole = h v;
      stop = g.0;
      new = new;
      lists = g.1;
      limit = g.2;
    }

pub stand_step : (told : Option Tree) (roots : List Root) (k : ℕ) (root : Root) → k < length roots → root ≡ get_or roots k root → IfSome told (λ s. IsTree s → IsThere s root.source → ⊥) → IfSome told (λ s. IsTree s → AllStand s roots → ⊥)
stand_step None roots k root l e h = tt
stand_step (Some s) roots k root l e h = λ v all. h v (subst (λ (r : Root). IsThere s r.source) (sym e) (all k root l))

-- ---- for every store
pub gains_within : (root : Root) (base : Names) (old new : List Entry) → Gains root base old new → list_all (fits_under base) old ≡ true → list_all (fits_under base) new ≡ true
gains_within root base old new g h = ap (list_all (fits_under base)) g.adds.is ∙ list_all-append (fits_under base) old g.added ∙ and_from _ _ h g.adds.places
