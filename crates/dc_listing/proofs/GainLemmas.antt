-- What a list has gained: nothing, an item with what is under it, the part of one name more.
use Rattle.std.proofs.Common.{◌≡◌, ℕ, List, [], ◌∷◌, ◌++◌, length, map, Bool, true, false, not, ◌&&◌, ◌||◌, Option, Some, None, IfSome, refl, sym, ◌∙◌, ap, append_assoc}
use Rattle.std.proofs.lemmas.Bool.{and_from}
use Rattle.std.proofs.lemmas.List.{append-nil, map-append}
use Rattle.std.proofs.lemmas.List.Folds.{list_all-append, list_any-append}
use Rattle.std.specs.List.{list_all, list_any}
use Rattle.std.specs.Option.{is_some, option_map}
use Rattle.dc_path.specs.Names.{same_name}
use Rattle.dc_path.specs.Order.{name_lt, path_lt}
use Rattle.dc_path.specs.Paths.{Names, fits}
use Rattle.dc_path.proofs.PathLemmas.{same_name-refl}
use Rattle.dc_attrs.specs.Trees.{Tree, Node, Dir, File, IsTree, seen_node, snapshot}
use Rattle.dc_attrs.proofs.TreeLemmas.{nothing_in_file, nothing_below}
use Rattle.dc_fs.specs.Looks.{is_shown, AreNames, status_of}
use Rattle.dc_listing.specs.Entries.{Entry, rel_of, from_of, fits_under}
use Rattle.dc_listing.specs.Listed.{Rules}
use Rattle.dc_listing.specs.Walks.{Adds, IsShown, is_before}
use Rattle.dc_listing.specs.Walking.{child_of, met_below, is_below, is_in, Holds, GainsPart, GainsEntry}
use Rattle.dc_listing.specs.declared.walking.Place.{Place}
use Rattle.dc_listing.proofs.Ascending.{all_weaker, cons_both, ascending_then, ascending_with, under, map_under, all_under}
use Rattle.dc_listing.proofs.HoldLemmas.{IsOpen, one_part, holds_empty, holds_item, holds_then, holds_as}

-- ---- nothing
pub adds_none : (from rel base : Names) (old : List Entry) → Adds from rel base [] old old []
adds_none from rel base old = record { is = sym (append-nil old); rels = refl; froms = refl; ascending = refl; places = refl }

pub gains_none : (told : Option Tree) (rules : Rules) (dir : Place) (base : Names) (part : Names → Bool) (stop : Option Names) (old : List Entry) → ((s : Tree) → IsTree s → Holds rules s dir base part stop [] []) → GainsPart told rules dir base part stop old old
gains_none told rules dir base part stop old h = record { rests = []; added = []; adds = adds_none dir.from dir.rel base old; inside = refl; holds = by told }
  where
    by : (told : Option Tree) → IfSome told (λ s. IsTree s → Holds rules s dir base part stop [] [])
    by None = tt
    by (Some s) = h s

-- ---- an item, and what is under it
adds_item : (dir : Place) (base : Names) (x : List ℕ) (entry : Entry) (rests : List Names) (old mid new added : List Entry) → entry.rel ≡ dir.rel ++ x ∷ [] → entry.from ≡ dir.from ++ x ∷ [] → fits (base ++ (dir.rel ++ x ∷ [])) ≡ true → mid ≡ old ++ entry ∷ [] → list_all is_below rests ≡ true →
    Adds (dir.from ++ x ∷ []) (dir.rel ++ x ∷ []) base rests mid new added → Adds dir.from dir.rel base ((x ∷ []) ∷ under x rests) old new (entry ∷ added)
adds_item dir base x entry rests old mid new added r f p m i a = record {
  is = a.is ∙ ap (λ (es : List Entry). es ++ added) m ∙ append_assoc old (entry ∷ []) added;
  rels = cons_both _ _ _ _ r (a.rels ∙ map_under dir.rel x rests);
  froms = cons_both _ _ _ _ f (a.froms ∙ map_under dir.from x rests);
  ascending = ascending_with x is_below rests refl i a.ascending;
  places = and_from _ _ (ap (λ (q : Names). fits (base ++ q)) r ∙ p) a.places;
}

pub in_itself : (x : List ℕ) (r : Names) → is_in (x ∷ []) (x ∷ r) ≡ true
in_itself x r = ap (λ b. b || false) (same_name-refl x)

shown_there : (s : Tree) (entry : Entry) (p : Names) → entry.from ≡ p → IsShown s entry → is_some (s p) ≡ true
shown_there s entry p e h = ap (λ (q : Names). is_some (s q)) (sym e) ∙ ap is_some h.stands

pub gains_item : (told : Option Tree) (rules : Rules) (dir : Place) (base : Names) (x : List ℕ) (b : Bool) (stop : Option Names) (old mid new : List Entry) → IsOpen rules dir x → fits (dir.from ++ x ∷ []) ≡ true → fits (base ++ (dir.rel ++ x ∷ [])) ≡ true → is_before stop [] ≡ true →
    GainsEntry told (child_of dir x) b old mid → GainsPart told rules (child_of dir x) base is_below stop mid new → GainsPart told rules dir base (is_in (x ∷ [])) (option_map (λ p. x ∷ p) stop) old new
gains_item told rules dir base x b stop old mid new o f p early e g = record {
  rests = (x ∷ []) ∷ under x g.rests;
  added = e.entry ∷ g.added;
  adds = adds_item dir base x e.entry g.rests old mid new g.added e.rel e.from p e.is g.inside g.adds;
  inside = and_from _ _ (in_itself x []) (all_under x (is_in (x ∷ [])) g.rests (in_itself x));
  holds = by told e.shown g.holds;
}
  where
    by : (told : Option Tree) → IfSome told (λ s. IsShown s e.entry) → IfSome told (λ s. IsTree s → Holds rules s (child_of dir x) base is_below stop g.rests g.added) → IfSome told (λ s. IsTree s → Holds rules s dir base (is_in (x ∷ [])) (option_map (λ p. x ∷ p) stop) ((x ∷ []) ∷ under x g.rests) (e.entry ∷ g.added))
    by None i h = tt
    by (Some s) i h = λ v. holds_item rules s dir base x stop g.rests e.entry g.added o (shown_there s e.entry (dir.from ++ x ∷ []) e.from i) f p early i (h v)

-- a file has nothing under it
file_under : (s : Tree) (p : Names) (node : Node) → IsTree s → s p ≡ Some node → (status_of node).dir ≡ false → (y : List ℕ) (r : Names) → s (p ++ y ∷ r) ≡ None
file_under s p (Dir a) v e d y r = cc
file_under s p (File b a) v e d y r = nothing_in_file s p y r (length b) v (ap seen_node e)

pub file_walked : (told : Option Tree) (rules : Rules) (base : Names) (place : Place) (old new : List Entry) → GainsEntry told place false old new → GainsPart told rules place base is_below None new new
file_walked told rules base place old new e = record { rests = []; added = []; adds = adds_none place.from place.rel base new; inside = refl; holds = by told e.shown }
  where
    by : (told : Option Tree) → IfSome told (λ s. IsShown s e.entry) → IfSome told (λ s. IsTree s → Holds rules s place base is_below None [] [])
    by None i = tt
    by (Some s) i = λ v. holds_empty rules s place base
        (file_under s place.from i.node v (ap s (sym e.from) ∙ i.stands) (sym (ap (λ (d : Entry). d.dir) i.is) ∙ e.dir_is))

-- ---- the part of one name more
pub record IsNext (done : Names) (x : List ℕ) : Type 0 where
  pub before : (y : List ℕ) → list_any (same_name y) done ≡ true → name_lt y x ≡ true

-- a walk of one name stops at it or under it, if it stops
abbrev pub IsStopIn : List ℕ → Option Names → Type 0
IsStopIn x stop = IfSome stop (λ q. (r : Names) × (q ≡ x ∷ r))

less_first : (x y : List ℕ) (r q : Names) → name_lt y x ≡ true → path_lt (y ∷ r) (x ∷ q) ≡ true
less_first x y r q h = ap (λ b. b || (same_name y x && path_lt r q)) h

early : (done : Names) (x : List ℕ) (stop : Option Names) → IsNext done x → IsStopIn x stop → (y : List ℕ) (r : Names) → list_any (same_name y) done ≡ true → is_before stop (y ∷ r) ≡ true
early done x None n i y r h = refl
early done x (Some q) n i y r h = ap (path_lt (y ∷ r)) i.1 ∙ less_first x y r i.0 (n.before y h)

parts_apart : (done : Names) (x : List ℕ) → IsNext done x → (a b : Names) → is_in done a ≡ true → is_in (x ∷ []) b ≡ true → path_lt a b ≡ true
parts_apart done x n [] b h k = cc
parts_apart done x n (y ∷ r) b h k = one_part (λ (z : Names). path_lt (y ∷ r) z ≡ true) x (λ q. less_first x y r q (n.before y h)) b k

in_more : (done : Names) (x : List ℕ) (q : Names) → is_in done q ≡ true → is_in (done ++ x ∷ []) q ≡ true
in_more done x [] h = cc
in_more done x (y ∷ r) h = list_any-append (same_name y) done (x ∷ []) ∙ ap (λ b. b || list_any (same_name y) (x ∷ [])) h

in_last : (done : Names) (x : List ℕ) (q : Names) → is_in (x ∷ []) q ≡ true → is_in (done ++ x ∷ []) q ≡ true
in_last done x [] h = cc
in_last done x (y ∷ r) h = list_any-append (same_name y) done (x ∷ []) ∙ ap (λ b. list_any (same_name y) done || b) h ∙ or_true (list_any (same_name y) done)
  where
    or_true : (b : Bool) → (b || true) ≡ true
    or_true true = refl
    or_true false = refl

pub gains_then : (told : Option Tree) (rules : Rules) (dir : Place) (base : Names) (done : Names) (x : List ℕ) (stop : Option Names) (old mid new : List Entry) → IsNext done x → IsStopIn x stop → GainsPart told rules dir base (is_in done) None old mid → GainsPart told rules dir base (is_in (x ∷ [])) stop mid new → GainsPart told rules dir base (is_in (done ++ x ∷ [])) stop old new
gains_then told rules dir base done x stop old mid new n i g h = record {
  rests = g.rests ++ h.rests;
  added = g.added ++ h.added;
  adds = record {
    is = h.adds.is ∙ ap (λ (es : List Entry). es ++ h.added) g.adds.is ∙ append_assoc old g.added h.added;
    rels = map-append rel_of g.added h.added ∙ ap (λ (ps : List Names). ps ++ map rel_of h.added) g.adds.rels ∙ ap (λ (ps : List Names). map (λ r. dir.rel ++ r) g.rests ++ ps) h.adds.rels ∙ sym (map-append (λ r. dir.rel ++ r) g.rests h.rests);
    froms = map-append from_of g.added h.added ∙ ap (λ (ps : List Names). ps ++ map from_of h.added) g.adds.froms ∙ ap (λ (ps : List Names). map (λ r. dir.from ++ r) g.rests ++ ps) h.adds.froms ∙ sym (map-append (λ r. dir.from ++ r) g.rests h.rests);
    ascending = ascending_then (is_in done) (is_in (x ∷ [])) (parts_apart done x n) g.rests h.rests g.adds.ascending h.adds.ascending g.inside h.inside;
    places = list_all-append (fits_under base) g.added h.added ∙ and_from _ _ g.adds.places h.adds.places;
  };
  inside = list_all-append (is_in (done ++ x ∷ [])) g.rests h.rests ∙ and_from _ _ (all_weaker (is_in done) (is_in (done ++ x ∷ [])) (in_more done x) g.rests g.inside) (all_weaker (is_in (x ∷ [])) (is_in (done ++ x ∷ [])) (in_last done x) h.rests h.inside);
  holds = by told g.holds h.holds;
}
  where
    by : (told : Option Tree) → IfSome told (λ s. IsTree s → Holds rules s dir base (is_in done) None g.rests g.added) → IfSome told (λ s. IsTree s → Holds rules s dir base (is_in (x ∷ [])) stop h.rests h.added) → IfSome told (λ s. IsTree s → Holds rules s dir base (is_in (done ++ x ∷ [])) stop (g.rests ++ h.rests) (g.added ++ h.added))
    by None a b = tt
    by (Some s) a b = λ v. holds_then rules s dir base done x stop g.rests h.rests g.added h.added (early done x stop n i) (a v) (b v)

-- ---- all of a directory
-- what is met begins with a name that the directory shows
is_met_first : (a b c : Bool) → (a && not (b || c)) ≡ true → (a ≡ true) × (not b ≡ true)
is_met_first true true c h = cc
is_met_first true false c h = (refl, refl)
is_met_first false b c h = cc

met_shown : (rules : Rules) (s : Tree) (dir : Place) (y : List ℕ) (r : Names) → met_below rules s dir (y ∷ r) ≡ true → (is_some (s (dir.from ++ y ∷ r)) ≡ true) × (is_shown y ≡ true)
met_shown rules s dir y [] h = is_met_first _ (same_name snapshot y) _ h
met_shown rules s dir y (z ∷ r) h = is_met_first _ (same_name snapshot y) _ h

front_there : (s : Tree) (from : Names) (y : List ℕ) (r : Names) (o : Option Node) → IsTree s → s (from ++ y ∷ []) ≡ o → is_some (s (from ++ y ∷ r)) ≡ true → is_some (s (from ++ y ∷ [])) ≡ true
front_there s from y r (Some n) v e h = ap is_some e
front_there s from y r None v e h = let k : s (from ++ y ∷ r) ≡ None = ap s (sym (append_assoc from (y ∷ []) r)) ∙ nothing_below s (from ++ y ∷ []) r v e in let f : false ≡ true = sym (ap is_some k) ∙ h in cc

pub met_named : (rules : Rules) (s : Tree) (dir : Place) (names : Names) (y : List ℕ) (r : Names) → IsTree s → AreNames s dir.from names → met_below rules s dir (y ∷ r) ≡ true → list_any (same_name y) names ≡ true
met_named rules s dir names y r v a m =
    let k = met_shown rules s dir y r m in
    a y ∙ and_from _ _ k.1 (front_there s dir.from y r _ v refl k.0)

in_below : (names : Names) (q : Names) → is_in names q ≡ true → is_below q ≡ true
in_below names [] h = cc
in_below names (y ∷ r) h = refl

gains_as : (told : Option Tree) (rules : Rules) (dir : Place) (base : Names) (names : Names) (stop : Option Names) (old new : List Entry) → IfSome told (λ s. IsTree s → (y : List ℕ) (r : Names) → met_below rules s dir (y ∷ r) ≡ true → is_before stop (y ∷ r) ≡ true → list_any (same_name y) names ≡ true) → GainsPart told rules dir base (is_in names) stop old new → GainsPart told rules dir base is_below stop old new
gains_as told rules dir base names stop old new k g = record {
  rests = g.rests;
  added = g.added;
  adds = g.adds;
  inside = all_weaker (is_in names) is_below (in_below names) g.rests g.inside;
  holds = by told k g.holds;
}
  where
    among : (s : Tree) → ((y : List ℕ) (r : Names) → met_below rules s dir (y ∷ r) ≡ true → is_before stop (y ∷ r) ≡ true → list_any (same_name y) names ≡ true) → (q : Names) → is_below q ≡ true → met_below rules s dir q ≡ true → is_before stop q ≡ true → is_in names q ≡ true
    among s k [] i m b = cc
    among s k (y ∷ r) i m b = k y r m b

    by : (told : Option Tree) → IfSome told (λ s. IsTree s → (y : List ℕ) (r : Names) → met_below rules s dir (y ∷ r) ≡ true → is_before stop (y ∷ r) ≡ true → list_any (same_name y) names ≡ true) → IfSome told (λ s. IsTree s → Holds rules s dir base (is_in names) stop g.rests g.added) → IfSome told (λ s. IsTree s → Holds rules s dir base is_below stop g.rests g.added)
    by None k h = tt
    by (Some s) k h = λ v. holds_as rules s dir base (is_in names) is_below stop g.rests g.added (in_below names) (among s (k v)) (h v)

pub gains_all : (told : Option Tree) (rules : Rules) (dir : Place) (base : Names) (names : Names) (old new : List Entry) → IfSome told (λ s. AreNames s dir.from names) → GainsPart told rules dir base (is_in names) None old new → GainsPart told rules dir base is_below None old new
gains_all told rules dir base names old new a g = gains_as told rules dir base names None old new (by told a) g
  where
    by : (told : Option Tree) → IfSome told (λ s. AreNames s dir.from names) → IfSome told (λ s. IsTree s → (y : List ℕ) (r : Names) → met_below rules s dir (y ∷ r) ≡ true → is_before None (y ∷ r) ≡ true → list_any (same_name y) names ≡ true)
    by None a = tt
    by (Some s) a = λ v y r m b. met_named rules s dir names y r v a m

-- a walk of the names that stops: what comes before is of the names so far
pub gains_front : (told : Option Tree) (rules : Rules) (dir : Place) (base : Names) (names done : Names) (x : List ℕ) (q : Names) (old new : List Entry) → IfSome told (λ s. AreNames s dir.from names) → ((y : List ℕ) → list_any (same_name y) names ≡ true → list_any (same_name y) done ≡ name_lt y x) → GainsPart told rules dir base (is_in (done ++ x ∷ [])) (Some (x ∷ q)) old new → GainsPart told rules dir base is_below (Some (x ∷ q)) old new
gains_front told rules dir base names done x q old new a f g = gains_as told rules dir base (done ++ x ∷ []) (Some (x ∷ q)) old new (by told a) g
  where
    bool : (a b c d : Bool) → a ≡ b → (b || (c && d)) ≡ true → (a || (c || false)) ≡ true
    bool true b c d e h = refl
    bool false true c d e h = cc
    bool false false true d e h = refl
    bool false false false d e h = cc

    before_in : (y : List ℕ) (r : Names) → list_any (same_name y) names ≡ true → path_lt (y ∷ r) (x ∷ q) ≡ true → list_any (same_name y) (done ++ x ∷ []) ≡ true
    before_in y r n b = list_any-append (same_name y) done (x ∷ []) ∙ bool (list_any (same_name y) done) (name_lt y x) (same_name y x) (path_lt r q) (f y n) b

    by : (told : Option Tree) → IfSome told (λ s. AreNames s dir.from names) → IfSome told (λ s. IsTree s → (y : List ℕ) (r : Names) → met_below rules s dir (y ∷ r) ≡ true → is_before (Some (x ∷ q)) (y ∷ r) ≡ true → list_any (same_name y) (done ++ x ∷ []) ≡ true)
    by None a = tt
    by (Some s) a = λ v y r m b. before_in y r (met_named rules s dir names y r v a m) b
