-- No tree refuses attributes where what is listed stands, and none refuses to remove what stands.
use Rattle.std.proofs.Common.{◌≡◌, List, [], ◌∷◌, ◌++◌, Bool, true, false, cond, not, Option, Some, None, map, reverse, refl, sym, ◌∙◌, ap}
use Rattle.std.proofs.lemmas.Bool.{and_from}
use Rattle.std.proofs.lemmas.List.{reverse-append}
use Rattle.std.specs.Cmp.{first_so, second_so}
use Rattle.std.specs.List.{list_all}
use Rattle.std.specs.Option.{is_none, option_or}
use Rattle.dc_path.specs.Paths.{Names, at_cut, cut, is_under, same_path}
use Rattle.dc_path.proofs.PathLemmas.{cut_front, no_rest}
use Rattle.dc_attrs.specs.Attributes.{Attributes}
use Rattle.dc_attrs.specs.Keeping.{Kept}
use Rattle.dc_attrs.specs.Refusals.{refused_at, refused_root}
use Rattle.dc_attrs.specs.Trees.{Node, Dir, File, Tree, seen, seen_node, updated, with_attrs, without}
use Rattle.dc_decide.specs.Plans.{Decision}
use Rattle.dc_commit.specs.Removals.{remove_step, remove_steps}
use Rattle.dc_commit.specs.Settings.{final_attrs, is_kind, place_of, set_step}
use Rattle.dc_commit.specs.Steps.{Step, after, allows}
use Rattle.dc_commit.proofs.MoveLemmas.{seen_agree}
use Rattle.dc_commit.proofs.StepLemmas.{after-append}
use Rattle.dc_result.specs.Commits.{are_apart}
use Rattle.dc_result.proofs.KindLemmas.{same_from}

-- ---- attributes change nothing of what is seen
attrs_same : (a : Attributes) (b : Bool) (o : Option Node) → seen_node (cond b (with_attrs a o) o) ≡ seen_node o
attrs_same a true None = refl
attrs_same a true (Some (Dir c)) = refl
attrs_same a true (Some (File d c)) = refl
attrs_same a false o = refl

pub sets_same : (keep : Kept) (base : Names) (ds : List Decision) (t : Tree) (q : Names) → seen_node (after (map (set_step keep base) ds) t q) ≡ seen_node (t q)
sets_same keep base [] t q = refl
sets_same keep base (d ∷ ds) t q =
    sets_same keep base ds (updated t (place_of base d) (with_attrs (final_attrs keep d))) q ∙ attrs_same (final_attrs keep d) (same_path (place_of base d) q) (t q)

back_once : (keep : Kept) (base : Names) (d : Decision) (ds : List Decision) → reverse (map (set_step keep base) (d ∷ ds)) ≡ reverse (map (set_step keep base) ds) ++ set_step keep base d ∷ []
back_once keep base d ds = reverse-append (set_step keep base d ∷ []) (map (set_step keep base) ds)

pub backs_same : (keep : Kept) (base : Names) (ds : List Decision) (t : Tree) (q : Names) → seen_node (after (reverse (map (set_step keep base) ds)) t q) ≡ seen_node (t q)
backs_same keep base [] t q = refl
backs_same keep base (d ∷ ds) t q =
    ap (λ (steps : List Step). seen_node (after steps t q)) (back_once keep base d ds)
    ∙ ap (λ (u : Tree). seen_node (u q)) (after-append (reverse (map (set_step keep base) ds)) (set_step keep base d ∷ []) t)
    ∙ attrs_same (final_attrs keep d) (same_path (place_of base d) q) (after (reverse (map (set_step keep base) ds)) t q)
    ∙ backs_same keep base ds t q

-- an item of this kind is seen at its place
abbrev pub is_shown_at : Names → Tree → Decision → Bool
is_shown_at base t d = is_kind d.item.dir (seen t (place_of base d))

shown_still : (base : Names) (t u : Tree) (ds : List Decision) → ((p : Names) → seen_node (u p) ≡ seen_node (t p)) → list_all (is_shown_at base t) ds ≡ true → list_all (is_shown_at base u) ds ≡ true
shown_still base t u [] h a = refl
shown_still base t u (d ∷ ds) h a = and_from (is_shown_at base u d) (list_all (is_shown_at base u) ds)
    (ap (is_kind d.item.dir) (same_from t u [] (place_of base d) h) ∙ first_so _ _ a) (shown_still base t u ds h (second_so _ _ a))

pub sets_allowed : (keep : Kept) (base : Names) (ds : List Decision) (t : Tree) → list_all (is_shown_at base t) ds ≡ true → allows (map (set_step keep base) ds) t ≡ true
sets_allowed keep base [] t a = refl
sets_allowed keep base (d ∷ ds) t a = and_from (is_shown_at base t d) _ (first_so _ _ a)
    (sets_allowed keep base ds (updated t (place_of base d) (with_attrs (final_attrs keep d)))
    (shown_still base t (updated t (place_of base d) (with_attrs (final_attrs keep d))) ds (λ p. attrs_same (final_attrs keep d) (same_path (place_of base d) p) (t p)) (second_so _ _ a)))

pub allows-append : (xs ys : List Step) (t : Tree) → allows xs t ≡ true → allows ys (after xs t) ≡ true → allows (xs ++ ys) t ≡ true
allows-append [] ys t h k = k
allows-append (x ∷ xs) ys t h k = and_from (x.may t) _ (first_so _ _ h) (allows-append xs ys (x.change t) (second_so _ _ h) k)

one_allowed : (step : Step) (t : Tree) → step.may t ≡ true → allows (step ∷ []) t ≡ true
one_allowed step t h = and_from (step.may t) true h refl

pub backs_allowed : (keep : Kept) (base : Names) (ds : List Decision) (t : Tree) → list_all (is_shown_at base t) ds ≡ true → allows (reverse (map (set_step keep base) ds)) t ≡ true
backs_allowed keep base [] t a = refl
backs_allowed keep base (d ∷ ds) t a =
    ap (λ (steps : List Step). allows steps t) (back_once keep base d ds)
    ∙ allows-append (reverse (map (set_step keep base) ds)) (set_step keep base d ∷ []) t
    (backs_allowed keep base ds t (second_so _ _ a))
    (one_allowed (set_step keep base d) (after (reverse (map (set_step keep base) ds)) t)
    (ap (is_kind d.item.dir) (same_from t (after (reverse (map (set_step keep base) ds)) t) [] (place_of base d) (backs_same keep base ds t)) ∙ first_so _ _ a))

-- ---- what is removed changes nothing aside
off_cut : (c : Option Names) (o : Option Node) → c ≡ None → at_cut c o (λ rest. None) ≡ o
off_cut c o e = ap (λ w. at_cut w o (λ rest. None)) e

pub seen_aside : (t : Tree) (p q : Names) → is_under p q ≡ false → seen (without t p) q ≡ seen t q
seen_aside t p q h = seen_agree t (without t p) [] q (λ a b e. off_cut (cut p a) (t a) (cut_front p a b (ap (cut p) (sym e) ∙ no_rest (cut p q) h)))

pub not_so : (b : Bool) → not b ≡ true → b ≡ false
not_so true e = absurd (cc)
not_so false e = refl

abbrev pub may_remove : Tree → Names → Bool
may_remove t p = (remove_step p).may t

aside_still : (t : Tree) (p : Names) (ps : List Names) → list_all (λ q. not (is_under p q)) ps ≡ true → list_all (may_remove t) ps ≡ true → list_all (may_remove (without t p)) ps ≡ true
aside_still t p [] h a = refl
aside_still t p (q ∷ ps) h a = and_from (may_remove (without t p) q) (list_all (may_remove (without t p)) ps)
    (ap (λ s. is_none (option_or (refused_root q) (refused_at s))) (seen_aside t p q (not_so (is_under p q) (first_so _ _ h))) ∙ first_so _ _ a)
    (aside_still t p ps (second_so _ _ h) (second_so _ _ a))

pub removes_allowed : (ps : List Names) (t : Tree) → are_apart ps ≡ true → list_all (may_remove t) ps ≡ true → allows (remove_steps ps) t ≡ true
removes_allowed [] t d a = refl
removes_allowed (p ∷ ps) t d a = and_from (may_remove t p) _ (first_so _ _ a) (removes_allowed ps (without t p) (second_so _ _ d) (aside_still t p ps (first_so _ _ d) (second_so _ _ a)))
