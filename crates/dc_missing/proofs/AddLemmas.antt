-- What a list gains in a walk, for every store: nothing, a path itself, what is under a name, one name more.
use Rattle.std.proofs.Common.{◌≡◌, ℕ, List, [], ◌∷◌, ◌++◌, length, map, take, Bool, true, false, refl, sym, ◌∙◌, ap, append_assoc, append-nil}
use Rattle.std.proofs.Math.Seq.{take-append_seam}
use Rattle.std.proofs.lemmas.Bool.{and_from, or_left, or_right}
use Rattle.std.proofs.lemmas.List.{map-append}
use Rattle.std.proofs.lemmas.List.Folds.{list_all-append, list_any-append}
use Rattle.std.specs.List.{list_any}
use Rattle.dc_path.specs.Names.{same_name}
use Rattle.dc_path.specs.Paths.{Names}
use Rattle.dc_attrs.specs.Trees.{is_hidden}
use Rattle.dc_fs.specs.Looks.{is_shown}
use Rattle.dc_listing.specs.Walking.{is_below, is_in}
use Rattle.dc_listing.proofs.Ascending.{all_weaker, all_under, map_under, under}
use Rattle.dc_listing.proofs.GainLemmas.{IsNext, in_itself}
use Rattle.dc_missing.specs.Finding.{is_any, Adds}
use Rattle.dc_missing.proofs.MeetLemmas.{names_after}
use Rattle.dc_missing.proofs.UnderLemmas.{one_path, in_under, in_either, covered_under, covered_either, apart_then, apart_below, hidden_under}

-- ---- nothing
pub adds_none : (listed : Names → Bool) (dir : Names) (part : Names → Bool) (old : List Names) → Adds listed dir part [] old old
adds_none listed dir part old = record {
  is = sym (append-nil old);
  apart = refl;
  inside = refl;
  shown = λ q h. cc;
  unlisted = λ q h. cc;
}

-- ---- under a name
pub adds_under : (listed : Names → Bool) (dir : Names) (x : List ℕ) (rests old new : List Names) → is_shown x ≡ true → Adds listed (dir ++ x ∷ []) is_any rests old new → Adds listed dir (is_in (x ∷ [])) (under x rests) old new
adds_under listed dir x rests old new s a = record {
  is = a.is ∙ ap (λ (ps : List Names). old ++ ps) (map_under dir x rests);
  apart = apart_below (x ∷ []) rests ∙ a.apart;
  inside = all_under x (is_in (x ∷ [])) rests (in_itself x);
  shown = λ q h. let k = in_under x rests q h in ap is_hidden k.1 ∙ hidden_under x k.0 false s (a.shown k.0 k.2);
  unlisted = λ q h. let k = covered_under x rests q h in ap (λ (p : Names). listed (dir ++ p)) k.1 ∙ ap listed (sym (append_assoc dir (x ∷ []) k.0)) ∙ a.unlisted k.0 k.2;
}

-- ---- a path itself
pub adds_kept : (listed : Names → Bool) (p : Names) (rests old new : List Names) → Adds listed p is_below rests old new → Adds listed p is_any rests old new
adds_kept listed p rests old new a = record {
  is = a.is;
  apart = a.apart;
  inside = all_weaker is_below is_any (λ q h. refl) rests a.inside;
  shown = a.shown;
  unlisted = a.unlisted;
}

pub adds_gone : (listed : Names → Bool) (p : Names) (rests old mid new : List Names) → ((rest : Names) → listed (p ++ rest) ≡ false) → Adds listed p is_below rests old mid → new ≡ take (length old) mid ++ p ∷ [] → Adds listed p is_any ([] ∷ []) old new
adds_gone listed p rests old mid new l a e = record {
  is = e ∙ ap (λ (ps : List Names). take (length old) ps ++ p ∷ []) a.is ∙ ap (λ (ps : List Names). ps ++ p ∷ []) (take-append_seam old (map (λ q. p ++ q) rests)) ∙ ap (λ (q : Names). old ++ q ∷ []) (sym (append-nil p));
  apart = refl;
  inside = refl;
  shown = λ q h. ap is_hidden (sym (one_path [] q h));
  unlisted = λ q h. l q;
}

-- ---- one name more
pub adds_then : (listed : Names → Bool) (dir : Names) (done : Names) (x : List ℕ) (rests later old mid new : List Names) → IsNext done x → Adds listed dir (is_in done) rests old mid → Adds listed dir (is_in (x ∷ [])) later mid new → Adds listed dir (is_in (done ++ x ∷ [])) (rests ++ later) old new
adds_then listed dir done x rests later old mid new n a b = record {
  is = b.is ∙ ap (λ (ps : List Names). ps ++ map (λ q. dir ++ q) later) a.is ∙ append_assoc old (map (λ q. dir ++ q) rests) (map (λ q. dir ++ q) later) ∙ ap (λ (ps : List Names). old ++ ps) (sym (map-append (λ q. dir ++ q) rests later));
  apart = apart_then (is_in done) (is_in (x ∷ [])) (λ p q. names_after done x p q n) rests later a.apart b.apart a.inside b.inside;
  inside = list_all-append (is_in (done ++ x ∷ [])) rests later ∙ and_from _ _ (all_weaker (is_in done) (is_in (done ++ x ∷ [])) first rests a.inside) (all_weaker (is_in (x ∷ [])) (is_in (done ++ x ∷ [])) last later b.inside);
  shown = λ q h. in_either rests later q h (a.shown q) (b.shown q);
  unlisted = λ q h. covered_either rests later q h (a.unlisted q) (b.unlisted q);
}
  where
    first : (q : Names) → is_in done q ≡ true → is_in (done ++ x ∷ []) q ≡ true
    first [] h = cc
    first (y ∷ r) h = list_any-append (same_name y) done (x ∷ []) ∙ or_left (list_any (same_name y) done) (list_any (same_name y) (x ∷ [])) h

    last : (q : Names) → is_in (x ∷ []) q ≡ true → is_in (done ++ x ∷ []) q ≡ true
    last [] h = cc
    last (y ∷ r) h = list_any-append (same_name y) done (x ∷ []) ∙ or_right (list_any (same_name y) done) (list_any (same_name y) (x ∷ [])) h

-- ---- another part that has them
pub adds_as : (listed : Names → Bool) (dir : Names) (part whole : Names → Bool) (rests old new : List Names) → ((q : Names) → part q ≡ true → whole q ≡ true) → Adds listed dir part rests old new → Adds listed dir whole rests old new
adds_as listed dir part whole rests old new h a = record {
  is = a.is;
  apart = a.apart;
  inside = all_weaker part whole h rests a.inside;
  shown = a.shown;
  unlisted = a.unlisted;
}
