-- The directories that are copied, by what is listed.
use Rattle.std.proofs.Common.{◌≡◌, Bool, true, false, cond, List, [], ◌∷◌, map, Option, Some, None, ◌++◌, filter, refl, ap, ◌∙◌, slice_get}
use Rattle.std.specs.Option.{is_some, option_map, option_map_or}
use Rattle.dc_path.specs.Found.{found}
use Rattle.dc_path.specs.Order.{is_ascending}
use Rattle.dc_path.specs.Paths.{Names, same_path}
use Rattle.dc_path.proofs.FoundLemmas.{ascending-filter, found-filter, kept}
use Rattle.dc_attrs.specs.Trees.{Node, Tree, is_dir, is_dir_node}
use Rattle.dc_listing.specs.Entries.{Entry, rel_of}
use Rattle.dc_listing.specs.Listed.{Origin, AreListed, all_listed, entries_at, entry_at, origins_of}
use Rattle.dc_result.specs.Begins.{copies_dir}
use Rattle.dc_result.proofs.Folds.{has_found}
use Rattle.dc_plain.specs.Left.{AreFolders}
use Rattle.dc_plain.specs.Plain.{IsPlain, copied_from}
use Rattle.dc_plain.proofs.LeftLemmas.{in_run_is, plain_job}
use Rattle.dc_plain.proofs.ListLemmas.{all_listed_is, no_rules, root_of}

-- ---- what is found among entries
first_by : (entry : Entry) (entries : List Entry) (o : Option Entry) (is : Bool) → o ≡ slice_get entries 0 → cond is (Some entry) o ≡ slice_get (cond is (entry ∷ entries) entries) 0
first_by entry entries o true e = refl
first_by entry entries o false e = e

found_first : (entries : List Entry) (rel : Names) → found rel_of entries rel ≡ slice_get (entries_at entries rel) 0
found_first [] rel = refl
found_first (entry ∷ entries) rel = first_by entry (entries_at entries rel) (found rel_of entries rel) (same_path entry.rel rel) (found_first entries rel)

first_origin : (rel from : Names) (o : Option Node) → slice_get (map (entry_at rel) (origins_of from o true)) 0 ≡ option_map (λ node. entry_at rel (record { from = from; node = node })) o
first_origin rel from None = refl
first_origin rel from (Some n) = refl

-- ---- those that pass a test of their paths
passes_by : (rel from : Names) (test : Names → Bool) (o : Option Node) → test rel ≡ is_dir_node o
    → is_some (kept (λ (entry : Entry). test entry.rel) (option_map (λ node. entry_at rel (record { from = from; node = node })) o)) ≡ is_dir_node o
passes_by rel from test None e = refl
passes_by rel from test (Some n) e = some_if (test rel) _ ∙ e
  where
    some_if : {A : Type 0} (b : Bool) (x : A) → is_some (cond b (Some x) None) ≡ b
    some_if true x = refl
    some_if false x = refl

dir_by : (from : Names) (o : Option Node) → option_map_or (λ (origin : Origin). is_dir origin.node) (option_map (λ node. record { from = from; node = node }) o) false ≡ is_dir_node o
dir_by from None = refl
dir_by from (Some n) = refl

module _ (s : Tree) (source target : Names) (p : IsPlain s source target) (out : Names → Bool) (whole : (rel : Names) → out rel ≡ false) where
  copies_is : (rel : Names) → copies_dir (plain_job s source target out) rel ≡ is_dir_node (copied_from s source rel)
  copies_is rel = ap (λ (o : Option Origin). option_map_or (λ origin. is_dir origin.node) o false) (in_run_is s source target p out whole rel) ∙ dir_by (source ++ rel) (copied_from s source rel)

  module _ (entries : List Entry) (are : AreListed (all_listed no_rules s (root_of source ∷ [])) entries) (a : is_ascending (map rel_of entries) ≡ true) where
    entry_found : (rel : Names) → found rel_of entries rel ≡ option_map (λ node. entry_at rel (record { from = source ++ rel; node = node })) (copied_from s source rel)
    entry_found rel =
        found_first entries rel
        ∙ ap (λ es. slice_get es 0) (are rel ∙ ap (map (entry_at rel)) (all_listed_is s source p.dir rel))
        ∙ first_origin rel (source ++ rel) (copied_from s source rel)

    abbrev pub folders_of : List Entry
    folders_of = filter (λ (entry : Entry). copies_dir (plain_job s source target out) entry.rel) entries

    pub folders_are : AreFolders s source (map rel_of folders_of)
    folders_are = record {
      ascending = ascending-filter rel_of (λ (entry : Entry). copies_dir (plain_job s source target out) entry.rel) entries a;
      each = λ rel.
          has_found rel_of folders_of rel
          ∙ ap is_some (found-filter rel_of (λ (entry : Entry). copies_dir (plain_job s source target out) entry.rel) entries rel a ∙ ap (kept (λ (entry : Entry). copies_dir (plain_job s source target out) entry.rel)) (entry_found rel))
          ∙ passes_by rel (source ++ rel) (copies_dir (plain_job s source target out)) (copied_from s source rel) (copies_is rel);
    }
