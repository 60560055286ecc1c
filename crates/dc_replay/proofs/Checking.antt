-- The tests by looks decide the same as the tests in words.
use Rattle.std.proofs.Common.{ℕ, ◌≡◌, inl, inr, ⊎_elim, List, [], ◌∷◌, ◌++◌, true, ◌&&◌, Some, None, refl, sym, ◌∙◌, ap, subst}
use Rattle.std.specs.Prelude.{is_some}
use Rattle.std.proofs.lemmas.Bool.{and_parts}
use Rattle.dc_attrs.specs.Trees.{IsDirAt, IsTree, Tree, is_dir_node, IsThere}
use Rattle.dc_path.specs.Paths.{Names, front_of}
use Rattle.dc_report.specs.Carrying.{Has, Place, carries_of, moved, place_of, plan}
use Rattle.dc_report.specs.Apart.{IsReport}
use Rattle.dc_replay.specs.Checking.{IsStageFree, Looked, Passes, where_to}
use Rattle.dc_replay.specs.Tests.{first_false, test_entry}
use Rattle.dc_report.specs.declared.entries.Entry.{Entry}
use Rattle.dc_report.specs.declared.entries.Entry.TheVariants.{Created, Deleted, Modified, Renamed}
use Rattle.dc_replay.proofs.Allowed.{off_root, ended_off}
use Rattle.dc_replay.proofs.TrueReport.{IsForm}
use Rattle.dc_replay.proofs.PlanLemmas.{form_of, checked, placed_from}
use Rattle.dc_replay.proofs.TrueEntries.{renamed_item}
use Rattle.dc_replay.proofs.Looks.{IsOwn, looks_own, found, look_leads, checked_looked}
use Rattle.dc_replay.proofs.Testing.{unless_none, none_unless, dir_there, has_any_path, entry_none, tests_looked, looked_tests}
use Rattle.dc_path.proofs.PathLemmas.{front_of-append, Ended, ended_cons, some_rest}
use Rattle.dc_attrs.proofs.TreeLemmas.{there_is}
use Rattle.dc_report.proofs.HasLemmas.{has_filter_map}
use Rattle.dc_report.proofs.Carriers.{carrier_stays}

-- ---- where no look fails, the tests in words hold
pub passes_from : (st : List ℕ) (R : List Entry) (A : Tree) → IsReport R → IsTree A → IsStageFree st R A → first_false R A ≡ None → Passes st R A
passes_from st R A is v free pass = record {
  stage = free.stage;
  deleted_off = free.deleted;
  renamed_off = free.renamed;
  deleted = λ p h. there_is (A p) (unless_none (is_some (A p)) p (entry_none (plan R) A R pass (Deleted p) h));
  modified = λ x p h. there_is (A (x ∷ p)) (unless_none (is_some (A (x ∷ p))) (x ∷ p) (entry_none (plan R) A R pass (Modified (x ∷ p)) h));
  renamed = λ a b h. there_is (A a) (unless_none (is_some (A a)) a (entry_none (plan R) A R pass (Renamed a b) h));
  created = created;
  own = λ a b p h t m. let n = renamed_item R a b h in own n.0 (form.complete n.0 n.1) p t.0 t.1 (m ∙ ap (λ (u : Names). Some u) (sym n.3)) ∙ n.2;
  parent = λ a d x h. let n = renamed_item R a (d ++ x ∷ []) h in
      ⊎_elim (λ i. inl i) (λ i. inr (⊎_elim (λ j. inl (j.0, j.1, (look_leads (carries_of R) (plan R).news j.0 d j.2).1)) (λ j. inr j) i)) (looked.parent n.0 d x (form.complete n.0 n.1) n.3);
  places = λ c q h e p t m. looked.places q p (has_any_path (plan R).places q (has_filter_map (place_of (carries_of R)) R (Created c) q h e)) (found st (plan R) A p q t.0 form v own t.1 m) t;
  made = λ q h p t m. looked.made q p h (found st (plan R) A p q t.0 form v own t.1 m) t;
}
  where
    form : IsForm st (plan R)
    form = form_of st R is free.deleted free.renamed

    looked : Looked (plan R) A
    looked = tests_looked (plan R) A R pass

    own : (n : Place) → Has (plan R).news n → IsOwn (carries_of R) A n
    own = looks_own st (plan R) A form v looked

    created : (d : Names) (x : List ℕ) → Has R (Created (d ++ x ∷ [])) → IsDirAt A d × ((q : Names) × (where_to R d ≡ Some q))
    created d x h =
        let k = unless_none (is_dir_node (A (front_of (d ++ x ∷ []))) && is_some (moved (carries_of R) (front_of (d ++ x ∷ [])))) (d ++ x ∷ []) (entry_none (plan R) A R pass (Created (d ++ x ∷ [])) h) in
        let g : (is_dir_node (A d) && is_some (moved (carries_of R) d)) ≡ true = subst (λ (u : Names). (is_dir_node (A u) && is_some (moved (carries_of R) u)) ≡ true) (front_of-append d x) k in
        let b = and_parts (is_dir_node (A d)) (is_some (moved (carries_of R) d)) g in
        (dir_there (A d) b.0, some_rest (moved (carries_of R) d) b.1)

-- ---- where they hold, no look fails
pub passes_to : (st : List ℕ) (R : List Entry) (A : Tree) → IsReport R → IsTree A → Passes st R A → first_false R A ≡ None
passes_to st R A is v ok = looked_tests (plan R) A R entry_ok last looked
  where
    form : IsForm st (plan R)
    form = form_of st R is ok.deleted_off ok.renamed_off

    looked : Looked (plan R) A
    looked = checked_looked st (plan R) A form (checked st R A is v ok)
        (λ q p h t m. let k = placed_from (carries_of R) R q h in ok.places k.0 q k.1 k.2 p t m)

    last : (n : Place) → Has (plan R).news n → Ended n.new
    last n h = ended_off st n.new (form.news_off n h)

    root_goes : moved (carries_of R) [] ≡ Some []
    root_goes = rw (carrier_stays (carries_of R) [] (λ c k. off_root st c.old [] (form.olds_off c k) refl)) refl

    both_true : (c d : Names) → front_of c ≡ d → IsDirAt A d → (q : Names) × (moved (carries_of R) d ≡ Some q) → test_entry (plan R) A (Created c) ≡ None
    both_true c d e i m = rw (e, i.1, m.1) refl

    created_ok : (c : Names) → Has R (Created c) → test_entry (plan R) A (Created c) ≡ None
    created_ok [] h = both_true [] [] refl v.root ([], root_goes)
    created_ok (x ∷ c) h =
        let l = ended_cons x c in
        let k = ok.created l.front l.name (subst (λ (u : Names). Has R (Created u)) l.path h) in
        both_true (x ∷ c) l.front (ap front_of l.path ∙ front_of-append l.front l.name) k.0 k.1

    there_ok : (p : Names) → IsThere A p → is_some (A p) ≡ true
    there_ok p t = rw t.1 refl

    entry_ok : (e : Entry) → Has R e → test_entry (plan R) A e ≡ None
    entry_ok (Deleted p) h = none_unless (is_some (A p)) p (there_ok p (ok.deleted p h))
    entry_ok (Renamed a b) h = none_unless (is_some (A a)) a (there_ok a (ok.renamed a b h))
    entry_ok (Created c) h = created_ok c h
    entry_ok (Modified []) h = refl
    entry_ok (Modified (x ∷ p)) h = none_unless (is_some (A (x ∷ p))) (x ∷ p) (there_ok (x ∷ p) (ok.modified x p h))
