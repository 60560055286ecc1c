-- Under a work path no phase touches the target.
use Rattle.std.proofs.Common.{◌≡◌, inl, if◌then◌else◌, ℕ, List, [], ◌∷◌, ◌++◌, Bool, true, false, cond, not, ◌||◌, None, reverse, take, is_some, refl, sym, ◌∙◌, ap, append-nil}
use Rattle.std.proofs.lemmas.Bool.{and_right, false_from_ne_true, or_from}
use Rattle.std.proofs.lemmas.List.Folds.{list_any-append}
use Rattle.dc_path.specs.Found.{has_path}
use Rattle.dc_path.specs.Names.{same_name}
use Rattle.dc_path.specs.Paths.{Names, at_cut, cut, front_of, is_above, is_root, is_under, same_path}
use Rattle.dc_path.proofs.PathLemmas.{cut-append, same_name-refl, same_path-true}
use Rattle.dc_attrs.specs.Trees.{made}
use Rattle.dc_commit.specs.Making.{ways}
use Rattle.dc_result.specs.Atomic.{IsAtomic}
use Rattle.dc_missing.specs.Missing.{covers}
use Rattle.dc_result.specs.During.{AreElements, Elements, IsAside, Making, Landing as AtLanding, SettingFiles, Removing, SettingDirs, Point, Progress, copied_at, dirs_of, file_at, landed_of, partly, progress}
use Rattle.dc_result.specs.Jobs.{Job, lists_file}
use Rattle.dc_result.specs.Laws.{TargetIsUntouched}
use Rattle.dc_result.proofs.Built.{not_above}
use Rattle.dc_result.proofs.Lawful.{points_are_partly}
use Rattle.dc_result.proofs.Parts.{covers_take, has_reverse, has_take}
use Rattle.dc_result.proofs.Places.{way_at}
use Rattle.dc_result.proofs.Sparing.{no_file, no_folder, none_lands, stays}

-- where nothing is removed, set, landed or made, all is as before
as_before : (job : Job) (done : Progress) (p : Names) → covers done.removed p ≡ false → has_path done.set_at p ≡ false → has_path done.landed_at p ≡ false → has_path done.made_at p ≡ false → partly job done p ≡ job.before p
as_before job done p gone set landed dirs =
    ap (λ b. if b then None else if has_path done.set_at p then at_cut (cut job.base p) None (copied_at job) else if has_path done.landed_at p then at_cut (cut job.base p) None (file_at job) else if has_path done.made_at p then made (job.before p) else job.before p) gone
    ∙ ap (λ b. if b then at_cut (cut job.base p) None (copied_at job) else if has_path done.landed_at p then at_cut (cut job.base p) None (file_at job) else if has_path done.made_at p then made (job.before p) else job.before p) set
    ∙ ap (λ b. if b then at_cut (cut job.base p) None (file_at job) else if has_path done.made_at p then made (job.before p) else job.before p) landed
    ∙ ap (λ b. if b then made (job.before p) else job.before p) dirs

-- of two paths, neither a front of the other, nothing at or under the one is at or under the other
apart_rest : (base target rest r : Names) → is_under base target ≡ false → is_under target base ≡ false → target ++ rest ≡ base ++ r → ⊥
apart_rest [] target rest r a b e = absurd (cc)
apart_rest (x ∷ base) [] rest r a b e = absurd (cc)
apart_rest (x ∷ base) (y ∷ target) rest r a b e =
    let n : x ≡ y = cc in
    let t : target ++ rest ≡ base ++ r = cc in
    apart_rest base target rest r (tail x y base target n a) (tail y x target base (sym n) b) t
  where
    tail : (v w : List ℕ) (p q : Names) → v ≡ w → is_under (v ∷ p) (w ∷ q) ≡ false → is_under p q ≡ false
    tail v w p q i h = sym (ap (λ c. is_some (cond c (cut p q) None)) (ap (same_name v) (sym i) ∙ same_name-refl v)) ∙ h

module _ (job : Job) (e : Elements) (are : AreElements job e) (atomic : IsAtomic job) (off : is_under job.target job.base ≡ false) (rest : Names) where
  aside : IsAside job (job.target ++ rest)
  aside rel i = absurd (apart_rest job.base job.target rest rel atomic.apart off i)

  none_made : has_path (dirs_of job e) (job.target ++ rest) ≡ false
  none_made =
      list_any-append (λ p. same_path p (job.target ++ rest)) (ways (front_of job.target)) (cond (lists_file job []) [] (job.base ∷ []) ++ e.folders)
      ∙ or_from (has_path (ways (front_of job.target)) (job.target ++ rest)) _
      (way_at job.target (job.target ++ rest) ∙ and_right (not (is_root (job.target ++ rest))) (is_above (job.target ++ rest) job.target) (not_above job.target job.target (job.target ++ rest) rest (inl refl) (cut-append job.target rest)))
      (list_any-append (λ p. same_path p (job.target ++ rest)) (cond (lists_file job []) [] (job.base ∷ [])) e.folders
      ∙ or_from (has_path (cond (lists_file job []) [] (job.base ∷ [])) (job.target ++ rest)) (has_path e.folders (job.target ++ rest)) (base_part (lists_file job [])) (no_folder job e are (job.target ++ rest) aside))
    where
      other : same_path job.base (job.target ++ rest) ≡ false
      other = false_from_ne_true (same_path job.base (job.target ++ rest)) (λ h. apart_rest job.base job.target rest [] atomic.apart off (sym (same_path-true job.base (job.target ++ rest) h) ∙ sym (append-nil job.base)))

      base_part : (b : Bool) → has_path (cond b [] (job.base ∷ [])) (job.target ++ rest) ≡ false
      base_part true = refl
      base_part false = ap (λ c. c || false) other

  pub untouched : (point : Point) → partly job (progress job e point) (job.target ++ rest) ≡ job.before (job.target ++ rest)
  untouched (Making k) = as_before job (progress job e (Making k)) (job.target ++ rest) refl refl refl (has_take k (dirs_of job e) (job.target ++ rest) none_made)
  untouched (AtLanding k) = as_before job (progress job e (AtLanding k)) (job.target ++ rest) refl refl (has_take k (landed_of e) (job.target ++ rest) (none_lands job e are (job.target ++ rest) aside)) none_made
  untouched (SettingFiles k) = as_before job (progress job e (SettingFiles k)) (job.target ++ rest) refl (has_take k e.files (job.target ++ rest) (no_file job e are (job.target ++ rest) aside)) (none_lands job e are (job.target ++ rest) aside) none_made
  untouched (Removing k) = as_before job (progress job e (Removing k)) (job.target ++ rest) (covers_take k e.removals (job.target ++ rest) (stays job e are (job.target ++ rest) aside)) (no_file job e are (job.target ++ rest) aside) (none_lands job e are (job.target ++ rest) aside) none_made
  untouched (SettingDirs k) = as_before job (progress job e (SettingDirs k)) (job.target ++ rest) (stays job e are (job.target ++ rest) aside)
      (list_any-append (λ q. same_path q (job.target ++ rest)) (take k (reverse e.folders)) e.files
      ∙ or_from (has_path (take k (reverse e.folders)) (job.target ++ rest)) (has_path e.files (job.target ++ rest))
      (has_take k (reverse e.folders) (job.target ++ rest) (has_reverse e.folders (job.target ++ rest) ∙ no_folder job e are (job.target ++ rest) aside)) (no_file job e are (job.target ++ rest) aside))
      (none_lands job e are (job.target ++ rest) aside) none_made

pub target_is_untouched : TargetIsUntouched
target_is_untouched s job commit is atomic off c point rest =
    let k = points_are_partly s job commit is c in
    k.trees point (job.target ++ rest) ∙ untouched job k.elements k.are atomic off rest point
