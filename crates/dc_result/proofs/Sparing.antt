-- At each point of a commit all that stood before stands as it was, but for what is copied and what goes.
use Rattle.std.proofs.Common.{◌≡◌, if◌then◌else◌, ◌++◌, Bool, true, false, not, Option, Some, None, reverse, take, is_some, refl, sym, ◌∙◌, ap}
use Rattle.std.proofs.lemmas.Bool.{false_from_ne_true, or_from}
use Rattle.std.proofs.lemmas.List.Folds.{list_any-append}
use Rattle.std.specs.Option.{option_and_then, option_map_or}
use Rattle.dc_path.specs.Found.{has_path}
use Rattle.dc_path.specs.Paths.{Names, at_cut, cut, same_path}
use Rattle.dc_path.proofs.PathLemmas.{append-cut}
use Rattle.dc_attrs.specs.Trees.{Node, is_dir, made}
use Rattle.dc_fs.specs.declared.target.Landed.{Landed}
use Rattle.dc_listing.specs.Listed.{Origin}
use Rattle.dc_decide.specs.Deciding.{action_of}
use Rattle.dc_missing.specs.Missing.{covers}
use Rattle.dc_result.specs.During.{AreElements, Elements, IsAside, Making, Landing as AtLanding, SettingFiles, Removing, SettingDirs, Point, Progress, copied_at, file_at, landed_of, partly, progress}
use Rattle.dc_result.specs.Effects.{effect_at, effect_on}
use Rattle.dc_result.specs.Jobs.{Job, in_run, old_at}
use Rattle.dc_result.proofs.Built.{covers_off}
use Rattle.dc_result.proofs.Folds.{has_found}
use Rattle.dc_result.proofs.Parts.{covers_take, has_reverse, has_take}

-- where nothing is removed, set or landed, a directory at most is made
untouched : (job : Job) (done : Progress) (p : Names) (n : Node) → job.before p ≡ Some n → covers done.removed p ≡ false → has_path done.set_at p ≡ false → has_path done.landed_at p ≡ false → partly job done p ≡ Some n
untouched job done p n h gone set landed =
    ap (λ b. if b then None else if has_path done.set_at p then at_cut (cut job.base p) None (copied_at job) else if has_path done.landed_at p then at_cut (cut job.base p) None (file_at job) else if has_path done.made_at p then made (job.before p) else job.before p) gone
    ∙ ap (λ b. if b then at_cut (cut job.base p) None (copied_at job) else if has_path done.landed_at p then at_cut (cut job.base p) None (file_at job) else if has_path done.made_at p then made (job.before p) else job.before p) set
    ∙ ap (λ b. if b then at_cut (cut job.base p) None (file_at job) else if has_path done.made_at p then made (job.before p) else job.before p) landed
    ∙ ap (λ o. if has_path done.made_at p then made o else o) h
    ∙ still (has_path done.made_at p)
  where
    still : (b : Bool) → (if b then made (Some n) else Some n) ≡ Some n
    still true = refl
    still false = refl

module _ (job : Job) (e : Elements) (are : AreElements job e) (p : Names) (aside : IsAside job p) where
  pub stays : covers e.removals p ≡ false
  stays = by (cut job.base p) refl
    where
      by : (o : Option Names) → cut job.base p ≡ o → covers e.removals p ≡ false
      by None f = covers_off job.base e.removals p are.removals.inside f
      by (Some r) f =
          let at = append-cut job.base p r f in
          false_from_ne_true (covers e.removals p) (λ h. (aside r at).1 (are.removals.goes r (ap (covers e.removals) (sym at) ∙ h)))

  -- nothing that is copied is at the path
  none_at : (test : Origin → Bool) → at_cut (cut job.base p) false (λ rel. option_map_or test (in_run job rel) false) ≡ false
  none_at test = by (cut job.base p) refl
    where
      by : (o : Option Names) → cut job.base p ≡ o → at_cut o false (λ rel. option_map_or test (in_run job rel) false) ≡ false
      by None f = refl
      by (Some r) f = ap (λ o. option_map_or test o false) (aside r (append-cut job.base p r f)).0

  pub no_folder : has_path e.folders p ≡ false
  no_folder = are.folders p ∙ none_at (λ origin. is_dir origin.node)

  pub no_file : has_path e.files p ≡ false
  no_file = are.files p ∙ none_at (λ origin. not (is_dir origin.node))

  pub none_lands : has_path (landed_of e) p ≡ false
  none_lands = has_found (λ (one : Landed). one.path) e.effects p ∙ ap is_some (are.effects.each p ∙ by (cut job.base p) refl)
    where
      by : (o : Option Names) → cut job.base p ≡ o → at_cut o None (effect_at job) ≡ None
      by None f = refl
      by (Some r) f = ap (option_and_then (λ (origin : Origin). effect_on (job.base ++ r) origin.node (action_of job.settings origin.node (old_at job r)))) (aside r (append-cut job.base p r f)).0

  pub spared : (point : Point) (n : Node) → job.before p ≡ Some n → partly job (progress job e point) p ≡ Some n
  spared (Making k) n h = untouched job (progress job e (Making k)) p n h refl refl refl
  spared (AtLanding k) n h = untouched job (progress job e (AtLanding k)) p n h refl refl (has_take k (landed_of e) p none_lands)
  spared (SettingFiles k) n h = untouched job (progress job e (SettingFiles k)) p n h refl (has_take k e.files p no_file) none_lands
  spared (Removing k) n h = untouched job (progress job e (Removing k)) p n h (covers_take k e.removals p stays) no_file none_lands
  spared (SettingDirs k) n h = untouched job (progress job e (SettingDirs k)) p n h stays
      (list_any-append (λ q. same_path q p) (take k (reverse e.folders)) e.files
      ∙ or_from (has_path (take k (reverse e.folders)) p) (has_path e.files p) (has_take k (reverse e.folders) p (has_reverse e.folders p ∙ no_folder)) no_file)
      none_lands
