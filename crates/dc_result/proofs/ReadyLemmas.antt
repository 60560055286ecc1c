-- Files that are ready land as the plan has them, where their parts are told as the source's bytes.
use Rattle.std.proofs.Common.{◌≡◌, ℕ, ◌-◌, List, [], ◌∷◌, ◌++◌, Option, Some, map, filter, drop, slice_get, refl, ◌∙◌, ap}
use Rattle.std.specs.List.{sum_by}
use Rattle.std.specs.Option.{option_map}
use Rattle.dc_attrs.specs.Trees.{Tree, bytes_of}
use Rattle.dc_fs.specs.Temporaries.{all_told}
use Rattle.dc_decide.specs.Plans.{Decision, Decisions, item_rel}
use Rattle.dc_decide.specs.declared.action.Action.TheVariants as action
use Rattle.dc_commit.specs.Landing.{is_landing, landing_mode, landing_of}
use Rattle.dc_commit.specs.declared.landing.Ready.{Ready}
use Rattle.std.specs.Option.{option_map_or}
use Rattle.dc_result.specs.Commits.{AreLandings, WholeFile, whole_from, whole_of}
use Rattle.dc_result.specs.Effects.{first_byte}

-- the parts of the file are those of this item: the bytes that the source has from there on, and as many
pub record Fills {P : Type 0} (content : P → Option (List ℕ)) (size : P → ℕ) (s : Tree) (plan : Decisions) (file : Ready P) (d : Decision) : Type 0 where
  pub item : slice_get plan.items file.item ≡ Some d
  pub told : all_told (map content file.parts) ≡ option_map (drop (first_byte d.action)) (bytes_of (s d.item.from))
  pub sized : sum_by size file.parts ≡ d.item.length - first_byte d.action

-- of one item after the other
abbrev pub AllFill : {P : Type 0} → (P → Option (List ℕ)) → (P → ℕ) → Tree → Decisions → List (Ready P) → List Decision → Type 0
AllFill content size s plan [] [] = Unit {0}
AllFill content size s plan [] (d ∷ ds) = ⊥
AllFill content size s plan (file ∷ files) [] = ⊥
AllFill content size s plan (file ∷ files) (d ∷ ds) = Fills content size s plan file d × AllFill content size s plan files ds

fills_one : {P : Type 0} (content : P → Option (List ℕ)) (size : P → ℕ) (s : Tree) (plan : Decisions) (file : Ready P) (d : Decision) → Fills content size s plan file d → whole_of (landing_of content size plan file) ≡ whole_from s plan.base d
fills_one content size s plan file d f =
    ap (λ o. record { place = plan.base ++ option_map_or item_rel o []; mode = landing_mode (option_map_or (λ (e : Decision). e.action) o action.Skip); content = all_told (map content file.parts); bytes = sum_by size file.parts }) f.item
    ∙ ap (λ b. record { place = plan.base ++ d.item.rel; mode = landing_mode d.action; content = b; bytes = sum_by size file.parts }) f.told
    ∙ ap (λ n. record { place = plan.base ++ d.item.rel; mode = landing_mode d.action; content = option_map (drop (first_byte d.action)) (bytes_of (s d.item.from)); bytes = n }) f.sized

fills_all : {P : Type 0} (content : P → Option (List ℕ)) (size : P → ℕ) (s : Tree) (plan : Decisions) (files : List (Ready P)) (ds : List Decision) → AllFill content size s plan files ds
    → map whole_of (map (landing_of content size plan) files) ≡ map (whole_from s plan.base) ds
fills_all content size s plan [] [] a = refl
fills_all content size s plan [] (d ∷ ds) a = absurd a
fills_all content size s plan (file ∷ files) [] a = absurd a
fills_all content size s plan (file ∷ files) (d ∷ ds) a =
    ap (λ (w : WholeFile). w ∷ map whole_of (map (landing_of content size plan) files)) (fills_one content size s plan file d a.0)
    ∙ ap (λ (ws : List WholeFile). whole_from s plan.base d ∷ ws) (fills_all content size s plan files ds a.1)

-- so they land as the plan has them
pub ready_files_land : {P : Type 0} (content : P → Option (List ℕ)) (size : P → ℕ) (s : Tree) (plan : Decisions) (files : List (Ready P)) → AllFill content size s plan files (filter is_landing plan.items) → AreLandings s plan (map (landing_of content size plan) files)
ready_files_land content size s plan files a = fills_all content size s plan files (filter is_landing plan.items) a
