-- Directories that are made: the way to a path, and what stands there already.
use Rattle.std.proofs.Common.{◌≡◌, ℕ, ◌+◌, ◌-◌, ◌<◌, Bool, true, false, cond, not, List, [], ◌∷◌, ◌++◌, take, drop, length, map, get_or, zero, suc, add-one, Option, Some, None, Err, IfSome, refl, sym, ap, ◌∙◌, subst, arith, append_assoc}
use Rattle.std.proofs.Math.Path.{fun_ext}
use Rattle.std.proofs.lemmas.List.{length-map, take-append-drop}
use Rattle.std.specs.Option.{option_map}
use Rattle.dc_path.specs.Paths.{Names, IsPath, IsWithin, front_of, same_path}
use Rattle.dc_path.proofs.LimitLemmas.{front_within, path_within}
use Rattle.dc_path.proofs.PathLemmas.{same_path-true}
use Rattle.dc_attrs.specs.Refusals.{refused_dir, refused_in, refused_new}
use Rattle.dc_attrs.specs.Trees.{Node, Tree, made, seen, updated}
use Rattle.dc_attrs.specs.declared.refusals.TreeError.{TreeError}
use Rattle.dc_attrs.specs.declared.refusals.TreeError.TheVariants as tree_error
use Rattle.dc_attrs.specs.declared.shown.Seen.{Seen}
use Rattle.dc_attrs.specs.declared.shown.Seen.TheVariants as seen_as
use Rattle.dc_fs.specs.Answers.{WriteAnswers, is_refusal, write_error_of}
use Rattle.dc_fs.specs.declared.errors.WriteError.{WriteError}
use Rattle.dc_fs.specs.declared.errors.WriteError.TheVariants as write_error
use Rattle.dc_commit.specs.Making.{is_hindrance, make_step, ways, way_steps}
use Rattle.dc_commit.specs.Steps.{Step, StopsIn, StopsFrom}
use Rattle.dc_commit.specs.declared.steps.StepError.{StepError}
use Rattle.dc_commit.proofs.StepLemmas.{each_all, each_next, next_at, none_done, refusal_is, split_at, stops_in}

-- ---- where something stands already
never_exists : (s : Seen) → option_map write_error_of (refused_in s) ≡ Some write_error.Exists → ⊥
never_exists seen_as.Dir e = cc
never_exists (seen_as.File l) e = cc
never_exists seen_as.Missing e = cc
never_exists seen_as.NotDir e = cc

stands_there : (o : Option Node) (s : Seen) → option_map write_error_of (refused_new o (refused_in s)) ≡ Some write_error.Exists → (n : Node) × (o ≡ Some n)
stands_there (Some n) s e = (n, refl)
stands_there None s e = absurd (never_exists s e)

same_node : (b : Bool) (o : Option Node) (n : Node) → (b ≡ true → o ≡ Some n) → cond b (made o) o ≡ o
same_node true o n h = ap made (h refl) ∙ sym (h refl)
same_node false o n h = refl

stands_made : (t : Tree) (p : Names) (n : Node) → t p ≡ Some n → t ≡ updated t p made
stands_made t p n e = fun_ext (λ q. sym (same_node (same_path p q) (t q) n (λ b. ap t (sym (same_path-true p q b)) ∙ e)))

pub exists_made : (old new : Option Tree) (p : Names) → new ≡ old → IfSome old (λ t. option_map write_error_of (refused_dir t p) ≡ Some write_error.Exists) → new ≡ option_map (λ t. updated t p made) old
exists_made None new p e h = e
exists_made (Some t) new p e h = let n = stands_there (t p) (seen t (front_of p)) h in e ∙ ap Some (stands_made t p n.0 n.1)

-- ---- every other refusal hinders
hindrance_of : (why : Option TreeError) (e : WriteError) → option_map write_error_of why ≡ Some e → (e ≡ write_error.Exists → ⊥) → is_hindrance why ≡ true
hindrance_of None e h n = absurd (cc)
hindrance_of (Some tree_error.Exists) e h n = absurd (n (cc))
hindrance_of (Some tree_error.Missing) e h n = refl
hindrance_of (Some tree_error.NotDir) e h n = refl
hindrance_of (Some tree_error.IsDir) e h n = refl
hindrance_of (Some tree_error.IntoItself) e h n = refl
hindrance_of (Some tree_error.Root) e h n = refl
hindrance_of (Some tree_error.Memory) e h n = refl

pub hindered : (old : Option Tree) (p : Names) (e : WriteError) → is_refusal e ≡ true → (e ≡ write_error.Exists → ⊥) → IfSome old (λ t. WriteAnswers {X = Unit {0}} (refused_dir t p) (Err e)) → IfSome old (λ t. is_hindrance (refused_dir t p) ≡ true)
hindered None p e h n r = tt
hindered (Some t) p e h n r = hindrance_of (refused_dir t p) e (refusal_is (refused_dir t p) e h r) n

pub hindered_may : (old : Option Tree) (p : Names) → IfSome old (λ t. is_hindrance (refused_dir t p) ≡ true) → IfSome old (λ t. not (is_hindrance (refused_dir t p)) ≡ false)
hindered_may None p h = tt
hindered_may (Some t) p h = ap not h

-- ---- the way to a path
get_or-map : (x : List ℕ) (ps : List Names) (i : ℕ) (d e : Names) → i < length ps → get_or (map (λ (way : Names). x ∷ way) ps) i d ≡ x ∷ get_or ps i e
get_or-map x [] i d e h = absurd (omega arith)
get_or-map x (p ∷ ps) zero d e h = refl
get_or-map x (p ∷ ps) (suc i) d e h = get_or-map x ps i d e (omega arith)

pub length-ways : (p : Names) → length (ways p) ≡ length p
length-ways [] = refl
length-ways (x ∷ p) = omega (arith, length-map (ways p) (λ (way : Names). x ∷ way), length-ways p)

ways-at : (p : Names) (i : ℕ) (d : Names) → i < length p → get_or (ways p) i d ≡ take (suc i) p
ways-at [] i d h = absurd (omega arith)
ways-at (x ∷ p) zero d h = refl
ways-at (x ∷ p) (suc i) d h = get_or-map x (ways p) i d d (omega (arith, length-ways p)) ∙ ap (λ (q : Names). x ∷ q) (ways-at p i d (omega arith))

module _ (names : Names) (i : ℕ) (x : List ℕ) (is : x ≡ get_or names i x) (h : i < length names) where
  -- the next of the ways is the way so far with the next name
  way_is : (at : Names) → at ≡ take i names ++ x ∷ [] → at ≡ get_or (ways names) i at
  way_is at e = e ∙ sym (next_at names i x is h) ∙ ap (λ k. take k names) (add-one i) ∙ sym (ways-at names i at h)

  in_ways : i < length (ways names)
  in_ways = omega (arith, length-ways names, h)

  pub way_all : (at : Names) → at ≡ take i names ++ x ∷ [] → way_steps names ≡ map make_step (take i (ways names)) ++ make_step at ∷ map make_step (drop (i + 1) (ways names))
  way_all at e = each_all make_step (ways names) i at (way_is at e) in_ways

  pub way_next : (at : Names) → at ≡ take i names ++ x ∷ [] → map make_step (take (i + 1) (ways names)) ≡ map make_step (take i (ways names)) ++ make_step at ∷ []
  way_next at e = each_next make_step (ways names) i at (way_is at e) in_ways

  pub next_within : (at : Names) → at ≡ take i names → IsWithin names → IsWithin (at ++ x ∷ [])
  next_within at e w = subst (λ (p : Names). IsWithin (p ++ x ∷ [])) (sym e) (front_within (take i names ++ x ∷ []) (drop (i + 1) names)
      (subst IsWithin (split_at names i x is h ∙ sym (append_assoc (take i names) (x ∷ []) (drop (i + 1) names))) w))

pub way_count : (p : Names) → length (way_steps p) ≡ length p
way_count p = length-map (ways p) make_step ∙ length-ways p

pub above_within : (p : Names) → IsPath p → IsWithin (front_of p)
above_within p w = front_within (front_of p) (drop (length p - 1) p) (subst IsWithin (sym (take-append-drop (length p - 1) p)) (path_within p w))

-- ---- the base
pub base_stops : (b : Bool) (first : ℕ) (step : Step) (old new : Option Tree) (e : StepError) → b ≡ false → StopsIn first step old new e → StopsFrom first (cond b [] (step ∷ [])) old new e
base_stops true first step old new e h s = absurd (cc)
base_stops false first step old new e h s = stops_in first (step ∷ []) [] step [] old old new first e refl (none_done first old) s
