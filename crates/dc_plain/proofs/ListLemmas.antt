-- What a plain copy lists is what stands below its directory and is not hidden.
use Rattle.std.proofs.Common.{◌≡◌, ℕ, Bool, true, false, cond, not, ◌||◌, ◌&&◌, ◌⊎◌, inl, inr, List, [], ◌∷◌, ◌++◌, Option, Some, None, refl, sym, ap, ◌∙◌}
use Rattle.std.specs.Option.{is_some}
use Rattle.dc_path.specs.Names.{same_name}
use Rattle.dc_path.specs.Paths.{Names}
use Rattle.dc_attrs.specs.Trees.{Node, Tree, IsDirAt, snapshot, is_hidden, is_dir_node}
use Rattle.dc_listing.specs.Listed.{Rules, rules_of, is_left_out, is_missed, is_listed, is_met, origins_of, all_listed}
use Rattle.dc_listing.specs.declared.item.Root.{Root}
use Rattle.dc_result.proofs.KindLemmas.{stands_dir}
use Rattle.dc_plain.specs.Plain.{copied_from}

-- nothing is left out
abbrev pub no_rules : Rules
no_rules = rules_of [] []

-- the directory is itself put at the target path
abbrev pub root_of : Names → Root
root_of source = record { source = source; prefix = [] }

-- ---- without lines and paths, only what is hidden is left out
left_out_is : (from rel rest : Names) → is_left_out no_rules from rel rest ≡ is_hidden rest
left_out_is from rel [] = refl
left_out_is from rel (x ∷ rest) = ap (λ b. same_name snapshot x || b) (left_out_is (from ++ x ∷ []) (rel ++ x ∷ []) rest)

missed_is : (from rel rest : Names) → is_missed no_rules from rel rest ≡ is_hidden rest
missed_is from rel [] = refl
missed_is from rel (x ∷ []) = refl
missed_is from rel (x ∷ y ∷ rest) = ap (λ b. same_name snapshot x || b) (missed_is (from ++ x ∷ []) (rel ++ x ∷ []) (y ∷ rest))

-- ---- what is listed
-- nothing bars the directory, whether or not the filter is asked of it
root_open : (bare : Bool) → not (not bare && false) ≡ true
root_open true = refl
root_open false = refl

there_by : (o : Option Node) (hidden : Bool) → (is_some o && (true && not hidden)) ≡ is_some (cond hidden None o)
there_by None true = refl
there_by None false = refl
there_by (Some n) true = refl
there_by (Some n) false = refl

origins_by : (from : Names) (o : Option Node) (hidden : Bool) → origins_of from o (is_some o && (true && not hidden)) ++ [] ≡ origins_of from (cond hidden None o) true
origins_by from None true = refl
origins_by from None false = refl
origins_by from (Some n) true = refl
origins_by from (Some n) false = refl

none_here : (from : Names) (o : Option Node) → origins_of from o false ++ [] ≡ []
none_here from None = refl
none_here from (Some n) = refl

bare_off : (o : Option Node) (bare : Bool) → bare ≡ true → (is_some o && (not (not bare && false) && not bare)) ≡ false
bare_off None true e = refl
bare_off (Some n) true e = refl
bare_off o false e = absurd (cc)

module _ (s : Tree) (source : Names) (dir : IsDirAt s source) where
  -- a path below the directory is listed, or met, by whether anything stands there and is shown
  open_as : (x : List ℕ) (rest : Names) (hidden : Bool) → hidden ≡ is_hidden (x ∷ rest) →
      (is_some (s (source ++ x ∷ rest)) && (not (not (is_dir_node (s source)) && false) && not hidden)) ≡ (is_some (s (source ++ x ∷ rest)) && (true && not (is_hidden (x ∷ rest))))
  open_as x rest hidden e =
      ap (λ b. is_some (s (source ++ x ∷ rest)) && (b && not hidden)) (root_open (is_dir_node (s source)))
      ∙ ap (λ b. is_some (s (source ++ x ∷ rest)) && (true && not b)) e

  below_is : (x : List ℕ) (rest : Names) → is_listed no_rules s (root_of source) (x ∷ rest) ≡ (is_some (s (source ++ x ∷ rest)) && (true && not (is_hidden (x ∷ rest))))
  below_is x rest = open_as x rest (is_left_out no_rules source [] (x ∷ rest)) (left_out_is source [] (x ∷ rest))

  pub listed_is : (rel : Names) → is_listed no_rules s (root_of source) rel ≡ is_some (copied_from s source rel)
  listed_is [] = bare_off (s source) (is_dir_node (s source)) (stands_dir s source dir)
  listed_is (x ∷ rest) = below_is x rest ∙ there_by (s (source ++ x ∷ rest)) (is_hidden (x ∷ rest))

  pub met_is : (rel : Names) → is_met no_rules s (root_of source) rel ≡ true → (rel ≡ []) ⊎ (is_some (copied_from s source rel) ≡ true)
  met_is [] h = inl refl
  met_is (x ∷ rest) h = inr (sym (open_as x rest (is_missed no_rules source [] (x ∷ rest)) (missed_is source [] (x ∷ rest)) ∙ there_by (s (source ++ x ∷ rest)) (is_hidden (x ∷ rest))) ∙ h)

  pub all_listed_is : (rel : Names) → all_listed no_rules s (root_of source ∷ []) rel ≡ origins_of (source ++ rel) (copied_from s source rel) true
  all_listed_is [] =
      ap (λ b. origins_of (source ++ []) (s (source ++ [])) b ++ []) (listed_is [])
      ∙ none_here (source ++ []) (s (source ++ []))
  all_listed_is (x ∷ rest) =
      ap (λ b. origins_of (source ++ x ∷ rest) (s (source ++ x ∷ rest)) b ++ []) (below_is x rest)
      ∙ origins_by (source ++ x ∷ rest) (s (source ++ x ∷ rest)) (is_hidden (x ∷ rest))
