use Rattle.std.proofs.Common.{◌≡◌, ◌∙◌, sym, ap, subst, ℕ, map, List, [], ◌∷◌, ◌++◌}
use Rattle.dc_tree.specs.declared.slots.Slot.{Slot}
use Rattle.dc_attrs.specs.Attributes.{Attributes, default_dir}
use Rattle.dc_tree.specs.Arena.{Cell, cell_of, DirCell, link, tree_of, IsArena}
use Rattle.dc_tree.proofs.Steps.{root_arena, root_tree, root_leads_nowhere}
use Rattle.dc_tree.proofs.FittingLemmas.{default_dir_fits}
use Rattle.dc_tree.specs.declared.slots.Slot.TheVariants as slot
use Rattle.dc_tree.proofs.Valid.{whole}
use Rattle.dc_tree.proofs.arena.Arena.new.Goals as goal

pub invariant_of-result : goal.invariant_of-result
invariant_of-result c =
    let is : map cell_of c.push.new.self.items ≡ DirCell default_dir [] ∷ [] = (ap (map cell_of) (c.in_ok-push.ensures.items ∙ ap (λ (xs : List Slot). xs ++ slot.Dir c.default_dir.result c.new.result ∷ []) c.new-slots.ensures.items) ∙ ap (λ (links : List (List ℕ × ℕ)). DirCell c.default_dir.result links ∷ []) c.new.ensures.empty ∙ ap (λ (a : Attributes). DirCell a [] ∷ []) c.default_dir.ensures.value) in (
      subst IsArena (sym is) (root_arena default_dir default_dir_fits),
      λ k x d e. root_leads_nowhere default_dir k x d (sym (ap (λ (cells : List Cell). link cells k x) is) ∙ e),
    )

pub returns-clause-tree : goal.returns-clause-tree
returns-clause-tree c =
    let is : map cell_of c.push.new.self.items ≡ DirCell default_dir [] ∷ [] = (ap (map cell_of) (c.in_ok-push.ensures.items ∙ ap (λ (xs : List Slot). xs ++ slot.Dir c.default_dir.result c.new.result ∷ []) c.new-slots.ensures.items) ∙ ap (λ (links : List (List ℕ × ℕ)). DirCell c.default_dir.result links ∷ []) c.new.ensures.empty ∙ ap (λ (a : Attributes). DirCell a [] ∷ []) c.default_dir.ensures.value) in
    ap tree_of is ∙ root_tree default_dir

pub returns-clause-whole : goal.returns-clause-whole
returns-clause-whole c =
    let is : map cell_of c.push.new.self.items ≡ DirCell default_dir [] ∷ [] = (ap (map cell_of) (c.in_ok-push.ensures.items ∙ ap (λ (xs : List Slot). xs ++ slot.Dir c.default_dir.result c.new.result ∷ []) c.new-slots.ensures.items) ∙ ap (λ (links : List (List ℕ × ℕ)). DirCell c.default_dir.result links ∷ []) c.new.ensures.empty ∙ ap (λ (a : Attributes). DirCell a [] ∷ []) c.default_dir.ensures.value) in
    whole _ (subst IsArena (sym is) (root_arena default_dir default_dir_fits))
