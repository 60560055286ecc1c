use Rattle.std.proofs.Common.{◌≡◌, sym, subst, rules}
use Rattle.std.specs.List.{filter}
use Rattle.std.specs.List.Sorted.{IsStrictlySortedBy}
use Rattle.std.specs.Cmp.Lexicographic.{slice_cmp}
use Rattle.std.specs.Ordering.{nat_cmp}
use Rattle.std.proofs.lemmas.Fn.{filter_same}
use Rattle.std.proofs.lemmas.List.Kept.{IsStrictlySortedBy-filter}
use Rattle.dc_path.specs.Paths.{Names}
use Rattle.dc_tree.specs.Arena.{tree_of}
use Rattle.dc_fs.specs.Looks.{is_shown, AreNames}
use Rattle.dc_memfs.proofs.LookLemmas.{all_shown, shown_names}
use Rattle.dc_memfs.proofs.looks.shown_names.Goals as goal

kept : (c : goal.After-of) → filter is_shown c.in-Ok.children ≡ c.of.result
kept c = rw (c.of.ensures, ← c.into_vec-names.ensures) (sym (filter_same _ is_shown _ (λ x r f' k. search rules) _ _ c.retain.ensures.filtered))

pub returns-in-Ok-clause-ascending : goal.returns-in-Ok-clause-ascending
returns-in-Ok-clause-ascending c =
    subst (IsStrictlySortedBy (slice_cmp nat_cmp)) (kept c) (IsStrictlySortedBy-filter (slice_cmp nat_cmp) is_shown c.in-Ok.children c.in-Ok.ensures.ok.ascending)

pub returns-in-Ok-clause-shown : goal.returns-in-Ok-clause-shown
returns-in-Ok-clause-shown c = rw (← kept c) (all_shown c.in-Ok.children)

pub returns-in-Ok-clause-names : goal.returns-in-Ok-clause-names
returns-in-Ok-clause-names c =
    subst (λ (names : Names). AreNames (tree_of c.args.tree.now) c.args.path.now names) (kept c) (shown_names (tree_of c.args.tree.now) c.args.path.now c.in-Ok.children c.in-Ok.ensures.ok)
