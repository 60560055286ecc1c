use Rattle.std.proofs.Common.{◌≡◌, subst, sym, rules, Bool, List}
use Rattle.std.proofs.lemmas.List.Sorted.{answers_always, ranks_by}
use Rattle.std.specs.List.{list_all}
use Rattle.std.specs.List.Sorted.{IsPermutation, IsSortedByKey, IsStableByKey}
use Rattle.std.specs.Ordering.{is_lt}
use Rattle.dc_path.specs.Paths.{Names, path_cmp}
use Rattle.dc_path.proofs.LawProofs.{paths_are_ordered}
use Rattle.dc_listing.specs.Entries.{Entry, rel_of}
use Rattle.dc_listing.specs.Listed.{entries_at}
use Rattle.dc_listing.proofs.OrderedEntries.{stable_at, tests_same}
use Rattle.dc_listing.proofs.listed.sorted.Goals as goal

pub returns-clause-sorted : goal.returns-clause-sorted
returns-clause-sorted c =
    subst (IsSortedByKey rel_of path_cmp) (sym c.of.ensures)
    (c.in_ok-sort_by.ensures.sorted (λ (x y : Entry). is_lt (path_cmp x.rel y.rel)) (ranks_by paths_are_ordered.0 rel_of) (answers_always _ _ _ (λ f a r g h. search rules)))

pub returns-clause-kept : goal.returns-clause-kept
returns-clause-kept c =
    let stable = c.sort_by.ensures.stable (λ (x y : Entry). is_lt (path_cmp x.rel y.rel)) (ranks_by paths_are_ordered.0 rel_of) (answers_always _ _ _ (λ f a r g h. search rules)) in
    subst (λ (es : List Entry). (q : Names) → entries_at es q ≡ entries_at c.args.items q) (sym c.of.ensures)
    (stable_at c.args.items c.sort_by.new.self.items (subst (λ (es : List Entry). IsStableByKey rel_of path_cmp es c.sort_by.new.self.items) c.into_vec-sorted.ensures stable))

pub returns-clause-tests : goal.returns-clause-tests
returns-clause-tests c =
    subst (λ (es : List Entry). (test : Entry → Bool) → list_all test es ≡ list_all test c.args.items) (sym c.of.ensures)
    (tests_same c.args.items c.sort_by.new.self.items (subst (λ (es : List Entry). IsPermutation es c.sort_by.new.self.items) c.into_vec-sorted.ensures c.sort_by.ensures.permutation))
