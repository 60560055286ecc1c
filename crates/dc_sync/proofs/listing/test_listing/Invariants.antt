-- What is known of the loop over the entries.
use Rattle.std.proofs.Common.{◌≤◌, ◌+◌, drop, map}
use Rattle.dc_fs.specs.Views.{view}
use Rattle.dc_replay.specs.ListingTests.{listing_answer, listing_test}
use Rattle.dc_replay.specs.TestAnswers.{first_answer}
use Rattle.dc_sync.proofs.TestLoops.{Tested}
use Rattle.dc_sync.proofs.listing.test_listing.Given as goal

-- the tests that are left decide
abbrev pub invariant-loop-entry : goal.invariant-loop-entry
invariant-loop-entry g l = record {
  tested : Tested (view g.S.Store l.fn.store) (view g.S.Store l.store) l.fn.snapshot (listing_answer l.fn.snapshot l.fn.report)
      (λ N. first_answer (map (listing_test l.fn.snapshot l.fn.report N) (drop l.entry-index l.entry-items)));
  looks : g.S.Store.looks l.store ≤ g.S.Store.looks l.fn.store + l.entry-index;
}
