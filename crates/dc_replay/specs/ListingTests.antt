-- The tests that come before the listing with a report (HDFS-7535).
-- R is the report, d the path of the later snapshot, N the tree at it.
use Rattle.std.specs.Prelude.{◌≡◌, List, [], ◌∷◌, true, Option, Some, None, is_some, map}
use Rattle.dc_attrs.specs.Trees.{Tree}
use Rattle.dc_path.specs.Paths.{Names}
use Rattle.dc_report.specs.Carrying.{carries_of, place}
use Rattle.dc_report.specs.declared.entries.Entry.{Entry}
use Rattle.dc_report.specs.declared.entries.Entry.TheVariants.{Created, Deleted, Modified, Renamed}
use Rattle.dc_replay.specs.Checking.{where_to}
use Rattle.dc_replay.specs.TestAnswers.{Answer, FalseAt, Holds, LongAt, Taken, first_answer, holds_if, is_long, within}
use Rattle.dc_replay.specs.Truth.{IsListable}

-- something stands at the path, where there is one to look for
abbrev pub listed_answer : Names → Tree → Option Names → Answer
listed_answer d N None = Holds
listed_answer d N (Some q) = within d q (holds_if (is_some (N q)) q)

abbrev pub listing_test : Names → List Entry → Tree → Entry → Answer
listing_test d R N (Deleted p) = Holds
listing_test d R N (Renamed a b) = Holds
listing_test d R N (Modified []) = Holds
listing_test d R N (Modified (x ∷ p)) = listed_answer d N (where_to R (x ∷ p))
listing_test d R N (Created c) = listed_answer d N (place (carries_of R) c)

-- the answer of these tests, over the entries in order
abbrev pub listing_answer : Names → List Entry → Tree → Answer
listing_answer d R N = first_answer (map (listing_test d R N) R)

-- what the answers of the listing mean
pub record ListingHolds (d : Names) (R : List Entry) (N : Tree) : Type 0 where
  -- where all holds, what the listing looks for stands
  pub holds : listing_answer d R N ≡ Holds → IsListable R N
  -- where it stands, no path is told as false
  pub listable : (p : Names) → IsListable R N → listing_answer d R N ≡ FalseAt p → ⊥
  -- a path that is told as false is not there, and one that is told as too long is too long
  pub false_at : (p : Names) → listing_answer d R N ≡ FalseAt p → N p ≡ None
  pub long_at : (p : Names) → listing_answer d R N ≡ LongAt p → is_long d p ≡ true
  -- and there is no other answer
  pub not_taken : listing_answer d R N ≡ Taken → ⊥

abbrev pub ListingIsTested : Type 0
ListingIsTested = (d : Names) (R : List Entry) (N : Tree) → ListingHolds d R N
