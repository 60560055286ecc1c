-- Whether a target stands where a report begins (Hadoop DistCp, `DistCpSync.checkNoChange`).
use Rattle.std.specs.Prelude.{ℕ, List, [], ◌∷◌, None, Result, Ok, Err}
use Rattle.dc_path.specs.Paths.{Names}
use Rattle.dc_attrs.specs.Trees.{Tree}
use Rattle.dc_listing.specs.Roots.{and_then}
use Rattle.dc_report.specs.declared.entries.Entry.{Entry}
use Rattle.dc_report.specs.declared.entries.Entry.TheVariants.{Created, Deleted, Modified, Renamed}
use Rattle.dc_sync.specs.Reading.{report_at}
use Rattle.dc_sync.specs.declared.errors.SyncError.{SyncError}
use Rattle.dc_sync.specs.declared.errors.SyncError.TheVariants as sync_error

-- the first path of an entry
abbrev pub first_path : Entry → Names
first_path (Deleted p) = p
first_path (Renamed a b) = a
first_path (Created p) = p
first_path (Modified p) = p

-- nothing has changed, or the first change
abbrev pub unchanged : List Entry → Result (Unit {0}) SyncError
unchanged [] = Ok tt
unchanged (entry ∷ entries) = Err (sync_error.NotAtBegin (first_path entry))

-- nothing has changed below the directory since the snapshot, by its report from then to now
abbrev pub begins_at : Tree → Names → List ℕ → Result (Unit {0}) SyncError
begins_at t base from = and_then (report_at t base from None) unchanged
