-- Why a report is refused, by kinds.
use Rattle.std.specs.Prelude.{◌≡◌, Bool, true, false, Result, Ok, Err}
use Rattle.dc_sync.specs.declared.errors.SyncError.{SyncError}
use Rattle.dc_sync.specs.declared.errors.SyncError.TheVariants as sync_error

-- the store failed
abbrev pub is_fault : SyncError → Bool
is_fault (sync_error.NoReport path) = false
is_fault (sync_error.TooBig path) = false
is_fault (sync_error.BadReport line) = false
is_fault (sync_error.NotAtBegin path) = false
is_fault (sync_error.StageExists path) = false
is_fault (sync_error.ReportFalse path) = false
is_fault sync_error.TooMany = false
is_fault (sync_error.TooLong parent name) = false
is_fault (sync_error.Changed path) = false
is_fault sync_error.Fault = true
is_fault sync_error.Memory = false

-- the store denied what it showed
abbrev pub is_denied : SyncError → Bool
is_denied (sync_error.NoReport path) = false
is_denied (sync_error.TooBig path) = false
is_denied (sync_error.BadReport line) = false
is_denied (sync_error.NotAtBegin path) = false
is_denied (sync_error.StageExists path) = false
is_denied (sync_error.ReportFalse path) = false
is_denied sync_error.TooMany = false
is_denied (sync_error.TooLong parent name) = false
is_denied (sync_error.Changed path) = true
is_denied sync_error.Fault = false
is_denied sync_error.Memory = false

-- the trees and the arguments decide that there is such a refusal
abbrev pub is_decided : SyncError → Bool
is_decided (sync_error.NoReport path) = true
is_decided (sync_error.TooBig path) = true
is_decided (sync_error.BadReport line) = true
is_decided (sync_error.NotAtBegin path) = true
is_decided (sync_error.StageExists path) = true
is_decided (sync_error.ReportFalse path) = true
is_decided sync_error.TooMany = true
is_decided (sync_error.TooLong parent name) = true
is_decided (sync_error.Changed path) = false
is_decided sync_error.Fault = false
is_decided sync_error.Memory = false

-- what was answered is what was expected, but for faults, denials and want of memory
abbrev pub Gives : {X : Type 0} → Result X SyncError → Result X SyncError → Type 0
Gives (Ok x) expected = expected ≡ Ok x
Gives (Err e) expected = is_decided e ≡ true → expected ≡ Err e

-- a refusal for which no store is asked
pub record IsOfText (e : SyncError) : Type 0 where
  pub no_fault : is_fault e ≡ false
  pub no_denial : is_denied e ≡ false
