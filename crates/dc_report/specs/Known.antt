-- What is kept of the entries that were read: words for private functions.
use Rattle.std.specs.Prelude.{◌≡◌, List}
use Rattle.std.specs.List.{list_any}
use Rattle.std.specs.BTreeMap.{get}
use Rattle.std.specs.BTreeSet.{contains}
use Rattle.std.specs.Option.{is_some}
use Rattle.dc_path.specs.Paths.{Names, path_cmp}
use Rattle.dc_report.specs.declared.entries.Entry.{Entry}
use Rattle.dc_report.specs.declared.known.Known.{Known}
use Rattle.dc_report.specs.Carries.{carries_in}
use Rattle.dc_report.specs.Carrying.{carries_of}
use Rattle.dc_report.specs.Reports.{creates, modifies, takes, gives}

-- the sets and the map have the paths of these entries
pub record Knows (known : Known) (entries : List Entry) : Type 0 where
  pub created : (p : Names) → contains path_cmp known.created p ≡ list_any (creates p) entries
  pub modified : (p : Names) → contains path_cmp known.modified p ≡ list_any (modifies p) entries
  pub taken : (p : Names) → is_some (get path_cmp known.carries p) ≡ list_any (takes p) entries
  pub carries : carries_in known.carries.entries ≡ carries_of entries
  pub given : (p : Names) → contains path_cmp known.given p ≡ list_any (gives p) entries
