-- A parent more.
use Rattle.std.proofs.Common.{◌∙◌, sym, ap, Some}
use Rattle.std.specs.BTreeSet.{contains}
use Rattle.dc_path.specs.Paths.{path_cmp}
use Rattle.dc_replay.specs.Replaying.{made_by}
use Rattle.dc_report.proofs.PlaceSets.{place_added}
use Rattle.dc_sync.proofs.checking.add_made.Goals as goal

pub returns-in_ok-insert : goal.returns-in_ok-insert
returns-in_ok-insert c = λ q.
    place_added (contains path_cmp c.args.made.now q) c.in_ok-path.path q (contains path_cmp c.insert.new.self q) (made_by c.args.one.now)
    (c.in_ok-insert.ensures.updates.0 q) (ap made_by c.in-Make.is ∙ ap Some (sym c.in_ok-path.ensures))
