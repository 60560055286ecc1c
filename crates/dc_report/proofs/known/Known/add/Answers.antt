-- An entry's paths are added, and a path that is there stood in an earlier entry.
use Rattle.std.proofs.Common.{◌≡◌, true, false, ap, ◌∙◌, arith}
use Rattle.std.specs.BTreeSet.{contains}
use Rattle.dc_path.specs.Paths.{path_cmp}
use Rattle.dc_report.specs.Reports.{double_of}
use Rattle.dc_report.proofs.KnownLemmas.{has_old, adds_created, adds_modified, adds_deleted, adds_renamed, double_created, double_modified, double_deleted, double_source, double_target}
use Rattle.dc_report.proofs.known.Known.add.Goals as goal

pub returns-then-not-branch-clause-err : goal.returns-then-not-branch-clause-err
returns-then-not-branch-clause-err c = λ _ before k.
    let there : contains path_cmp c.args.self.now.created c.in-Created.path ≡ true = grind arith in
    ap (double_of c.args.line before) c.in-Created.is ∙ double_created c.args.self.now before k c.args.line c.in-Created.path true there

pub returns-then-not-branch-2-clause-err : goal.returns-then-not-branch-2-clause-err
returns-then-not-branch-2-clause-err c = λ _ before k.
    let there : contains path_cmp c.args.self.now.modified c.in-Modified.path ≡ true = grind arith in
    ap (double_of c.args.line before) c.in-Modified.is ∙ double_modified c.args.self.now before k c.args.line c.in-Modified.path true there

pub returns-then-not-branch-3-clause-err : goal.returns-then-not-branch-3-clause-err
returns-then-not-branch-3-clause-err c = λ _ before k.
    let there : has_old c.args.self.now.carries c.in-Deleted.path ≡ true = grind arith in
    ap (double_of c.args.line before) c.in-Deleted.is ∙ double_deleted c.args.self.now before k c.args.line c.in-Deleted.path true there

pub returns-then-not-branch-4-clause-err : goal.returns-then-not-branch-4-clause-err
returns-then-not-branch-4-clause-err c = λ _ before k.
    let there : has_old c.args.self.now.carries c.in-Renamed.from ≡ true = grind arith in
    ap (double_of c.args.line before) c.in-Renamed.is ∙ double_source c.args.self.now before k c.args.line c.in-Renamed.from c.in-Renamed.to there

pub returns-then-not-branch-5-clause-err : goal.returns-then-not-branch-5-clause-err
returns-then-not-branch-5-clause-err c = λ _ before k.
    let fresh : has_old c.args.self.now.carries c.in-Renamed.from ≡ false = grind arith in
    let there : contains path_cmp c.args.self.now.given c.in-Renamed.to ≡ true = grind arith in
    ap (double_of c.args.line before) c.in-Renamed.is ∙ double_target c.args.self.now before k c.args.line c.in-Renamed.from c.in-Renamed.to true fresh there

pub returns-else-not-branch-clause-ok : goal.returns-else-not-branch-clause-ok
returns-else-not-branch-clause-ok c = λ before k.
    let fresh : contains path_cmp c.args.self.now.created c.in-Created.path ≡ false = grind arith in (
      ap (double_of c.args.line before) c.in-Created.is ∙ double_created c.args.self.now before k c.args.line c.in-Created.path false fresh,
      rw c.in-Created.is (adds_created c.args.self.now before k c.enter.new.paths c.in-Created.path c.in_ok-enter-in-Created.ensures.enters),
    )

pub returns-else-not-branch-2-clause-ok : goal.returns-else-not-branch-2-clause-ok
returns-else-not-branch-2-clause-ok c = λ before k.
    let fresh : contains path_cmp c.args.self.now.modified c.in-Modified.path ≡ false = grind arith in (
      ap (double_of c.args.line before) c.in-Modified.is ∙ double_modified c.args.self.now before k c.args.line c.in-Modified.path false fresh,
      rw c.in-Modified.is (adds_modified c.args.self.now before k c.enter-in-Modified.new.paths c.in-Modified.path c.in_ok-enter-in-Modified.ensures.enters),
    )

pub returns-else-not-branch-3-clause-ok : goal.returns-else-not-branch-3-clause-ok
returns-else-not-branch-3-clause-ok c = λ before k.
    let fresh : has_old c.args.self.now.carries c.in-Deleted.path ≡ false = grind arith in (
      ap (double_of c.args.line before) c.in-Deleted.is ∙ double_deleted c.args.self.now before k c.args.line c.in-Deleted.path false fresh,
      rw c.in-Deleted.is (adds_deleted c.args.self.now before k c.carry.new.carries c.in-Deleted.path fresh c.in_ok-carry-in-Deleted.ensures.enters (c.in_ok-carry-in-Deleted.ensures.carries (grind arith))),
    )

pub returns-else-not-branch-5-clause-ok : goal.returns-else-not-branch-5-clause-ok
returns-else-not-branch-5-clause-ok c = λ before k.
    let one : has_old c.args.self.now.carries c.in-Renamed.from ≡ false = grind arith in
    let two : contains path_cmp c.args.self.now.given c.in-Renamed.to ≡ false = grind arith in (
      ap (double_of c.args.line before) c.in-Renamed.is ∙ double_target c.args.self.now before k c.args.line c.in-Renamed.from c.in-Renamed.to false one two,
      rw c.in-Renamed.is
          (adds_renamed c.args.self.now before k c.carry-in-Renamed.new.carries c.enter-in-Renamed.new.paths c.in-Renamed.from c.in-Renamed.to one c.in_ok-carry-in-Renamed.ensures.enters (c.in_ok-carry-in-Renamed.ensures.carries (grind arith)) c.in_ok-enter-in-Renamed.ensures.enters),
    )
