use Rattle.std.proofs.Common.{rules, arith, length}
use Rattle.dc_attempt.specs.Benches.{bench}
use Rattle.dc_fs.specs.declared.errors.ReadError.TheVariants as read_error
use Rattle.dc_attempt.proofs.FillLemmas.{none_added, append_failed, read_rose, desk_rose}
use Rattle.dc_attempt.proofs.ReadLemmas.{part_changed, part_read}
use Rattle.dc_attempt.proofs.copying.Copies.copy_part.Goals as goal

pub returns-in-Err-Fault-clause-stopped : goal.returns-in-Err-Fault-clause-stopped
returns-in-Err-Fault-clause-stopped g c = (
  read_rose _ _ _ _ (search rules),
  record {
    front = 0;
    within = omega arith;
    added = none_added (g.S.Store.tree c.args.reader.now) c.args.path.now c.args.at (bench g.Self.Desk c.args.self.now);
  },
)

pub returns-in-Err-Short-clause-stopped : goal.returns-in-Err-Short-clause-stopped
returns-in-Err-Short-clause-stopped g c = (
  part_changed (g.S.Store.tree c.args.reader.now) c.args.path.now c.args.at (length c.args.into.now) read_error.Short (rw c.in-Err-Short.field-0-is at c.in-Err-Short.ensures.answers),
  none_added (g.S.Store.tree c.args.reader.now) c.args.path.now c.args.at (bench g.Self.Desk c.args.self.now),
)

pub returns-in-Ok-append-clause-read : goal.returns-in-Ok-append-clause-read
returns-in-Ok-append-clause-read g c = record {
  added = record {
    bytes = c.read_at.new.into;
    counted = search rules;
    longer = search (rules, arith);
    appended = search rules;
    range = λ _. part_read (g.S.Store.tree c.args.reader.now) c.args.path.now c.args.at (length c.args.into.now) c.in-Ok.count c.read_at.new.into (search rules) (search (rules, arith)) c.in-Ok.ensures.within c.in-Ok.ensures.answers c.in-Ok.ensures.read;
  };
  hashed = c.update.ensures;
}

pub returns-in-Err-Fault-append-clause-stopped : goal.returns-in-Err-Fault-append-clause-stopped
returns-in-Err-Fault-append-clause-stopped g c = (
  desk_rose _ _ _ _ (search rules),
  append_failed (g.S.Store.tree c.args.reader.now) c.args.path.now c.args.at (length c.args.into.now) c.read_at.new.into (bench g.Self.Desk c.args.self.now) (bench g.Self.Desk c.append.new.self) c.in-Err-Fault-append.field-0 c.in-Err-Fault-append.field-0-is (search rules) c.in-Err-Fault-append.ensures.stopped
      (part_read (g.S.Store.tree c.args.reader.now) c.args.path.now c.args.at (length c.args.into.now) c.in-Ok.count c.read_at.new.into (search rules) (search (rules, arith)) c.in-Ok.ensures.within c.in-Ok.ensures.answers c.in-Ok.ensures.read),
)
