use Rattle.std.proofs.Common.{◌-◌, ◌≡◌, ◌+◌, ◌*◌, ◌<◌, ◌≤◌, length}
use Rattle.dc_fs.specs.Causes.{steady_at}
use Rattle.dc_attempt.specs.Benches.{bench}
use Rattle.dc_attempt.specs.Parts.{IsCopied}
use Rattle.dc_attempt.specs.Steps.{asked_for, filled_before, NoStopBefore}
use Rattle.dc_attempt.proofs.copying.Copies.copy_range.Given as goal

-- the reads before this step were done, and their bytes are in the temporary
abbrev pub invariant-reads : goal.invariant-reads
invariant-reads g l = record {
  begun : 1 ≤ l.step;
  done : l.done ≡ filled_before (asked_for (g.S.Store.tree l.fn.reader) l.path l.from l.count (length l.fn.buffer) l.stop) l.step;
  short : (l.step - 1) * length l.fn.buffer < l.count + length l.fn.buffer;
  few : l.step ≤ l.done + 1;
  room : length l.buffer ≡ length l.fn.buffer;
  tree : g.S.Store.tree l.reader ≡ g.S.Store.tree l.fn.reader;
  rest : g.S.Store.rest l.reader ≡ g.S.Store.rest l.fn.reader;
  looks : g.S.Store.looks l.reader + 1 ≤ g.S.Store.looks l.fn.reader + l.step;
  calm : steady_at (g.S.Store.steady l.reader) (g.S.Store.faults l.reader) ≡ steady_at (g.S.Store.steady l.fn.reader) (g.S.Store.faults l.fn.reader);
  tells : g.Self.Desk.tells l.self ≡ g.Self.Desk.tells l.fn.self;
  made : g.Self.Desk.made l.self ≡ g.Self.Desk.made l.fn.self;
  desk_calm : steady_at (g.Self.Desk.steady l.self) (g.Self.Desk.faults l.self) ≡ steady_at (g.Self.Desk.steady l.fn.self) (g.Self.Desk.faults l.fn.self);
  still : g.S.Store.faults l.reader ≡ g.S.Store.faults l.fn.reader;
  desk_still : g.Self.Desk.faults l.self ≡ g.Self.Desk.faults l.fn.self;
  copied : IsCopied (asked_for (g.S.Store.tree l.fn.reader) l.path l.from l.count (length l.fn.buffer) l.stop) l.done (g.Self.Desk.tells l.fn.self) (bench g.Self.Desk l.self) l.hasher;
  unstopped : NoStopBefore l.stop l.step;
}

abbrev pub decreases-reads : goal.decreases-reads
decreases-reads g l = l.count - l.done
