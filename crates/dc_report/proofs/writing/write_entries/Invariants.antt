-- What is known of the loop over the entries.
use Rattle.std.proofs.Common.{string_bytes}
use Rattle.dc_report.proofs.WritingLemmas.{IsWriting}
use Rattle.dc_report.proofs.writing.write_entries.Given as goal

abbrev pub invariant-loop-entry : goal.invariant-loop-entry
invariant-loop-entry l = IsWriting l.heading l.entries l.entry-index (string_bytes l.text)
