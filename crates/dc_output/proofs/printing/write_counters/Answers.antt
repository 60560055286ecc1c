use Rattle.std.proofs.Common.{◌≡◌, ◌++◌, ℕ, List, append_assoc, codes}
use Rattle.std.specs.Prelude.{decimal}
use Rattle.dc_engine.specs.declared.outcome.Counts.{Counts}
use Rattle.dc_output.specs.Output.{counter_lines}
use Rattle.dc_output.proofs.printing.write_counters.Goals as goal

-- six names and numbers, each with the end of its line, from the right
in_row : (a k b l c m d n e o f p end : List ℕ) →
    a ++ k ++ end ++ b ++ l ++ end ++ c ++ m ++ end ++ d ++ n ++ end ++ e ++ o ++ end ++ f ++ p ++ end
    ≡ a ++ (k ++ (end ++ (b ++ (l ++ (end ++ (c ++ (m ++ (end ++ (d ++ (n ++ (end ++ (e ++ (o ++ (end ++ (f ++ (p ++ end))))))))))))))))
in_row a k b l c m d n e o f p end = simp append_assoc

counters_in_row : (counts : Counts) → counter_lines counts ≡
    codes "COPY=" ++ (decimal counts.copied ++ (codes "\n"
    ++ (codes "DIR_COPY=" ++ (decimal counts.dirs ++ (codes "\n"
    ++ (codes "SKIP=" ++ (decimal counts.skipped ++ (codes "\n"
    ++ (codes "FAIL=" ++ (decimal counts.failed ++ (codes "\n"
    ++ (codes "BYTESCOPIED=" ++ (decimal counts.bytes_copied ++ (codes "\n"
    ++ (codes "BYTESSKIPPED=" ++ (decimal counts.bytes_skipped ++ codes "\n"))))))))))))))))
unfolding counter_lines
counters_in_row counts =
    in_row (codes "COPY=") (decimal counts.copied) (codes "DIR_COPY=") (decimal counts.dirs) (codes "SKIP=") (decimal counts.skipped)
    (codes "FAIL=") (decimal counts.failed) (codes "BYTESCOPIED=") (decimal counts.bytes_copied) (codes "BYTESSKIPPED=") (decimal counts.bytes_skipped) (codes "\n")

pub returns : goal.returns
returns g c = rw (counters_in_row c.args.counts.now, ← c.from.ensures, ← c.from-2.ensures, ← c.from-3.ensures, ← c.from-4.ensures) c.write_pieces.ensures
