use Rattle.std.proofs.Common.{ℕ, List, string_bytes}
use Rattle.std.specs.Fn.{FnOnceReturnsAt}
use Rattle.distcp.specs.Ends.{Copies, output}
use Rattle.distcp.proofs.Ends.{listed_words, of_words}
use Rattle.distcp.proofs.run_job.Goals as goal

pub returns-in-Folders-len2-up-clause-copied : goal.returns-in-Folders-len2-up-clause-copied
returns-in-Folders-len2-up-clause-copied g c from to asked job e =
    let words = listed_words string_bytes c.args.words.now c.source-item.result c.target-item.result c.as_str.result.now c.as_str-in-Folders-len2-up.result.now from to asked c.in-Folders-len2-up.len_at_least c.source-item.is c.target-item.is c.as_str.ensures.value c.as_str-in-Folders-len2-up.ensures.value e in
    of_words (λ (f u : List ℕ) (a : List (List ℕ)). Copies g.row.S.Denot g.row.T.Denot g.S.Store g.T.Store (FnOnceReturnsAt g.F.FnOnce c.args.open_source f) (FnOnceReturnsAt g.G.FnOnce c.args.open_target u) f u a c.run_folders.result (output g.O.Sink c.args.out.now) (output g.O.Sink c.run_folders.new.out)) _ _ from to _ asked words c.run_folders.ensures
