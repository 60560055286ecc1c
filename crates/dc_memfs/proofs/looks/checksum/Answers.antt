use Rattle.std.proofs.Common.{sym, ◌∙◌, subst}
use Rattle.dc_tree.specs.Arena.{tree_of}
use Rattle.dc_attrs.specs.declared.shown.Seen.{Seen}
use Rattle.dc_fs.specs.Answers.{ReadAnswers, refused_read}
use Rattle.dc_memfs.proofs.LookLemmas.{file_bytes, seen_file}
use Rattle.dc_memfs.proofs.looks.checksum.Goals as goal

pub digest_file-requires : goal.digest_file-requires
digest_file-requires c = file_bytes (tree_of c.args.tree.now) c.args.path.now c.in-File.length (sym c.in-File.ensures.value)

pub returns-in-File-clause-answers : goal.returns-in-File-clause-answers
returns-in-File-clause-answers c =
    subst (λ (s : Seen). ReadAnswers (refused_read c.args.length s) c.digest_file.result)
    (seen_file (tree_of c.args.tree.now) c.args.path.now c.in-File.length (sym c.in-File.ensures.value) ∙ c.in-File.ensures.value)
    c.digest_file.ensures.answers
