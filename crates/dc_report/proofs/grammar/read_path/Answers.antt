-- What is no path in this spelling is none.
use Rattle.std.proofs.Common.{◌≡◌, ◌∷◌, List, ℕ, true, false, codes, Some, sym, ap, ◌∙◌, arith}
use Rattle.dc_path.specs.Names.{same_name}
use Rattle.dc_report.proofs.PathTexts.{path_of_dot, path_without_dot, spelt, refused}
use Rattle.dc_report.proofs.grammar.read_path.Goals as goal

pub returns-then-eq : goal.returns-then-eq
returns-then-eq c =
    let dot : same_name c.args.text.now (codes ".") ≡ true = grind arith in
    ap Some c.root.ensures ∙ sym (path_of_dot c.args.text.now dot)

pub returns-in_default : goal.returns-in_default
returns-in_default c =
    let no : same_name c.args.text.now (codes ".") ≡ false = grind arith in
    sym (path_without_dot c.args.text.now no c.in_default.ensures.cases)

pub returns-in-Err : goal.returns-in-Err
returns-in-Err c =
    let h = c.in-Some.ensures.cases in
    let no : same_name c.args.text.now (codes ".") ≡ false = grind arith in
    let dot : c.args.text.now ≡ 46 ∷ c.in-Some.names.now = h.1.1 ∙ ap (λ (r : List ℕ). 46 ∷ r) (sym h.2) in
    refused c.args.text.now c.in-Some.names.now c.in-Err.error c.no_path.result no dot c.in-Err.ensures c.no_path.ensures

pub returns-in-Ok : goal.returns-in-Ok
returns-in-Ok c =
    let h = c.in-Some.ensures.cases in
    let no : same_name c.args.text.now (codes ".") ≡ false = grind arith in
    let dot : c.args.text.now ≡ 46 ∷ c.in-Some.names.now = h.1.1 ∙ ap (λ (r : List ℕ). 46 ∷ r) (sym h.2) in
    spelt c.args.text.now c.in-Some.names.now c.in-Ok.path c.if_spelt.result no dot c.in-Ok.ensures c.if_spelt.ensures
