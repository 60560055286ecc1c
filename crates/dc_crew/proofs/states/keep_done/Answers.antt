use Rattle.std.proofs.Common.{◌+◌, ◌<◌, ◌∙◌, ap, sym, subst, All, ℕ, Some, length}
use Rattle.std.proofs.lemmas.List.Elements.{All-pop, All-get_or}
use Rattle.dc_crew.specs.declared.crew.Task.{Task}
use Rattle.dc_crew.specs.Jobs.{no_task}
use Rattle.dc_crew.specs.States.{hits, tally, numbers_of, state_of}
use Rattle.dc_crew.proofs.StateLemmas.{numbers_popped, hits_popped, done_step, parts_step}
use Rattle.dc_crew.proofs.states.keep_done.Goals as goal

pub keep_one-requires : goal.keep_one-requires
keep_one-requires g c =
    let i = c.loop-receipt.invariant in
    let below = (All-pop (λ n. n < length c.args.tasks.now) (numbers_of c.loop-receipt.receipts.items) (numbers_of c.pop.new.self.items) (Some c.in-Some.receipt.number) (numbers_popped c.pop.new.self.items c.loop-receipt.receipts.items c.in-Some.receipt c.in-Some.ensures.items) i.known.0).1 in
    subst (λ (k : ℕ). k < length c.loop-receipt.states) (sym c.piece_of-piece.ensures) (All-get_or (λ (t : Task). t.piece < length c.loop-receipt.states) c.args.tasks.now c.in-Some.receipt.number no_task below i.known.1)

pub loop-receipt-preserved : goal.loop-receipt-preserved
loop-receipt-preserved g c =
    let e = c.in-Some.ensures.items in
    let i = c.loop-receipt.invariant in
    let kept = c.in_ok-keep_one.ensures in
    let rest = c.pop.new.self.items in
    let q = c.piece_of-piece.result in
    record {
      len = kept.len ∙ i.len;
      known = (
        (All-pop (λ n. n < length c.args.tasks.now) (numbers_of c.loop-receipt.receipts.items) (numbers_of rest) (Some c.in-Some.receipt.number) (numbers_popped rest c.loop-receipt.receipts.items c.in-Some.receipt e) i.known.0).0,
        subst (λ (k : ℕ). All (λ (t : Task). t.piece < k) c.args.tasks.now) (sym kept.len) i.known.1,
      );
      ended = λ p. kept.ended p ∙ i.ended p;
      failed = λ p. kept.failed p ∙ i.failed p;
      once = i.once;
      done = λ p. done_step p q 0 (hits c.args.tasks.now p (numbers_of c.loop-receipt.receipts.items)) (hits c.args.tasks.now p (numbers_of rest)) _ (state_of c.loop-receipt.states p).done (state_of c.keep_one.new.states p).done (kept.done p)
          (hits_popped c.args.tasks.now p rest c.loop-receipt.receipts.items c.in-Some.receipt e ∙ ap (λ (k : ℕ). hits c.args.tasks.now p (numbers_of rest) + tally (Rattle.std.specs.Prelude.◌==◌ k p)) (sym c.piece_of-piece.ensures))
          (i.done p) (i.once p);
      parts = parts_step c.args.tasks.now c.loop-receipt.parts.items c.keep_one.new.parts.items rest c.loop-receipt.receipts.items c.in-Some.receipt (record { piece = q; part = c.in-Some.receipt.value }) _ e kept.parts (ap (λ (k : ℕ). record { piece = k; part = c.in-Some.receipt.value }) c.piece_of-piece.ensures) i.parts;
    }
