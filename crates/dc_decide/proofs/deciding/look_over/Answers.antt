use Rattle.std.proofs.Common.{sym, ◌∙◌}
use Rattle.dc_decide.proofs.DecideLemmas.{kind_told, silent, kinds_apart}
use Rattle.dc_decide.proofs.deciding.look_over.Goals as goal

pub returns-else-status-is_dir-clause-changed : goal.returns-else-status-is_dir-clause-changed
returns-else-status-is_dir-clause-changed g c =
    let told = g.T.Store.tree c.args.target.now in
    let status = c.in-Ok.status in
    silent c.changed.result told (kind_told told c.args.place.now c.args.item.now.dir c.args.shown status c.requires.shown c.requires.over c.in-Ok.ensures.shows
    (λ same. kinds_apart _ _ c.if-status-is_dir.false (same ∙ sym c.is_dir.ensures)))
