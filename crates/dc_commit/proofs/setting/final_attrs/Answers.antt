use Rattle.std.proofs.Common.{rules}
use Rattle.dc_commit.proofs.SettingLemmas.{final_if}
use Rattle.dc_commit.proofs.setting.final_attrs.Goals as goal

pub returns-clause-fits : goal.returns-clause-fits
returns-clause-fits c = final_if c.args.keep.now c.args.planned.now c.overlay.result (search rules) c.action.ensures.fits (search rules)
