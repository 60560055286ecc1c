use Rattle.std.proofs.Common.{◌≡◌, true, rules, Option, IfSome, IsTrue, subst, sym}
use Rattle.dc_attrs.specs.Fitting.{fits_at}
use Rattle.dc_attrs.specs.Trees.{Tree}
use Rattle.dc_commit.specs.Settings.{is_kind}
use Rattle.dc_commit.proofs.SettingLemmas.{seen_fits, set_stops}
use Rattle.dc_commit.proofs.setting.set_at.Goals as goal

pub set_attrs-requires : goal.set_attrs-requires
set_attrs-requires g c =
    let k : is_kind c.args.dir c.in-Ok.seen ≡ true = search rules in
    record {
      fits = subst (λ (o : Option Tree). IfSome o (λ t. IsTrue (fits_at (t c.args.place.now) c.args.attrs.now))) (sym c.kind.ensures.tree)
          (seen_fits c.args.dir (g.T.Store.tree c.args.target.now) c.args.place.now c.in-Ok.seen c.args.attrs.now c.in-Ok.ensures.seen k c.requires.fits);
    }

pub returns-in-Err-set_attrs-clause-step : goal.returns-in-Err-set_attrs-clause-step
returns-in-Err-set_attrs-clause-step g c =
    set_stops c.args.done c.args.dir c.args.place.now c.args.attrs.now (g.T.Store.tree c.args.target.now) (g.T.Store.tree c.kind.new.self) (g.T.Store.tree c.set_attrs.new.self) c.in-Err-set_attrs.error
    c.stopped-in-Err-set_attrs.result c.kind.ensures.tree c.stopped-in-Err-set_attrs.ensures c.in-Err-set_attrs.ensures.tree c.in-Err-set_attrs.ensures.answers
