-- A plan of what a survey lists is ready to be carried out.
use Rattle.std.proofs.Common.{◌≡◌, ◌⊎◌, inl, inr, [], Bool, false, true, cond, not, Option, Some, None, is_some, refl, sym, ◌∙◌, ap, subst}
use Rattle.std.specs.Option.{option_map_or}
use Rattle.dc_path.specs.Paths.{Names, is_under}
use Rattle.dc_attrs.specs.Trees.{is_dir}
use Rattle.dc_result.specs.Atomic.{HasWork, IsEmptyAt}
use Rattle.dc_result.specs.Begins.{HasRoom}
use Rattle.dc_result.proofs.ListedAbove.{listed_copies_begin}
use Rattle.dc_result.proofs.Planning.{listed_copies_are_jobs}
use Rattle.dc_listing.specs.Listed.{Origin, rules_of}
use Rattle.dc_result.specs.Jobs.{Job}
use Rattle.dc_engine.specs.Begun.{PlansAreReady, job_of}
use Rattle.dc_engine.proofs.MissingLemmas.{removals}
use Rattle.dc_engine.proofs.PlanLemmas.{asked, goes_on, listed_copy}
use Rattle.dc_engine.proofs.RoomLemmas.{base_above, base_apart, base_empty, base_target, target_empty, target_way}

pub plans_are_ready : PlansAreReady
plans_are_ready o s t entries plan paths source target survey p go =
    let job = job_of o s t survey.asked plan in
    let passes = (asked o s t entries plan source target survey p).target in
    let room : HasRoom job = record {
      way = target_way o t target passes;
      above = λ q x at. base_above o t target passes q x (sym p.base ∙ at);
    } in
    let copy = listed_copies_are_jobs (rules_of survey.asked.lines []) s survey.asked.roots job plan (listed_copy o s t entries plan source target survey p) in
    record {
      asked = survey.asked;
      allowed = survey.allowed;
      job_is = refl;
      copy = copy.0;
      planned = copy.1;
      begins = listed_copies_begin (rules_of survey.asked.lines []) s survey.asked.roots job refl copy.0 room (goes_on o s t entries plan source target survey p);
      removes = removals job plan paths copy.1 go;
      atomic = λ e. record {
        target_free = target_empty o t target passes e;
        work_free = subst (IsEmptyAt t) (sym p.base) (base_empty o t target passes e);
        apart = ap (λ (base : Names). is_under base o.target) p.base ∙ base_apart o t target passes e;
      };
      plain = λ e. p.base ∙ base_target o t target passes e;
    }

-- unless the copy goes on without what is listed at the root path, something is made at the base
pub has_work : (job : Job) → job.out [] ≡ false → HasWork job
has_work job h = by (job.out []) (job.listing []) h
  where
    by : (b : Bool) (o : Option Origin) → b ≡ false → (is_some (cond b None o) ≡ true) ⊎ (option_map_or (λ (z : Origin). not (is_dir z.node)) o false ≡ false)
    by true o e = absurd (cc)
    by false None e = inr refl
    by false (Some z) e = inl refl
