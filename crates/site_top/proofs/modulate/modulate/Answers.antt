use Rattle.std.proofs.Common.{inr, [], ◌∷◌}
use Rattle.modulate_run.specs.ModulateRun.{modulate_work}
use Rattle.site_top.specs.ModulateCommand.{Ends, StopsSo, modulate_line}
use Rattle.site_top.specs.Outcomes.{modulate_cause}
use Rattle.site_top.proofs.GatewayLemmas.{other_name}
use Rattle.site_top.proofs.PlanCommandLemmas.{run_told}
use Rattle.site_top.proofs.SurvivorLemmas.{holds_records, stops_with}
use Rattle.site_top.proofs.modulate.modulate.Goals as goal

pub run-end-requires : goal.run-end-requires
run-end-requires g c = record { apart = other_name c.args.input.now c.args.out.now c.requires }

pub returns : goal.returns
returns g c =
    let plan = c.in-Ok.plan in
    let file = c.args.input.now in
    let out = c.args.out.now in
    let law = c.plan_law.ensures in
    inr (
      _,
      _,
      c.in-Ok.ensures.ok.0,
      c.in-Ok.ensures.ok.1,
      run_told (modulate_work plan) out (file ∷ []) (Ends file out plan) (StopsSo file out plan) modulate_line
          modulate_cause _ _ _ _ _ (λ ran r. (r, holds_records plan _ _ file out ran law.honest law.undamaged r))
          (λ stop s. (s, stops_with plan _ _ file out stop law.honest law.undamaged s))
          c.run-end.ensures.ends c.tell_run.ensures.ok c.tell_run.ensures.err,
    )
