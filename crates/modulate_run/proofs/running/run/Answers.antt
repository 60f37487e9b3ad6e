use Rattle.std.proofs.Common.{[], ◌∷◌, subst}
use Rattle.plp_config.specs.declared.config.Config.{Config}
use Rattle.file_run.specs.Work.{Ends, Into}
use Rattle.modulate_run.specs.ModulateRun.{modulate_work}
use Rattle.modulate_run.proofs.running.run.Goals as goal

pub returns : goal.returns
returns g c =
    let old = g.D.Desk.state c.args.desk.now in
    let ran = c.run_work_over in
    record {
      ends = subst (λ (k : Config). Ends (modulate_work k) old (g.D.Desk.state ran.new.desk) (Into c.args.out.now)
          (c.args.input.now ∷ []) ran.result) c.in_ok-machine.ensures.config ran.ensures;
    }
