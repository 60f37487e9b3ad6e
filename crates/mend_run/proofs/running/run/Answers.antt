use Rattle.std.proofs.Common.{ℕ, length, subst}
use Rattle.plp_config.specs.declared.config.Config.{Config}
use Rattle.file_run.specs.Work.{DoesWork, Ends, Into}
use Rattle.file_run.proofs.WorkLemmas.{ends_so}
use Rattle.mend_run.specs.AsMachine.{Becomes, ending_of, reach_of, step_of}
use Rattle.mend_run.specs.MendRun.{mend_work}
use Rattle.mend_run.proofs.WorkLemmas.{mend_does}
use Rattle.mend_run.proofs.running.run.Goals as goal

pub returns : goal.returns
returns g c =
    let machine = c.in_ok-machine.machine in
    let old = g.D.Desk.state c.args.desk.now in
    let new = g.D.Desk.state c.run_one.new.desk in
    let k = length c.args.ins.now in
    let end = c.run_one.result in
    record {
      ends = subst (λ (x : Config). Ends (mend_work x k) old new (Into c.args.out.now) c.args.ins.now end)
          c.in_ok-machine.ensures.plan
          (ends_so _ _ _ _ _ _ _ _ _ _
          (subst (λ (n : ℕ). DoesWork (mend_work machine.plan.now n) n reach_of step_of (Becomes machine) ending_of)
          c.in_ok-machine.ensures.inputs (mend_does c.unit_reads_law.ensures machine)) end c.run_one.ensures);
    }
