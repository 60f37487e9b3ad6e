use Rattle.std.proofs.Common.{subst}
use Rattle.plp_config.specs.declared.config.Config.{Config}
use Rattle.file_run.specs.Work.{Ends, Into}
use Rattle.file_run.proofs.WorkLemmas.{ends_so}
use Rattle.feed_merge.specs.Fed.{names_of}
use Rattle.merge_run.specs.MergeRun.{merge_work}
use Rattle.merge_run.proofs.WorkLemmas.{merge_does}
use Rattle.merge_run.proofs.running.run.Goals as goal

pub returns : goal.returns
returns g c =
    let ran = c.run_over_two in
    record {
      ends = subst (λ (k : Config). Ends (merge_work k) (g.D.Desk.state c.args.desk.now) (g.D.Desk.state ran.new.desk)
          (Into c.args.out.now) (names_of c.args.a.now c.args.b.now) ran.result) c.in_ok-machine.ensures.plan
          (ends_so _ _ _ _ _ _ _ _ _ _ (merge_does c.due_records_law.ensures.front c.due_records_law.ensures.follow
          c.complete_law.ensures.stays c.in_ok-machine.machine) ran.result ran.ensures);
    }
