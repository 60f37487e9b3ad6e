use Rattle.std.proofs.Common.{[], ◌∷◌, subst}
use Rattle.plp_config.specs.declared.config.Config.{Config}
use Rattle.file_run.specs.Work.{Ends, Aloud}
use Rattle.file_run.proofs.WorkLemmas.{ends_so}
use Rattle.compare_run.specs.CompareRun.{compare_work}
use Rattle.compare_run.proofs.RunLemmas.{compare_does}
use Rattle.compare_run.proofs.running.run.Goals as goal

pub returns : goal.returns
returns g c = record {
  ends =
      subst (λ (k : Config). Ends (compare_work k) (g.D.Desk.state c.args.desk.now)
      (g.D.Desk.state c.run_over_two.new.desk) Aloud
      (c.args.a.now ∷ c.args.b.now ∷ []) c.run_over_two.result) c.in_ok-machine.ensures.plan
      (ends_so _ _ _ _ _ _ _ _ _ _ (compare_does c.due_records_law.ensures.front c.due_records_law.ensures.follow
      c.in_ok-machine.machine) c.run_over_two.result c.run_over_two.ensures);
}
