use Rattle.file_run.proofs.WorkLemmas.{ends_so}
use Rattle.receive_run.proofs.WorkLemmas.{receive_does}
use Rattle.receive_run.proofs.running.run_with.Goals as goal

pub returns : goal.returns
returns g c = record {
  ends =
      let m = c.in_ok-machine in
      let laws = c.stands_law.ensures in
      ends_so _ _ _ _ _ _ _ _ _ _ (receive_does c.reading_law.ensures.one c.refusal_law.ensures.never
      c.place_law.ensures laws.takes
      laws.within laws.none m.machine _ _ _ m.ensures.network m.ensures.plp m.ensures.joins
      c.rules_law.ensures.plan.rules)
      c.run_over.result c.run_over.ensures;
}
