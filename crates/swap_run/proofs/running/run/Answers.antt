use Rattle.std.proofs.Common.{sym}
use Rattle.file_run.proofs.WorkLemmas.{ends_so}
use Rattle.swap_run.proofs.FileLemmas.{Laws}
use Rattle.swap_run.proofs.WorkLemmas.{swap_does}
use Rattle.swap_run.proofs.running.run.Goals as goal

pub returns : goal.returns
returns g c =
    let law : Laws = record {
      front = c.due_records_law.ensures.front;
      follow = c.due_records_law.ensures.follow;
      complete = c.complete_law.ensures.stays;
      rises = c.slot_time_law.ensures.count_rises;
      none = c.slot_time_law.ensures.none_at_zero;
      slot = c.length_law.ensures.slot;
    } in
    let machine = c.in_ok-machine.machine in
    record {
      ends = rw (sym c.in_ok-machine.ensures.place, sym c.in_ok-machine.ensures.plan)
          (ends_so _ _ _ _ _ _ _ _ _ _ (swap_does law machine) c.run_over_two.result c.run_over_two.ensures);
    }
