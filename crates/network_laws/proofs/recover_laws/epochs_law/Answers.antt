use Rattle.network_laws.proofs.SentLemmas.{Sending}
use Rattle.network_laws.proofs.KeptLemmas.{kept_follow}
use Rattle.network_laws.proofs.RecoverLemmas.{Times, PlanLaws, slot_recovers}
use Rattle.network_laws.proofs.LostLemmas.{lost_ended, readback_recovers}
use Rattle.network_laws.proofs.recover_laws.epochs_law.Goals as goal

sending_at : goal.After-block_law → Sending
sending_at c = record {
  iscr = c.iscr_law.ensures.found;
  outlasts = c.delay_law.ensures;
  within = c.sent_within_law.ensures;
  begins = c.begin_law.ensures;
  ends = c.end_law.ensures;
  first = c.first_law.ensures;
}

times_at : goal.After-block_law → Times
times_at c = record {
  old = c.release_law.ensures.old;
  partition = c.range_law.ensures.partition;
  rises = c.slot_time_law.ensures.count_rises;
}

plans_at : goal.After-block_law → PlanLaws
plans_at c = record {
  epochs = c.plan_epochs_law.ensures;
  times = c.length_law.ensures.times;
  frame = c.length_law.ensures.frame;
  spread = c.spread_law.ensures.frames;
  up = c.block_law.ensures.user_packet;
  field = c.block_law.ensures.field;
}

pub returns-clause-slot : goal.returns-clause-slot
returns-clause-slot c =
    slot_recovers (sending_at c) (times_at c) (kept_follow c.next_kept_law.ensures c.without_deletion_law.ensures)
    (plans_at c)

pub returns-clause-lost : goal.returns-clause-lost
returns-clause-lost c = lost_ended (sending_at c) (times_at c) (plans_at c)

pub returns-clause-readback : goal.returns-clause-readback
returns-clause-readback c =
    readback_recovers (sending_at c) (times_at c) (kept_follow c.next_kept_law.ensures c.without_deletion_law.ensures)
    (plans_at c)
