use Rattle.plp_receiver.proofs.TakeLemmas.{epoch_taken}
use Rattle.plp_receiver.proofs.blocks.take_epoch.Goals as goal

pub returns-clause-takes : goal.returns-clause-takes
returns-clause-takes c =
    epoch_taken c.args.deletes c.args.held.now c.args.slots.now c.begin_frame.new.self c.give.new.slots
    c.end_frame.new.self
    c.begin_frame.ensures.stands c.give.ensures.takes c.end_frame.ensures.stands
