use Rattle.plp_receiver.proofs.ReadbackLemmas.{readback_front}
use Rattle.plp_receiver.proofs.slot_laws.slots_readback_law.Goals as goal

pub returns : goal.returns
returns c = λ r first count later epochs more sound ended.
    let f = readback_front r sound c.release_law.ensures.first first count later epochs more ended in
    (f.others, f.front)
