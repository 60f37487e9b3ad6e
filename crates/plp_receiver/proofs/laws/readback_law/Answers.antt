use Rattle.plp_receiver.proofs.UniqueLemmas.{readback_once, readback_front}
use Rattle.plp_receiver.proofs.laws.readback_law.Goals as goal

pub returns-clause-once : goal.returns-clause-once
returns-clause-once c = readback_once c.bit_counts_law.ensures

pub returns-clause-front : goal.returns-clause-front
returns-clause-front c =
    readback_front c.bit_counts_law.ensures c.length_law.ensures.times c.block_law.ensures.user_packet
    c.slots_readback_law.ensures c.spread_law.ensures.frames c.length_law.ensures.frame
