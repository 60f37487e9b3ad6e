use Rattle.plp_receiver.proofs.LawLemmas.{joined_once, joined_front}
use Rattle.plp_receiver.proofs.joint_laws.joined_law.Goals as goal

pub returns-clause-once : goal.returns-clause-once
returns-clause-once c = joined_once c.readback_law.ensures.once

pub returns-clause-front : goal.returns-clause-front
returns-clause-front c = joined_front c.readback_law.ensures.front c.join_law.ensures.slots
