use Rattle.gateway_core.proofs.AheadLemmas.{waits_three}
use Rattle.gateway_core.proofs.laws.ahead_law.Goals as goal

pub returns : goal.returns
returns c =
    waits_three c.complete_law.ensures.stays c.complete_law.ensures.count c.complete_law.ensures.rises
    c.complete_law.ensures.joined c.written_law.ensures.len c.pre_law.ensures.bits c.post_law.ensures.conf
