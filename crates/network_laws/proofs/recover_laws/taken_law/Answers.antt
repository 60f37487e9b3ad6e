use Rattle.network_laws.proofs.SentLemmas.{sending_by}
use Rattle.network_laws.proofs.RecoverLemmas.{plans_by, gateway_is}
use Rattle.network_laws.proofs.TakenLemmas.{blocks_taken}
use Rattle.network_laws.proofs.recover_laws.taken_law.Goals as goal

pub returns : goal.returns
returns c g plp at m plan inside id packets =
    blocks_taken g plp at m
    (sending_by c.iscr_law.ensures.found c.delay_law.ensures c.sent_within_law.ensures c.begin_law.ensures
    c.end_law.ensures c.first_law.ensures) c.dnp_fits_law.ensures
    (gateway_is
    (plans_by c.plan_epochs_law.ensures c.length_law.ensures.times c.length_law.ensures.frame
    c.spread_law.ensures.frames
    c.block_law.ensures.user_packet c.block_law.ensures.field) g plp at plan inside packets) id
    c.written_is_spelled_law.ensures
