use Rattle.gateway_core.proofs.FedLemmas.{took, is_put, all_short}
use Rattle.gateway_core.proofs.input.offer_to.Goals as goal

pub returns-clause-takes : goal.returns-clause-takes
returns-clause-takes c = λ config plp events ready room.
    took c.offer.result c.offer.ensures.takes c.offer.ensures.lacks
    (λ _ lacks. (lacks config plp events ready.stands).never ready) config plp events ready.stands room

pub returns-clause-short : goal.returns-clause-short
returns-clause-short c = all_short c.args.pool.now c.offer.new.pool c.args.list c.offer.ensures.others
    c.offer.ensures.short

pub unwrap-requires : goal.unwrap-requires
unwrap-requires c = is_put c.offer.result c.args.chain.now c.args.pool.now c.args.list c.offer.ensures.lacks
    c.requires.ready
