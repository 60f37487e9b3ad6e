use Rattle.gateway_core.proofs.FedLemmas.{is_put}
use Rattle.gateway_core.proofs.input.end_frame.Goals as goal

pub unwrap-requires : goal.unwrap-requires
unwrap-requires c = is_put c.cut.result c.args.chain.now c.args.pool.now c.args.list c.cut.ensures.lacks
    c.requires.ready
