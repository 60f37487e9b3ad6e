use Rattle.site_frame.specs.Reading.{block_of}
use Rattle.plp_receiver.proofs.ListLemmas.{gone_past}
use Rattle.plp_receiver.proofs.parts.skip_blocks.Goals as goal

pub loop-preserved : goal.loop-preserved
loop-preserved c = gone_past (λ x. block_of x.0 x.1.now) c.args.rest.now c.loop.rest c.next.new.self
    c.loop.counter c.next.result
    c.loop.invariant c.next.ensures.steps
