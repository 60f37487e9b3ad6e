use Rattle.std.proofs.Common.{◌∙◌, ◌++◌, ◌-◌, List, replicate, ap, sym}
use Rattle.std.specs.Cmp.Lexicographic.{pointwise}
use Rattle.site_frame.specs.Record.{Block}
use Rattle.site_frame.specs.Reading.{block_of}
use Rattle.frame_groups.specs.Readable.{has_size}
use Rattle.plp_receiver.specs.Sizes.{size_of}
use Rattle.plp_receiver.proofs.SizeLemmas.{came, came_other}
use Rattle.plp_receiver.proofs.readable.come_next.Goals as goal

pub loop-preserved : goal.loop-preserved
loop-preserved c = λ more.
    c.loop.invariant more
    ∙ ap (λ (l : List Block). pointwise has_size l (replicate (c.args.count - c.loop.counter)
    (size_of c.args.id c.args.len)
    ++ more)) c.in-Some.ensures.steps
    ∙ came (block_of c.in-Some.plp_id c.in-Some.block.now) c.next.new.self
    (size_of c.args.id c.args.len) c.args.count c.loop.counter
    more c.loop-test.true (sym c.if-not-is_block.ensures)

pub returns-then-not-is_block : goal.returns-then-not-is_block
returns-then-not-is_block c = λ more.
    c.loop.invariant more
    ∙ ap (λ (l : List Block). pointwise has_size l (replicate (c.args.count - c.loop.counter)
    (size_of c.args.id c.args.len)
    ++ more)) c.in-Some.ensures.steps
    ∙ came_other (block_of c.in-Some.plp_id c.in-Some.block.now) c.next.new.self (size_of c.args.id c.args.len)
    c.args.count
    c.loop.counter more c.loop-test.true (sym c.if-not-is_block.ensures)
