use Rattle.std.proofs.Common.{arith}
use Rattle.bit_slice.proofs.WindowLemmas.{put_again}
use Rattle.bit_slice.proofs.window.put_behind.Goals as goal

pub returns : goal.returns
returns c = put_again c.args.sums.now c.args.block.now c.sums_of-more.result c.copy_from_slice.new.self c.args.at
    (omega (arith, c.requires, c.told-sums)) c.told-block c.sums_of-more.ensures c.copy_from_slice.ensures.after
    c.fits-sums c.fits-block
