use Rattle.std.proofs.Common.{List, ◌++◌, subst, arith, refl}
use Rattle.plp_receiver.specs.Strings.{Item}
use Rattle.plp_receiver.specs.TakenBlocks.{Both, block_of}
use Rattle.plp_receiver.proofs.FieldLemmas.{front_taken}
use Rattle.plp_receiver.proofs.block.take_front.Goals as goal

pub returns-clause-both : goal.returns-clause-both
returns-clause-both c = λ r z h.
    subst (λ (y : List Item). Both r (z ++ y) c.take_piece.new.assembler c.take_piece.new.window)
    (front_taken r.up_len c.args.epoch (block_of c.args.block.now) c.args.block.now.first c.args.start
    refl c.requires.start
    (omega arith))
    (c.take_piece.ensures.both r z h)
