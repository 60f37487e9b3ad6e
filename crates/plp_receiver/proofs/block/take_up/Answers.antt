use Rattle.std.proofs.Common.{ℕ, List, ◌+◌, ◌++◌, ◌∙◌, ap, length, min, subst, take, drop, ◌-◌, refl}
use Rattle.plp_receiver.specs.Sound.{IsSound}
use Rattle.plp_receiver.specs.Assembles.{AssemblerStandsFor}
use Rattle.plp_receiver.specs.Strings.{Item}
use Rattle.plp_receiver.specs.TakenBlocks.{Both, block_of, front_of}
use Rattle.plp_receiver.proofs.FieldLemmas.{up_joined}
use Rattle.plp_receiver.proofs.block.take_up.Goals as goal

pub returns-clause-both : goal.returns-clause-both
unfolding AssemblerStandsFor
returns-clause-both c = λ r z h.
    subst (λ (y : List Item). Both r y c.take_piece.new.assembler c.take_piece.new.window)
    (up_joined c.args.epoch (block_of c.args.block.now) r c.args.assembler.now.rule
    (subst IsSound h.assembles.0 c.args.assembler.now.sound) h.assembles.0 z c.args.start c.args.at c.min-end.result
    (take (c.min-end.result - c.args.at) (drop c.args.at c.args.block.now.field.now)) c.mark_of.result c.requires.first
    c.requires.inside c.requires.begins
    (c.min-end.ensures ∙ ap (λ (n : ℕ). min (c.args.at + n) (length c.args.block.now.field.now)) c.up_len.ensures) refl
    c.mark_of.ensures.value)
    (c.take_piece.ensures.both r (z ++ front_of r.up_len c.args.epoch (block_of c.args.block.now) c.args.at) h)
