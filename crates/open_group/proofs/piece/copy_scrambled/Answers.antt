use Rattle.std.proofs.Common.{◌∙◌, ap, sym, arith}
use Rattle.terms.specs.Bits.{bits_of, bytes_of}
use Rattle.terms.proofs.BitLemmas.{bytes_of-bits_of}
use Rattle.bb_frame.specs.Scrambled.{scrambled}
use Rattle.open_group.proofs.piece.copy_scrambled.Goals as goal

pub returns-clause-bytes : goal.returns-clause-bytes
returns-clause-bytes c = sym (bytes_of-bits_of c.scramble.new.bytes (λ k. omega (arith, c.type_inv.out k)))
    ∙ ap bytes_of (c.scramble.ensures.bits ∙ ap (λ l. scrambled (bits_of l)) c.copy_to.ensures)
