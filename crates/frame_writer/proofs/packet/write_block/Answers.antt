use Rattle.std.proofs.Common.{◌≡◌, ◌*◌, ◌%◌, ◌∙◌, ℕ, ap, length, sym}
use Rattle.terms.specs.Bits.{bits_of}
use Rattle.terms.proofs.BitLemmas.{length-bits_of}
use Rattle.t2mi_packet.specs.T2miPacket.{with_crc, written_bits}
use Rattle.t2mi_packet.specs.declared.packet.Body.TheVariants.{Block}
use Rattle.frame_writer.specs.FramePackets.{packet_with}
use Rattle.frame_writer.proofs.BlockLemmas.{has_room, is_whole}
use Rattle.frame_writer.proofs.packet.write_block.Goals as goal

block_len : (c : goal.After-finish_packet) → length (bits_of c.args.block.now) ≡ 8 * c.len.result
block_len c = length-bits_of c.args.block.now ∙ ap (λ (n : ℕ). 8 * n) (sym c.len.ensures)

pub finish_packet-requires : goal.finish_packet-requires
finish_packet-requires c =
    has_room c.begin.new.out (bits_of c.args.block.now) c.put_pieces.new.out (length c.args.block.now)
    c.put_pieces.ensures
    c.begin.ensures.len (length-bits_of c.args.block.now) c.requires.short

pub returns-clause-bits : goal.returns-clause-bits
unfolding written_bits
returns-clause-bits c =
    let p = c.args.plan.now in
    c.finish_packet.ensures
    ∙ ap with_crc (c.put_pieces.ensures ∙ c.begin.ensures.covered (bits_of c.args.block.now) (block_len c))
    ∙ ap (λ (id : ℕ). written_bits (packet_with p c.args.packet_count c.args.frame
    (Block (c.args.frame % p.frames) id c.args.first (bits_of c.args.block.now)))) c.plp_id.ensures

pub returns-clause-whole : goal.returns-clause-whole
returns-clause-whole c =
    is_whole c.begin.new.out (bits_of c.args.block.now) c.put_pieces.new.out (length c.args.block.now)
    c.put_pieces.ensures
    c.begin.ensures.len (length-bits_of c.args.block.now) c.requires.short c.finish_packet.new.out
    c.finish_packet.ensures
