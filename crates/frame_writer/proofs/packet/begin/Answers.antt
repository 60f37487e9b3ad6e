use Rattle.std.proofs.Common.{rules, ◌≡◌, ◌%◌, ◌∙◌, refl, ap}
use Rattle.t2mi_packet.specs.Layout.{rows_bits}
use Rattle.t2mi_packet.specs.T2miPacket.{covered_rows, packet_of}
use Rattle.t2mi_packet.specs.declared.packet.Body.TheVariants.{Block}
use Rattle.t2mi_packet.specs.declared.packet.Packet.{Packet}
use Rattle.frame_writer.specs.FramePackets.{packet_with}
use Rattle.frame_writer.proofs.packet.begin.Goals as goal

pub returns-clause-covered : goal.returns-clause-covered
returns-clause-covered c = λ block len.
    let p = c.args.plan.now in
    let count : c.args.packet_count ≡ c.args.packet_count % 256 = search rules in
    let same : packet_of (record {
      packet_count = c.args.packet_count;
      superframe = c.superframe_idx.result;
      stream = 0;
      frame_idx = c.frame_idx.result;
      plp_id = c.args.plp_id;
      first = c.args.first;
    }) block ≡ packet_with p c.args.packet_count c.args.frame
    (Block (c.args.frame % p.frames) c.args.plp_id c.args.first block) =
    rw (← count, c.superframe_idx.ensures.value, c.frame_idx.ensures) refl in
    c.begin_block.ensures.covered block len ∙ ap (λ (packet : Packet). rows_bits (covered_rows packet)) same
