use Rattle.std.proofs.Common.{◌∙◌, ap, arith, length}
use Rattle.t2mi_packet.specs.T2miPacket.{packet_len}
use Rattle.frame_writer.proofs.packet.write_packet.Goals as goal

pub returns-clause-whole : goal.returns-clause-whole
returns-clause-whole c = record {
  bytes = packet_len c.args.packet.now;
  len = ap length c.put_packet.ensures ∙ c.written_law.ensures.len c.args.packet.now;
  room = omega (arith, c.requires.payload);
}
