use Rattle.bit_slice.proofs.SinkLemmas.{through}
use Rattle.bit_slice.proofs.ZerosLemmas.{registered}
use Rattle.bit_slice.proofs.crc_sink.CrcSinkBitSink.put_slice.Goals as goal

pub invariant_of-self-2 : goal.invariant_of-self-2
invariant_of-self-2 g c = (
  through _ _ c.self.inside.stood.bits c.self.inside.put.bits c.args.bits c.and_slice-put.result.bits
      c.in_ok-put_slice.ensures.ok.written c.self.invariant.0 c.and_slice-put.ensures,
  registered 32 0x04C1_1DB7 0xFFFF_FFFF c.self.inside.register c.after_slice-register.result c.self.inside.put.bits
      c.args.bits
      c.and_slice-put.result.bits c.self.invariant.1 c.after_slice-register.ensures c.and_slice-put.ensures,
)
