use Rattle.terms.specs.Bits.{field}
use Rattle.bit_slice.proofs.SinkLemmas.{through}
use Rattle.bit_slice.proofs.ZerosLemmas.{registered}
use Rattle.bit_slice.proofs.crc_sink.CrcSinkBitSink.put.Goals as goal

pub invariant_of-self-2 : goal.invariant_of-self-2
invariant_of-self-2 g c = (
  through _ _ c.self.inside.stood.bits c.self.inside.put.bits
      (field c.args.width c.args.value) c.and_field-self-inside.result.bits c.in_ok-put.ensures.ok.written
      c.self.invariant.0
      c.and_field-self-inside.ensures,
  registered 32 0x04C1_1DB7 0xFFFF_FFFF c.self.inside.register c.after_field-self-inside.result c.self.inside.put.bits
      (field c.args.width c.args.value) c.and_field-self-inside.result.bits c.self.invariant.1
      c.after_field-self-inside.ensures
      c.and_field-self-inside.ensures,
)
