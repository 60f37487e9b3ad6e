use Rattle.std.proofs.Common.{ap, sym, ◌∙◌}
use Rattle.bit_slice.specs.Crc.{crc32_of}
use Rattle.bit_slice.specs.Sink.{State}
use Rattle.bit_slice.proofs.CrcLemmas.{crc32_of_is}
use Rattle.bit_slice.proofs.crc_sink.CrcSink.crc.Goals as goal

pub returns : goal.returns
returns g c = c.self.invariant.1 ∙ sym (crc32_of_is c.self.inside.put.bits)
    ∙ ap (λ (s : State). crc32_of s.written) c.self.view_is
