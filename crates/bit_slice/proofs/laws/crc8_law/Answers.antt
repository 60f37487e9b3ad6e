use Rattle.bit_slice.proofs.CrcLemmas.{crc8_is_remainder}
use Rattle.bit_slice.proofs.laws.crc8_law.Goals as goal

pub returns : goal.returns
returns c = crc8_is_remainder
