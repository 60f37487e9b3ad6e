use Rattle.std.proofs.Common.{sym, ◌∙◌}
use Rattle.bit_slice.proofs.CrcLemmas.{crc32_of_is}
use Rattle.bit_slice.proofs.crc_32.crc32.Goals as goal

pub returns : goal.returns
returns c = c.after_slice.ensures ∙ sym (crc32_of_is c.args.bits)
