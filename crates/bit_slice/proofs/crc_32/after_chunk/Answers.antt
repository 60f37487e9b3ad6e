use Rattle.std.proofs.Common.{arith}
use Rattle.bit_slice.proofs.ByteLemmas.{register-sixteen}
use Rattle.bit_slice.proofs.crc_32.after_chunk.Goals as goal

pub returns : goal.returns
returns c =
    rw (
      c.after_zeros.ensures,
      c.after_zeros-2.ensures,
      c.after_zeros-3.ensures,
      c.after_zeros-4.ensures,
      c.from_be_bytes.ensures,
      c.from_be_bytes-second.ensures,
      c.from_be_bytes-third.ensures,
      c.from_be_bytes-fourth.ensures,
    )
    (register-sixteen 0x04C1_1DB7 c.args.register c.args.chunk.now (omega arith) (omega arith) c.told-chunk
    c.fits-chunk)
