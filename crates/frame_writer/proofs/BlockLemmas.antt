-- The packet of a block has whole bytes, and there is room for it.
use Rattle.std.proofs.Common.{◌≡◌, ◌≤◌, ℕ, ◌+◌, ◌*◌, ◌++◌, ◌∙◌, Bool, List, ap, arith, length, length-append}
use Rattle.terms.specs.Bits.{field}
use Rattle.terms.proofs.BitLemmas.{length-field}
use Rattle.bit_slice.specs.Crc.{crc32_of}
use Rattle.plp_config.specs.declared.plp.TheConstants.{MOST_BLOCK_BYTES}
use Rattle.t2mi_packet.specs.T2miPacket.{with_crc}
use Rattle.t2mi_packet.specs.declared.reading.TheConstants.{LARGEST}
use Rattle.frame_writer.specs.Whole.{IsWhole}

module _ (head block out : List Bool) (bytes : ℕ) (is : out ≡ head ++ block) (head_len : length head ≡ 72)
    (block_len : length block ≡ 8 * bytes) (short : bytes ≤ MOST_BLOCK_BYTES) where
  -- so many bits stand before the CRC-32
  covered_len : length out ≡ 72 + 8 * bytes
  covered_len = ap length is ∙ omega (arith, length-append head block, head_len, block_len)

  pub has_room : length out + 32 ≤ 8 * LARGEST
  has_room = omega (arith, covered_len, short)

  pub is_whole : (packet : List Bool) → packet ≡ with_crc out → IsWhole packet
  is_whole packet made = record {
    bytes = 13 + bytes;
    len = ap length made ∙ omega (
      arith,
      length-append out (field 32 (crc32_of out)),
      length-field 32 (crc32_of out),
      covered_len,
    );
    room = omega (arith, short);
  }
