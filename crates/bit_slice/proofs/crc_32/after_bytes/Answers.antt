use Rattle.std.proofs.Common.{length, ◌/◌, ◌∙◌}
use Rattle.bit_slice.proofs.RunLemmas.{chunks_first}
use Rattle.bit_slice.proofs.crc_32.after_bytes.Goals as goal

pub returns : goal.returns
returns c =
    c.after_few-2.ensures
    ∙ chunks_first 144 32 0x04C1_1DB7 c.args.register c.after_blocks.result c.args.bytes.now c.as_chunks.result.1.now
    c.as_chunks.result.0.now
    (length c.args.bytes.now / 144) c.as_chunks.ensures.front c.as_chunks.ensures.back c.after_blocks.ensures
