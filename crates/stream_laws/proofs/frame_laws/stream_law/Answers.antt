use Rattle.stream_laws.proofs.ReadLemmas.{frames_are_stream}
use Rattle.stream_laws.proofs.frame_laws.stream_law.Goals as goal

pub returns : goal.returns
returns c =
    frames_are_stream (λ w. (c.crc32_law.ensures w).0) c.spell_law.ensures.is c.written_law.ensures.read
    c.written_law.ensures.len
    c.emission_law.ensures.fits c.pre_law.ensures.bits c.post_law.ensures.len
    c.bit_counts_law.ensures c.block_law.ensures.field c.sent_law.ensures.frames
