use Rattle.record_laws.proofs.CountedLemmas.{counted_lengths, counted_blocks, counted_pre, counted_post, counted_start}
use Rattle.record_laws.proofs.FrameLemmas.{frame_length}
use Rattle.record_laws.proofs.laws.frame_law.Goals as goal

pub returns-clause-len : goal.returns-clause-len
returns-clause-len c = frame_length c.bit_counts_law.ensures c.block_law.ensures.field c.post_law.ensures.len

pub returns-clause-counted : goal.returns-clause-counted
returns-clause-counted c = counted_lengths

pub returns-clause-blocks : goal.returns-clause-blocks
returns-clause-blocks c = counted_blocks

pub returns-clause-pre : goal.returns-clause-pre
returns-clause-pre c = counted_pre

pub returns-clause-post : goal.returns-clause-post
returns-clause-post c = counted_post

pub returns-clause-start : goal.returns-clause-start
returns-clause-start c = counted_start c.bit_counts_law.ensures
