use Rattle.open_group.proofs.WrittenLemmas.{record_written, muted_written, block_count, rest_length, record_fits}
use Rattle.open_group.proofs.writer_laws.written_law.Goals as goal

pub returns-clause-written : goal.returns-clause-written
returns-clause-written c = record_written c.writing_law.ensures.blocks

pub returns-clause-muted : goal.returns-clause-muted
returns-clause-muted c = muted_written

pub returns-clause-blocks : goal.returns-clause-blocks
returns-clause-blocks c = block_count

pub returns-clause-rest : goal.returns-clause-rest
returns-clause-rest c = rest_length c.pre_law.ensures.bits c.post_law.ensures.conf c.writing_law.ensures.blocks

pub returns-clause-fits : goal.returns-clause-fits
returns-clause-fits c = record_fits c.post_law.ensures.conf c.block_law.ensures.field c.fit_law.ensures.every
