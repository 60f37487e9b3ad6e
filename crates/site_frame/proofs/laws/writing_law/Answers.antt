use Rattle.site_frame.proofs.LawLemmas.{spelled_length, written_spells, head_length, written_length, blocks_in_order}
use Rattle.site_frame.proofs.laws.writing_law.Goals as goal

pub returns-clause-spells : goal.returns-clause-spells
returns-clause-spells c = written_spells

pub returns-clause-len : goal.returns-clause-len
returns-clause-len c = spelled_length

pub returns-clause-head : goal.returns-clause-head
returns-clause-head c = head_length

pub returns-clause-written : goal.returns-clause-written
returns-clause-written c = written_length

pub returns-clause-blocks : goal.returns-clause-blocks
returns-clause-blocks c = blocks_in_order
