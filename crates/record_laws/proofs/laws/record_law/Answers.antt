use Rattle.record_laws.proofs.CountedLemmas.{counted_records, counted_frames}
use Rattle.record_laws.proofs.RecordLemmas.{records_on_grid, all_whole}
use Rattle.record_laws.proofs.laws.record_law.Goals as goal

pub returns-clause-grid : goal.returns-clause-grid
returns-clause-grid c = records_on_grid

pub returns-clause-counted : goal.returns-clause-counted
returns-clause-counted c = counted_records

pub returns-clause-whole : goal.returns-clause-whole
returns-clause-whole c = all_whole

pub returns-clause-frames : goal.returns-clause-frames
returns-clause-frames c = counted_frames
