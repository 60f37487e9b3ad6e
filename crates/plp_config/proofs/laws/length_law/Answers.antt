use Rattle.plp_config.proofs.TableLemmas.{slot_length, frame_ticks, epoch_ticks_range, frame_quarter}
use Rattle.plp_config.proofs.TableLemmas.{sound_times}
use Rattle.plp_config.proofs.laws.length_law.Goals as goal

pub returns-clause-slot : goal.returns-clause-slot
returns-clause-slot c = slot_length

pub returns-clause-frame : goal.returns-clause-frame
returns-clause-frame c = frame_ticks

pub returns-clause-epoch : goal.returns-clause-epoch
returns-clause-epoch c = epoch_ticks_range

pub returns-clause-quarter : goal.returns-clause-quarter
returns-clause-quarter c = frame_quarter

pub returns-clause-times : goal.returns-clause-times
returns-clause-times c = sound_times
