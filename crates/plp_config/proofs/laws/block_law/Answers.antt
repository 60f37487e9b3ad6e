use Rattle.plp_config.proofs.TableLemmas.{field_range, block_bits, user_packet_range, capacity_holds_up, cells_by_five}
use Rattle.plp_config.proofs.TableLemmas.{block_chunks}
use Rattle.plp_config.proofs.laws.block_law.Goals as goal

pub returns-clause-field : goal.returns-clause-field
returns-clause-field c = field_range

pub returns-clause-bits : goal.returns-clause-bits
returns-clause-bits c = block_bits

pub returns-clause-user_packet : goal.returns-clause-user_packet
returns-clause-user_packet c = user_packet_range

pub returns-clause-capacity : goal.returns-clause-capacity
returns-clause-capacity c = capacity_holds_up

pub returns-clause-cells : goal.returns-clause-cells
returns-clause-cells c = cells_by_five

pub returns-clause-chunks : goal.returns-clause-chunks
returns-clause-chunks c = block_chunks
