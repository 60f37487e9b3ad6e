use Rattle.stream_laws.proofs.StreamLemmas.{length-survival, read_are_survivors, honest_groups, honest_numbers}
use Rattle.stream_laws.proofs.StreamLemmas.{honest_records}
use Rattle.stream_laws.proofs.unit_laws.honest_law.Goals as goal

pub returns-clause-length : goal.returns-clause-length
returns-clause-length c = length-survival

pub returns-clause-read : goal.returns-clause-read
returns-clause-read c = read_are_survivors c.survivor_law.ensures.survive

pub returns-clause-groups : goal.returns-clause-groups
returns-clause-groups c = honest_groups (read_are_survivors c.survivor_law.ensures.survive) c.group_law.ensures

pub returns-clause-numbers : goal.returns-clause-numbers
returns-clause-numbers c = honest_numbers (read_are_survivors c.survivor_law.ensures.survive) c.number_law.ensures

pub returns-clause-records : goal.returns-clause-records
returns-clause-records c = honest_records (read_are_survivors c.survivor_law.ensures.survive) c.record_law.ensures
