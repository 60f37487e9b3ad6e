use Rattle.l1_signal.proofs.PostLemmas.{post_length, conf_part_length, ends_in_its_crc}
use Rattle.l1_signal.proofs.laws.post_law.Goals as goal

pub returns-clause-len : goal.returns-clause-len
returns-clause-len c = post_length

pub returns-clause-crc : goal.returns-clause-crc
returns-clause-crc c = ends_in_its_crc c.crc32_law.ensures

pub returns-clause-conf : goal.returns-clause-conf
returns-clause-conf c = conf_part_length
