use Rattle.bb_frame.proofs.ReadLemmas.{ok_spelled, every_read}
use Rattle.bb_frame.proofs.reading.read_frame.Goals as goal

pub returns-clause-ok : goal.returns-clause-ok
returns-clause-ok c = ok_spelled c.args.bits c.parse.result c.requires c.parse.ensures.ok

pub returns-clause-every : goal.returns-clause-every
returns-clause-every c =
    every_read (λ w. (c.crc8_law.ensures w).0) c.args.bits c.parse.result c.parse.ensures.ok c.parse.ensures.err
