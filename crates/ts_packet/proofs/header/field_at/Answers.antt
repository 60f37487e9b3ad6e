use Rattle.ts_packet.proofs.HeaderLemmas.{field_read}
use Rattle.ts_packet.proofs.header.field_at.Goals as goal

pub returns-clause-value : goal.returns-clause-value
returns-clause-value c = field_read c.args.header c.args.at c.args.width c.ranges.header.fits c.requires.narrow
    c.requires.inside
