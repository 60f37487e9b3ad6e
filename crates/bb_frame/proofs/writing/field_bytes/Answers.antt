use Rattle.bb_frame.proofs.WriteLemmas.{fields_written}
use Rattle.bb_frame.proofs.writing.field_bytes.Goals as goal

pub returns : goal.returns
returns c = rw (c.to_be_bytes.ensures, c.to_be_bytes-2.ensures, c.to_be_bytes-3.ensures)
    (fields_written c.args.header.now)
