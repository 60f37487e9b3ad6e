use Rattle.std.proofs.Common.{arith}
use Rattle.bit_slice.proofs.TableLemmas.{entry_is}
use Rattle.bit_slice.proofs.crc_32.entry.Goals as goal

pub returns : goal.returns
returns c = entry_is c.args.table c.args.byte c.requires (omega arith)
