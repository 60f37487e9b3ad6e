use Rattle.std.proofs.Common.{ap, ◌∙◌}
use Rattle.terms.specs.Bits.{bytes_of}
use Rattle.ts_packet.proofs.WritingLemmas.{big_bytes}
use Rattle.ts_packet.proofs.writing.header_bytes.Goals as goal

pub returns : goal.returns
returns c = c.to_be_bytes.ensures ∙ big_bytes c.header.result c.header.type_inv ∙ ap bytes_of c.header.ensures
