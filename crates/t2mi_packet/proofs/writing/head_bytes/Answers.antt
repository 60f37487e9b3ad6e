use Rattle.std.proofs.Common.{arith}
use Rattle.t2mi_packet.proofs.PutLemmas.{head_written}
use Rattle.t2mi_packet.proofs.writing.head_bytes.Goals as goal

pub returns : goal.returns
returns c =
    rw c.to_be_bytes.ensures
    (head_written c.args.head.now c.args.bytes c.from.result _ c.requires.superframe c.requires.stream c.from.ensures
    (omega (arith, c.requires.short)))
