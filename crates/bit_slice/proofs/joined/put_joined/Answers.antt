use Rattle.std.proofs.Common.{sym}
use Rattle.bit_slice.proofs.SinkLemmas.{second_stops}
use Rattle.bit_slice.proofs.joined.put_joined.Goals as goal

pub returns-clause-fault : goal.returns-clause-fault
returns-clause-fault g c =
    second_stops _ _ _ c.bits.inside.front c.bits.inside.back c.args.bits c.put_slice-2.result
    c.in_ok-put_slice.ensures.ok
    c.put_slice-2.ensures.fault c.put_slice-2.ensures.err (sym c.bits.view_is)
