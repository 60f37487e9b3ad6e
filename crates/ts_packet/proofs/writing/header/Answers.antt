use Rattle.std.proofs.Common.{ap, ◌∙◌}
use Rattle.ts_packet.proofs.WritingLemmas.{header_joined}
use mir.Val.{bool_byte}
use Rattle.ts_packet.proofs.writing.header.Goals as goal

pub returns : goal.returns
returns c =
    rw c.from.ensures
    (header_joined c.args.pid c.args.counter c.args.control c.from-starts.result c.from-2.result c.from-3.result
    c.args.pointer
    c.requires.pid c.requires.counter c.requires.control
    (c.from-starts.ensures ∙ ap bool_byte c.is_some.ensures) c.from-2.ensures c.from-3.ensures)
