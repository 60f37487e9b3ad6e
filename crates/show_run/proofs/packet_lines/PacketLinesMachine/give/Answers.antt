use Rattle.std.proofs.Common.{refl}
use Rattle.show_run.proofs.PacketLinesLemmas.{gave_line, gives_line}
use Rattle.show_run.proofs.packet_lines.PacketLinesMachine.give.Goals as goal

pub returns-clause-becomes : goal.returns-clause-becomes
returns-clause-becomes c = λ start events came.
    gave_line c.events_law.ensures start c.args.self.now _ events _
    (gives_line c.args.self.now.line c.args.self.now.phase c.requires.gives)
    c.give_line.ensures.bytes c.give_line.ensures.given refl refl refl refl came
