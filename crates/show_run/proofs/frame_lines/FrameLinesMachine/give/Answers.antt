use Rattle.std.proofs.Common.{refl}
use Rattle.show_run.proofs.FrameGivenLemmas.{gave_line, gives_line}
use Rattle.show_run.proofs.frame_lines.FrameLinesMachine.give.Goals as goal

pub returns-clause-becomes : goal.returns-clause-becomes
returns-clause-becomes c = λ start events came.
    gave_line c.events_law.ensures start c.args.self.now _ events _ (gives_line c.args.self.now.line _ c.requires.gives)
    c.give_line.ensures.bytes c.give_line.ensures.given refl came
