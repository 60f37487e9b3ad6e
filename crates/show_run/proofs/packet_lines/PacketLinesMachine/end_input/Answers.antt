use Rattle.std.proofs.Common.{rules, refl, arith}
use Rattle.show_run.proofs.PacketLinesLemmas.{ended_all, ended_within}
use Rattle.show_run.proofs.packet_lines.PacketLinesMachine.end_input.Goals as goal

pub returns-then-is_empty-clause-becomes : goal.returns-then-is_empty-clause-becomes
returns-then-is_empty-clause-becomes c =
    λ start events came. ended_all c.events_law.ensures start c.args.self.now _ events c.args._input c.args._bytes.now
    c.requires.wanted (search (rules, arith)) refl c.count_line-self.ensures.text refl refl came

pub returns-else-is_empty-clause-becomes : goal.returns-else-is_empty-clause-becomes
returns-else-is_empty-clause-becomes c =
    λ start events came. ended_within c.events_law.ensures start c.args.self.now _ events c.args._input
    c.args._bytes.now
    c.requires.wanted (search (rules, arith)) refl refl refl refl refl came
