use Rattle.std.proofs.Common.{length}
use Rattle.config_text.specs.Drafts.{Stands}
use Rattle.config_text.proofs.reading.read_lines.Given as goal

abbrev pub invariant-loop-line : goal.invariant-loop-line
invariant-loop-line l = Stands l.text l.lines l.number l.due l.version l.config

abbrev pub decreases-loop-line : goal.decreases-loop-line
decreases-loop-line l = length l.lines
