use Rattle.std.proofs.Common.{◌≡◌, drop}
use Rattle.site_top.specs.Commands.{are_inputs}
use Rattle.site_top.proofs.command_line.are_inputs.Given as goal

abbrev pub invariant-loop-word : goal.invariant-loop-word
invariant-loop-word l = are_inputs l.out (drop l.word-index l.ins) ≡ are_inputs l.out l.ins
