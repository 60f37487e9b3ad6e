use Rattle.cell_map.proofs.RunLemmas.{to_row}
use Rattle.cell_map.proofs.runs.step.Goals as goal

pub returns : goal.returns
returns c = to_row c.args.run c.requires.left c.requires.column c.if-run.false c.requires.block c.if-run-2.false
