use Rattle.open_group.proofs.writer.build.Goals as goal

pub returns-in-Cells-clause-step : goal.returns-in-Cells-clause-step
returns-in-Cells-clause-step c = c.build_cells.ensures.step c.args.pool.now.lists
