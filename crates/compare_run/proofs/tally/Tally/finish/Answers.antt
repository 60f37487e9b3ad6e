use Rattle.compare_run.proofs.LineLemmas.{rest_of}
use Rattle.compare_run.proofs.tally.Tally.finish.Goals as goal

pub returns-clause-text : goal.returns-clause-text
returns-clause-text c = λ of xs s. rest_of of c.args.self.now xs c.rest_line.result s c.rest_line.ensures.text
