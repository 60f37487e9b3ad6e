use Rattle.compare_run.specs.Comparing.{answered}
use Rattle.compare_run.proofs.LineLemmas.{stands_more, known_of}
use Rattle.compare_run.proofs.tally.Tally.add.Goals as goal

pub returns-clause-stands : goal.returns-clause-stands
returns-clause-stands c = λ xs s.
    stands_more c.args.self.now _ xs (answered c.args.frame c.args.answer) s c.open_behind-self.ensures
    c.counted-self.ensures

pub returns-clause-told : goal.returns-clause-told
returns-clause-told c = λ of xs s.
    known_of of c.args.self.now xs (answered c.args.frame c.args.answer) c.told_lines-line.result s
    c.told_lines-line.ensures.text
