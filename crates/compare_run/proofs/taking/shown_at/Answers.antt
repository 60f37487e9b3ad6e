use Rattle.compare_run.proofs.NoteLemmas.{brings_of}
use Rattle.compare_run.proofs.TakeLemmas.{waits_at}
use Rattle.compare_run.proofs.taking.shown_at.Goals as goal

pub returns-clause-brings : goal.returns-clause-brings
returns-clause-brings c = λ here gs g.
    let w = waits_at c.args.number _ here in
    brings_of c.args.feed.now c.blocks-2.result w.0 c.args.number gs c.blocks-2.ensures.some c.blocks-2.ensures.none
    w.1 w.2 g
