use Rattle.show_run.proofs.T2miEndLemmas.{wanted, at_input}
use Rattle.show_run.proofs.t2mi_lines.T2miLinesMachine.feed.Goals as goal

pub returns-then-eq-clause-becomes : goal.returns-then-eq-clause-becomes
returns-then-eq-clause-becomes c = λ start events came. at_input start _ events c.args._input _
    (wanted c.args.self.now _ _ c.requires.wanted) (c.unpipe.ensures.becomes start events came)

pub returns-clause-becomes : goal.returns-clause-becomes
returns-clause-becomes c = λ start events came. at_input start _ events c.args._input _
    (wanted c.args.self.now _ _ c.requires.wanted) (rw c.front_unit.ensures at
    (c.seek.ensures.becomes start events came))
