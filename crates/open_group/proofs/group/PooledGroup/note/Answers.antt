use Rattle.open_group.proofs.NoteLemmas.{noted_past}
use Rattle.open_group.proofs.group.PooledGroup.note.Goals as goal

pub returns-in-Some-clause-past : goal.returns-in-Some-clause-past
returns-in-Some-clause-past c =
    noted_past c.args.self.now c.note.new.self c.args.number c.in-Some.number c.in-Some.is c.requires
    (rw c.plan.ensures at c.note.ensures.holds)
