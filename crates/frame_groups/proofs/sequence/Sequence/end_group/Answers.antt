use Rattle.std.proofs.Common.{◌-◌, arith}
use Rattle.frame_groups.specs.Waits.{most_number, greatest_step}
use Rattle.frame_groups.proofs.sequence.Sequence.end_group.Goals as goal

pub returns-then-is_some-clause-near : goal.returns-then-is_some-clause-near
returns-then-is_some-clause-near g c = λ bound low h n e. let l = c.close.ensures.near bound low h n
    e in omega (arith, l)

pub begin-requires-clause-near : goal.begin-requires-clause-near
begin-requires-clause-near g c = c.close.ensures.near (most_number - greatest_step) (omega arith) c.requires.near

pub returns-clause-near : goal.returns-clause-near
returns-clause-near g c = λ bound low h. c.begin.ensures.near bound (c.close.ensures.near bound low h)
