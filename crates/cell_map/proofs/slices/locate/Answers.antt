use Rattle.std.proofs.Common.{arith, inl, inr}
use Rattle.cell_map.proofs.MeetingLemmas.{no_place}
use Rattle.cell_map.proofs.slices.locate.Goals as goal

pub returns-then-slice-slices-clause-none : goal.returns-then-slice-slices-clause-none
returns-then-slice-slices-clause-none c =
    no_place c.args.slices.start c.args.slices.len c.args.slices.count c.args.interval c.args.address c.requires.apart
    c.if-slices-eq1.false (omega arith) (inl (omega arith))

pub returns-then-inner-slices-clause-none : goal.returns-then-inner-slices-clause-none
returns-then-inner-slices-clause-none c =
    no_place c.args.slices.start c.args.slices.len c.args.slices.count c.args.interval c.args.address c.requires.apart
    c.if-slices-eq1.false (omega arith) (inr (omega arith))
