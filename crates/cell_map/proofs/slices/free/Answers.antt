use Rattle.std.proofs.Common.{arith, inr, ◌-◌, ◌/◌, ◌%◌}
use Rattle.std.proofs.lemmas.Nat.{div-add-mod'}
use Rattle.cell_map.proofs.MeetingLemmas.{next_slice}
use Rattle.cell_map.proofs.slices.free.Goals as goal

pub returns-clause-none : goal.returns-clause-none
returns-clause-none c = λ k t hk ht far.
    let end = next_slice c.args.slices.start c.args.slices.len c.args.slices.count c.args.interval c.args.address k t
    c.requires.apart c.if-slices-eq1.false (omega arith) (inr (omega arith)) hk ht far in
    omega (arith, end.1, c.min-2.ensures)

pub returns-then-rest-slices-clause-greatest : goal.returns-then-rest-slices-clause-greatest
returns-then-rest-slices-clause-greatest c = λ more. record {
  slice = 0;
  inner = c.args.address - c.args.slices.start;
  some = c.requires.some;
  within = omega arith;
  here = omega arith;
}

pub returns-then-inner-slices-clause-greatest : goal.returns-then-inner-slices-clause-greatest
returns-then-inner-slices-clause-greatest c = λ more. record {
  slice = (c.args.address - c.args.slices.start) / c.args.interval;
  inner = (c.args.address - c.args.slices.start) % c.args.interval;
  some = omega arith;
  within = omega arith;
  here = omega (arith, div-add-mod' (c.args.address - c.args.slices.start) c.args.interval);
}
