use Rattle.std.proofs.Common.{◌≤◌, length, arith}
use Rattle.l1_signal.proofs.ValueLemmas.{shape_is}
use Rattle.l1_signal.proofs.values.shape_of.Goals as goal

pub returns : goal.returns
returns c =
    let i = c.loop-place.invariant in
    let same = rw c.set_type2.ensures at c.len-place-end.ensures.counts in
    let all : length c.args.dynamic.now.plps ≤ c.loop-place.place = omega (arith, same, c.requires) in
    shape_is c.args.dynamic.now c.loop-place.out i.counts_len i.starts_len (λ k lt. i.counts k (omega (arith, lt, all)))
    (λ k lt. i.starts k (omega (arith, lt, all))) i.interval i.type2_start
