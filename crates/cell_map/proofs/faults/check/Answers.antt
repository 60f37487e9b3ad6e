use Rattle.std.proofs.Common.{arith, refl}
use Rattle.cell_map.proofs.FrameLemmas.{not_shared}
use Rattle.cell_map.proofs.MeetingLemmas.{never_law}
use Rattle.cell_map.proofs.ShareLemmas.{least_from, pairs_more, passes_from}
use Rattle.cell_map.proofs.faults.check.Goals as goal

pub returns-in-Some-clause-fault : goal.returns-in-Some-clause-fault
returns-in-Some-clause-fault c =
    let some = c.in-Some.ensures.some in
    let all = rw c.config.ensures.value at c.len-plps.ensures in (
      λ k h. c.loop-plp.invariant k (omega (arith, all)),
      some.0,
      some.2,
      least_from c.args.plan.now c.args.shape.now c.loop-first.first c.in-Some.second c.loop-first.invariant some.3,
    )

pub loop-first-preserved : goal.loop-first-preserved
loop-first-preserved c =
    pairs_more c.args.plan.now c.args.shape.now c.loop-first.first c.loop-first.invariant c.in-None.ensures.none

pub returns-clause-ok : goal.returns-clause-ok
returns-clause-ok c =
    let all = rw c.config.ensures.value at c.len-plps.ensures in (
      λ _. passes_from c.args.plan.now c.args.shape.now (λ k h. c.loop-plp.invariant k (omega (arith, all)))
          (λ h k a b d. c.loop-first.invariant h k (omega (arith, all)) b d),
      λ _. refl,
    )

pub returns-in-Some-clause-ok : goal.returns-in-Some-clause-ok
returns-in-Some-clause-ok c =
    never_law (λ passes. not_shared c.args.plan.now c.args.shape.now c.loop-first.first c.in-Some.second passes
    c.in-Some.ensures.some.2)
