use Rattle.std.proofs.Common.{arith, sym}
use Rattle.compare_run.proofs.CarriedLemmas.{block_there, no_block}
use Rattle.compare_run.proofs.answering.block_place.Goals as goal

pub returns-in-Some : goal.returns-in-Some
returns-in-Some c =
    let size = c.requires in
    let lt = c.loop-plp-test.true in
    block_there c.args.plan.now c.args.others.now c.loop-plp.plp c.plp_id.result c.in-Some.other c.loop-plp.invariant
    (omega (arith, size, lt)) c.in-Some.is c.plp_id.ensures

pub returns : goal.returns
returns c =
    let size = c.requires in
    let le = c.loop-plp-test.false in
    sym (no_block c.args.plan.now _ (λ j l. c.loop-plp.invariant j (omega (arith, size, le, l))))
