use Rattle.std.proofs.Common.{◌≡◌, ℕ, true, false, sym, ◌∙◌, arith}
use Rattle.cell_map.specs.CellMap.{Shares}
use Rattle.cell_map.proofs.MeetingLemmas.{more_below}
use Rattle.cell_map.proofs.faults.partner.Goals as goal

pub loop-k-preserved : goal.loop-k-preserved
loop-k-preserved c =
    let exact = rw (c.from.ensures, c.from-in-loop-k.ensures) at c.shares.ensures in
    more_below (λ (j : ℕ). ¬ (Shares c.args.plan.now c.args.shape.now c.args.first j)) c.args.first c.loop-k.k
    c.loop-k.invariant
    (λ s. let never : true ≡ false = sym (exact.1 s) ∙ c.if-shares.false in cc)

pub returns-clause-none : goal.returns-clause-none
returns-clause-none c = λ k a b. c.loop-k.invariant k a
    (omega (arith, rw c.config.ensures.value at c.len-k-end.ensures))
