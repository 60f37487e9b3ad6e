use Rattle.std.proofs.Common.{arith, ◌≡◌, ◌<◌, ◌≤◌, ◌+◌, ℕ, ⊎_elim, subst}
use Rattle.std.proofs.lemmas.Bool.{cases_lt}
use Rattle.cell_map.specs.Runs.{LeavesFree, HasCell}
use Rattle.cell_map.proofs.MeetingLemmas.{more_below}
use Rattle.cell_map.proofs.search.dummies.Goals as goal

pub loop-plp-preserved : goal.loop-plp-preserved
loop-plp-preserved c = record {
  free = λ k lt. more_below (λ (j : ℕ). LeavesFree c.args.plan.now c.args.shape.now c.args.frame_idx j c.args.address
      c.free_of-free.result) 0
      c.loop-plp.plp
      (λ j x y. (λ b q cell far. omega (
        arith,
        c.loop-plp.invariant.free j y b q cell far,
        c.free_of-free.ensures.most,
      )))
      c.free_of-free.ensures.free k (omega arith) lt;
  greatest =
      λ more. ⊎_elim (λ (less : c.free_of-free.result < c.loop-plp.free).
      (c.loop-plp.plp, c.free_of-free.ensures.greatest less))
      (λ (as_many : c.loop-plp.free ≤ c.free_of-free.result).
      let same : c.loop-plp.free ≡ c.free_of-free.result = omega (arith, as_many, c.free_of-free.ensures.most) in
      subst (λ (n : ℕ). (plp : ℕ) × HasCell c.args.plan.now c.args.shape.now c.args.frame_idx plp (c.args.address + n))
      same
      (c.loop-plp.invariant.greatest (omega (arith, more, same))))
      (cases_lt c.free_of-free.result c.loop-plp.free);
}
