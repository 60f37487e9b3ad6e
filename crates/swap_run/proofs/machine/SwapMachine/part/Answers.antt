use Rattle.std.proofs.Common.{◌-◌, refl, arith, true}
use Rattle.swap_run.specs.declared.phase.Phase.TheVariants as phase
use Rattle.swap_run.proofs.GoLemmas.{shown_nothing}
use Rattle.swap_run.proofs.NextLemmas.{reach_on, slots_in, slots_next, drained_more}
use Rattle.swap_run.proofs.machine.SwapMachine.part.Goals as goal

pub returns-then-not-self-clause-shown : goal.returns-then-not-self-clause-shown
returns-then-not-self-clause-shown c = λ k plp events s.
    shown_nothing k plp events c.args.self.now s c.requires.records c.requires.none c.requires.over c.if-not-self.true

pub returns-clause-reach : goal.returns-clause-reach
returns-clause-reach c =
    let m = c.args.self.now in
    let was = slots_in m phase.Records c.requires.records in
    let up = slots_next c.slot_time_law.ensures.count_rises c.length_law.ensures.slot m m.swapper (m.number - 1)
    m.number c.requires.came
    (omega arith) refl in
    reach_on m (record m { phase = phase.Drains; draining = true }) (omega arith) (omega (arith, was, up))
    (drained_more m.draining m.ran.unsent)
