use Rattle.std.proofs.Common.{◌-◌, refl, arith}
use Rattle.swap_run.specs.declared.phase.Phase.TheVariants as phase
use Rattle.swap_run.proofs.GoLemmas.{shown_met}
use Rattle.swap_run.proofs.NextLemmas.{reach_on, slots_in, slots_next}
use Rattle.swap_run.proofs.machine.SwapMachine.meet.Goals as goal

pub returns-clause-shown : goal.returns-clause-shown
returns-clause-shown c = λ k plp events s.
    shown_met k plp events c.args.self.now s c.due_records_law.ensures.follow c.slot_time_law.ensures.count_rises
    c.length_law.ensures.slot
    c.requires.records c.args.waiting c.requires.waits (let l = c.if-waiting-ge-MOST_FRAMES.false in omega (arith, l))

pub returns-clause-reach : goal.returns-clause-reach
returns-clause-reach c =
    let m = c.args.self.now in
    let was = slots_in m phase.Records c.requires.records in
    let up = slots_next c.slot_time_law.ensures.count_rises c.length_law.ensures.slot m m.swapper (m.number - 1)
    m.number c.requires.came
    (omega arith) refl in
    reach_on m (record m { phase = phase.Packets }) (omega arith) (omega (arith, was, up)) (omega arith)
