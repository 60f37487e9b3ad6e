use Rattle.std.proofs.Common.{◌+◌, ap, arith}
use Rattle.region_swap.specs.StandsFor.{Status}
use Rattle.swap_run.specs.declared.phase.Phase.TheVariants as phase
use Rattle.swap_run.proofs.GoLemmas.{shown_pass}
use Rattle.swap_run.proofs.NextLemmas.{reach_on, slots_in, slots_next, frame_is, packets_early}
use Rattle.swap_run.proofs.NextLemmas.{packets_idle}
use Rattle.swap_run.proofs.machine.SwapMachine.pass_frame.Goals as goal

pub returns-clause-shown : goal.returns-clause-shown
returns-clause-shown c = λ k plp events s.
    let p = c.pass.ensures in
    shown_pass k plp events c.args.self.now s c.slot_time_law.ensures.count_rises c.length_law.ensures.slot
    c.pass.new.self c.args.waiting
    c.requires.packets c.requires.waits c.requires.before
    (record { stands = p.stands; unit = p.unit; status = p.status })

pub returns-clause-reach : goal.returns-clause-reach
returns-clause-reach c =
    let m = c.args.self.now in
    let n = record m { swapper = c.pass.new.self; number = m.number + 1 } in
    let was = slots_in m phase.Packets c.requires.packets in
    let now = slots_in n phase.Packets c.requires.packets in
    let up = slots_next c.slot_time_law.ensures.count_rises c.length_law.ensures.slot m c.pass.new.self
    m.number (m.number + 1) c.requires.came
    (omega arith) (ap (λ (x : Status). x.plp) c.pass.ensures.status) in
    reach_on m n (omega arith) (omega (arith, was, now, up)) (omega arith)

pub pass-requires-clause-early : goal.pass-requires-clause-early
pass-requires-clause-early c =
    let m = c.args.self.now in
    let at = frame_is m c.requires.came in
    let early = packets_early m c.requires.came c.requires.packets c.args.waiting c.requires.waits in
    let less = c.requires.before in
    omega (arith, at, early, less)

pub pass-requires-clause-given : goal.pass-requires-clause-given
pass-requires-clause-given c = λ _. packets_idle c.args.self.now c.requires.came c.requires.packets
