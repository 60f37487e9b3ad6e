use Rattle.std.proofs.Common.{[], ◌∷◌, ◌++◌, inr, ◌∙◌, arith}
use Rattle.ts_packet.proofs.FileLemmas.{no_short}
use Rattle.file_run.specs.Events.{Ended, fed}
use Rattle.swap_run.proofs.ShownLemmas.{shown_over, shown_refuse, can_drains}
use Rattle.swap_run.proofs.NextLemmas.{ended_same, zero_one, some_length, nothing_more}
use Rattle.swap_run.proofs.machine.SwapMachine.end_rest.Goals as goal

pub returns-then-rest-gt0-clause-shown : goal.returns-then-rest-gt0-clause-shown
returns-then-rest-gt0-clause-shown c = λ k plp events s.
    let m = c.args.self.now in
    let p = c.args.bytes.now in
    let tell = c.events_law.ensures in
    rw c.refuse.ensures (shown_refuse k plp events m s p (events ++ Ended 1 p ∷ [])
    (can_drains k plp events m s c.requires.drains c.requires.going)
    (ended_same tell 1 0 p events zero_one) (tell.ended 1 p events).here (tell.ended 1 p events).gave
    (some_length p (let l = c.if-rest-gt0.true in omega (arith, l)))
    (no_short p c.requires.short) (inr (tell.ended 1 p events).ended))

pub returns-clause-shown : goal.returns-clause-shown
returns-clause-shown c = λ k plp events s.
    let p = c.args.bytes.now in
    let tell = c.events_law.ensures in
    shown_over k plp events c.args.self.now s (events ++ Ended 1 p ∷ []) c.requires.drains c.requires.going
    (ended_same tell 1 0 p events zero_one)
    ((tell.ended 1 p events).here ∙ nothing_more (fed 1 events) p (let l = c.if-rest-gt0.false in omega (arith, l)))
    (tell.ended 1 p events).ended (tell.ended 1 p events).gave
