use Rattle.std.proofs.Common.{ℕ, [], ◌∷◌, ◌++◌, subst, arith}
use Rattle.file_run.specs.Events.{Ended}
use Rattle.region_swap.specs.StandsFor.{status_of}
use Rattle.swap_run.specs.Shown.{Shown}
use Rattle.swap_run.specs.declared.phase.Phase.TheVariants as phase
use Rattle.swap_run.proofs.FeedLemmas.{ended_one}
use Rattle.swap_run.proofs.NextLemmas.{ended_same, one_zero}
use Rattle.swap_run.proofs.ShownLemmas.{of_in, shown_feed}
use Rattle.swap_run.proofs.StepLemmas.{short, short_else}
use Rattle.swap_run.proofs.machine.SwapMachineMachine.end_input.Goals as goal

pub end_packets-requires-clause-wanted : goal.end_packets-requires-clause-wanted
end_packets-requires-clause-wanted c =
    (short c.args.self.now c.args._input _ c.requires.wanted phase.Packets c.in-Packets.is).0.some

pub end_packets-requires-clause-short : goal.end_packets-requires-clause-short
end_packets-requires-clause-short c =
    (short c.args.self.now c.args._input _ c.requires.wanted phase.Packets c.in-Packets.is).1

pub end_rest-requires : goal.end_rest-requires
end_rest-requires c =
    let m = c.args.self.now in
    let d = short_else m c.args._input _ c.requires.wanted c.in_default.not-Records c.in_default.not-Packets in
    let w = short m c.args._input _ c.requires.wanted phase.Drains d in
    record { drains = d; going = w.0.going; short = w.1 }

pub returns-in-Records-clause-becomes : goal.returns-in-Records-clause-becomes
returns-in-Records-clause-becomes c = λ start events s.
    let k = start.plan.now in
    let plp = (status_of start.swapper).plp in
    let m = c.args.self.now in
    let w = short m c.args._input _ c.requires.wanted phase.Records c.in-Records.is in
    let p = c.args.bytes.now in
    let g = c.finish.new.self in
    let tell = c.events_law.ensures in
    subst (λ (i : ℕ). Shown k plp (events ++ Ended i p ∷ []) (record m { feed = g })) w.0.at
    (shown_feed k plp events m s g (events ++ Ended 0 p ∷ []) c.in-Records.is (ended_same tell 0 1 p events one_zero)
    (tell.ended 0 p events).gave
    (ended_one tell k m.feed g events p s.read.given (record { none = w.0.none; going = w.0.going })
    c.finish.ensures.config
    (of_in k plp events m s phase.Records c.in-Records.is) (let l = w.1 in omega (arith, l)) c.finish.ensures.stands))

pub returns-in-Packets-clause-becomes : goal.returns-in-Packets-clause-becomes
returns-in-Packets-clause-becomes c = λ start events s.
    let k = start.plan.now in
    let plp = (status_of start.swapper).plp in
    let w = (short c.args.self.now c.args._input _ c.requires.wanted phase.Packets c.in-Packets.is).0 in
    subst (λ (i : ℕ). Shown k plp (events ++ Ended i c.args.bytes.now ∷ []) c.end_packets.new.self) w.at
    (c.end_packets.ensures.shown k plp events s)

pub returns-in_default : goal.returns-in_default
returns-in_default c =
    let m = c.args.self.now in
    let d = short_else m c.args._input _ c.requires.wanted c.in_default.not-Records c.in_default.not-Packets in
    let w = short m c.args._input _ c.requires.wanted phase.Drains d in
    record {
      becomes = λ start events s.
          let k = start.plan.now in
          let plp = (status_of start.swapper).plp in
          subst (λ (i : ℕ). Shown k plp (events ++ Ended i c.args.bytes.now ∷ []) c.end_rest.new.self) w.0.at
          (c.end_rest.ensures.shown k plp events s);
      reach = c.end_rest.ensures.reach;
    }
