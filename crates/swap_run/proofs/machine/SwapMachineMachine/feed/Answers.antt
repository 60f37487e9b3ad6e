use Rattle.std.proofs.Common.{ℕ, length, [], ◌∷◌, ◌++◌, take, sym, subst, ◌∙◌, arith}
use Rattle.ts_packet.specs.declared.sizes.TheConstants.{SIZE}
use Rattle.file_run.specs.Events.{Fed}
use Rattle.region_swap.specs.StandsFor.{status_of}
use Rattle.swap_run.specs.Shown.{Shown}
use Rattle.swap_run.specs.declared.phase.Phase.TheVariants as phase
use Rattle.swap_run.proofs.FeedLemmas.{fed_one}
use Rattle.swap_run.proofs.NextLemmas.{fed_same, one_zero}
use Rattle.swap_run.proofs.ShownLemmas.{has_shown, of_in, shown_feed}
use Rattle.swap_run.proofs.StepLemmas.{enough, enough_else, packets_apart}
use Rattle.swap_run.proofs.WantLemmas.{room_of, few_of}
use Rattle.swap_run.proofs.machine.SwapMachineMachine.feed.Goals as goal

pub take_packet-requires-clause-wanted : goal.take_packet-requires-clause-wanted
take_packet-requires-clause-wanted c =
    (enough c.args.self.now c.args._input _ c.requires.wanted phase.Packets c.in-Packets.is).0.some

pub take_packet-requires-clause-long : goal.take_packet-requires-clause-long
take_packet-requires-clause-long c =
    (enough c.args.self.now c.args._input _ c.requires.wanted phase.Packets c.in-Packets.is).1

pub drain_packet-requires : goal.drain_packet-requires
drain_packet-requires c =
    let m = c.args.self.now in
    let r = c.requires.room in
    let d = enough_else m c.args._input _ c.requires.wanted c.in_default.not-Records c.in_default.not-Packets in
    let w = enough m c.args._input _ c.requires.wanted phase.Drains d in
    record {
      drains = d;
      going = w.0.going;
      long = w.1;
      few = few_of _ _ r.events m c.args._input
          (length c.args.bytes.now) r.came c.requires.wanted r.few c.in_default.not-Records;
      came = has_shown
          m ∣ record { start = r.start; events = r.events; came = r.came } ∣₁;
    }

pub returns-in-Records-clause-becomes : goal.returns-in-Records-clause-becomes
returns-in-Records-clause-becomes c = λ start events s.
    let k = start.plan.now in
    let plp = (status_of start.swapper).plp in
    let m = c.args.self.now in
    let w = (enough m c.args._input _ c.requires.wanted phase.Records c.in-Records.is).0 in
    let p = take c.feed.result c.args.bytes.now in
    let g = c.feed.new.self in
    let tell = c.events_law.ensures in
    subst (λ (i : ℕ). Shown k plp (events ++ Fed i p ∷ []) (record m { feed = g })) w.at
    (shown_feed k plp events m s g (events ++ Fed 0 p ∷ []) c.in-Records.is (fed_same tell 0 1 p events one_zero)
    (tell.fed 0 p events).gave
    (fed_one tell k m.feed g events p s.read.given (record { none = w.none; going = w.going }) c.feed.ensures.config
    (of_in k plp events m s phase.Records c.in-Records.is) c.feed.ensures.stands))

pub returns-in-Packets-clause-becomes : goal.returns-in-Packets-clause-becomes
returns-in-Packets-clause-becomes c = λ start events s.
    let k = start.plan.now in
    let plp = (status_of start.swapper).plp in
    let w = (enough c.args.self.now c.args._input _ c.requires.wanted phase.Packets c.in-Packets.is).0 in
    subst (λ (i : ℕ). Shown k plp (events ++ Fed i (take SIZE c.args.bytes.now) ∷ []) c.take_packet.new.self) w.at
    (c.take_packet.ensures.shown k plp events s)

pub returns-in-Packets-clause-some : goal.returns-in-Packets-clause-some
returns-in-Packets-clause-some c =
    let w = (enough c.args.self.now c.args._input _ c.requires.wanted phase.Packets c.in-Packets.is).1 in
    (omega arith, omega (arith, w))

pub returns-in_default : goal.returns-in_default
returns-in_default c =
    let m = c.args.self.now in
    let d = enough_else m c.args._input _ c.requires.wanted c.in_default.not-Records c.in_default.not-Packets in
    let w = enough m c.args._input _ c.requires.wanted phase.Drains d in
    let long = w.1 in
    record {
      some = (omega arith, omega (arith, long));
      becomes = λ start events s.
          let k = start.plan.now in
          let plp = (status_of start.swapper).plp in
          subst (λ (i : ℕ). Shown k plp (events ++ Fed i (take SIZE c.args.bytes.now) ∷ []) c.drain_packet.new.self)
          w.0.at
          (c.drain_packet.ensures.shown k plp events s);
      reach = c.drain_packet.ensures.reach;
    }

pub feed-requires-clause-room : goal.feed-requires-clause-room
feed-requires-clause-room c =
    let r = c.requires.room in
    room_of _ _ r.events c.args.self.now c.args._input (length c.args.bytes.now) r.came c.requires.wanted
    r.few c.in-Records.is

pub take_packet-requires-clause-few : goal.take_packet-requires-clause-few
take_packet-requires-clause-few c =
    let r = c.requires.room in
    few_of _ _ r.events c.args.self.now c.args._input (length c.args.bytes.now) r.came c.requires.wanted r.few
    (λ e. packets_apart (sym c.in-Packets.is ∙ e))
