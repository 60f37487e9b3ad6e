use Rattle.std.proofs.Common.{ap, subst, sym, ◌∙◌, List, [], ◌∷◌, ◌++◌, ℕ, take, length, slice_index_or}
use Rattle.std.proofs.lemmas.List.{length-take-le}
use Rattle.ts_packet.specs.declared.sizes.TheConstants.{SIZE}
use Rattle.file_run.specs.Events.{Fed}
use Rattle.gateway_run.specs.Holds.{Holds}
use Rattle.gateway_run.specs.Ready.{IsReady}
use Rattle.gateway_run.specs.declared.place.Place.{Place}
use Rattle.ts_packet.proofs.FileLemmas.{no_sync, some_taken}
use Rattle.gateway_run.proofs.TakeLemmas.{packet_offered, fed_stopped, met_bad}
use Rattle.gateway_run.proofs.ReadyLemmas.{ready_on}
use Rattle.gateway_run.proofs.WaitingLemmas.{waits}
use Rattle.gateway_run.proofs.steps.take_packet.Goals as goal

pub returns-then-as_array-ne-SYNC-clause-holds : goal.returns-then-as_array-ne-SYNC-clause-holds
returns-then-as_array-ne-SYNC-clause-holds g c = λ done h.
    let way = g.G.FrameGateway.sharing in
    let s = g.G.FrameGateway.seen c.args.gateway.now c.args.plan.now in
    let first = ap (λ (l : List ℕ). slice_index_or l 0 0) (c.as_array.ensures.bytes ∙ c.front_of-packet.ensures) in
    let some = some_taken _ c.requires.long in
    let w = waits way c.args.plan.now s _ c.args.place c.args.ran c.requires.ready done c.requires.wants in
    let wants = s.wants c.args.place.input in
    let packet = take SIZE c.args.bytes.now in
    fed_stopped wants w h c.events_law.ensures _ packet _ (ap (λ (p : Place). p.phase) c.bad.ensures) some
    (λ e. c.if-as_array-ne-SYNC.true (first ∙ e))
    (met_bad wants w h packet some (no_sync packet (λ e. c.if-as_array-ne-SYNC.true (first ∙ e))))

pub returns-clause-holds : goal.returns-clause-holds
returns-clause-holds g c = λ done h.
    let way = g.G.FrameGateway.sharing in
    let s = g.G.FrameGateway.seen c.args.gateway.now c.args.plan.now in
    let next = g.G.FrameGateway.seen c.offer.new.self c.args.plan.now in
    subst (λ (p : Place). Holds way c.args.plan.now (done ++ Fed c.args.place.input (take SIZE c.args.bytes.now) ∷ [])
    next.stands p
    c.args.ran) (sym c.place_by.ensures)
    (packet_offered (s.wants c.args.place.input)
    (waits way c.args.plan.now s _ c.args.place c.args.ran c.requires.ready done c.requires.wants) h
    c.events_law.ensures next.stands c.offer.result c.front_of-packet.result (take SIZE c.args.bytes.now)
    c.front_of-packet.ensures
    (ap length c.front_of-packet.ensures ∙ length-take-le SIZE c.args.bytes.now c.requires.long)
    (let a = c.as_array.ensures.bytes in let f = c.if-as_array-ne-SYNC.false in cc) c.offer.ensures.stands)

pub returns-clause-ready : goal.returns-clause-ready
returns-clause-ready g c =
    let next = g.G.FrameGateway.seen c.offer.new.self c.args.plan.now in
    subst (λ (p : Place). IsReady g.G.FrameGateway.sharing c.args.plan.now next
    (g.G.FrameGateway.status c.offer.new.self) p
    c.args.ran) (sym c.place_by.ensures)
    (ready_on g.G.FrameGateway.sharing c.args.plan.now (g.G.FrameGateway.seen c.args.gateway.now c.args.plan.now)
    next _ _
    c.args.place c.offer.result c.args.ran c.requires.ready c.requires.wants c.offer.ensures.status
    c.offer.ensures.asks)
