use Rattle.std.proofs.Common.{ap, subst, sym, [], ◌∷◌, ◌++◌, arith}
use Rattle.std.proofs.lemmas.List.{nil_from_length}
use Rattle.file_run.specs.Events.{Ended}
use Rattle.gateway_run.specs.Holds.{Holds}
use Rattle.gateway_run.specs.Ready.{IsReady}
use Rattle.gateway_run.specs.declared.place.Place.{Place}
use Rattle.ts_packet.proofs.FileLemmas.{no_short}
use Rattle.gateway_run.proofs.TakeLemmas.{input_ended, ended_stopped, met_bad, some_bytes}
use Rattle.gateway_run.proofs.ReadyLemmas.{ready_on}
use Rattle.gateway_run.proofs.WaitingLemmas.{waits}
use Rattle.gateway_run.proofs.steps.end_input.Goals as goal

pub returns-then-rest-gt0-clause-holds : goal.returns-then-rest-gt0-clause-holds
returns-then-rest-gt0-clause-holds g c = λ done h.
    let way = g.G.FrameGateway.sharing in
    let s = g.G.FrameGateway.seen c.args.gateway.now c.args.plan.now in
    let some = some_bytes _ c.if-rest-gt0.true in
    let w = waits way c.args.plan.now s _ c.args.place c.args.ran c.requires.ready done c.requires.wants in
    let wants = s.wants c.args.place.input in
    ended_stopped wants w h c.events_law.ensures _ c.args.bytes.now _ (ap (λ (p : Place). p.phase) c.bad.ensures) some
    (met_bad wants w h c.args.bytes.now some (no_short _ c.requires.short))

pub returns-clause-holds : goal.returns-clause-holds
returns-clause-holds g c = λ done h.
    let way = g.G.FrameGateway.sharing in
    let s = g.G.FrameGateway.seen c.args.gateway.now c.args.plan.now in
    let next = g.G.FrameGateway.seen c.end_input.new.self c.args.plan.now in
    subst (λ (p : Place). Holds way c.args.plan.now (done ++ Ended c.args.place.input c.args.bytes.now ∷ [])
    next.stands p
    c.args.ran) (sym c.place_by.ensures)
    (input_ended (s.wants c.args.place.input)
    (waits way c.args.plan.now s _ c.args.place c.args.ran c.requires.ready done c.requires.wants) h
    c.events_law.ensures next.stands c.end_input.result c.args.bytes.now
    (nil_from_length _ (omega (arith, c.if-rest-gt0.false))) c.end_input.ensures.stands)

pub returns-clause-ready : goal.returns-clause-ready
returns-clause-ready g c =
    let next = g.G.FrameGateway.seen c.end_input.new.self c.args.plan.now in
    subst (λ (p : Place). IsReady g.G.FrameGateway.sharing c.args.plan.now next
    (g.G.FrameGateway.status c.end_input.new.self) p
    c.args.ran) (sym c.place_by.ensures)
    (ready_on g.G.FrameGateway.sharing c.args.plan.now (g.G.FrameGateway.seen c.args.gateway.now c.args.plan.now)
    next _ _
    c.args.place c.end_input.result c.args.ran c.requires.ready c.requires.wants c.end_input.ensures.status
    c.end_input.ensures.asks)
